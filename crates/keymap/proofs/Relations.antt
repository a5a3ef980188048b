-- Keys and values as a relation: its beginnings, its longest key for an input, and what a key shares with it. Assumes nothing.
use Rattle.std.proofs.Common.{ℕ, ◌+◌, ◌<◌, ◌≤◌, min, List, ◌++◌, length, take}

-- some key begins with p
abbrev pub Begun : {V : Type 0} → (List ℕ → V → Type 0) → List ℕ → Type 0
Begun {V} Has p = (t : List ℕ) × (v : V) × Has (p ++ t) v

-- the longest key that r begins with has d bytes and the value v
pub record Longest {V : Type 0} (Has : List ℕ → V → Type 0) (r : List ℕ) (d : ℕ) (v : V) : Type 0 where
  pub within : d ≤ length r
  pub stored : Has (take d r) v
  pub longest : (e : ℕ) (x : V) → d < e → e ≤ length r → Has (take e r) x → ⊥

-- some key longer than d bytes begins with the first m bytes of r, m the smaller of the length of r and d + 1
abbrev pub Longer : {V : Type 0} → (List ℕ → V → Type 0) → List ℕ → ℕ → Type 0
Longer {V} Has r d = (t : List ℕ) × (v : V) × Has (take (min (length r) (d + 1)) r ++ t) v × (d < min (length r) (d + 1) + length t)

-- the longest beginning of key that also begins a key of the relation has d bytes
pub record Shared {V : Type 0} (Has : List ℕ → V → Type 0) (key : List ℕ) (d : ℕ) : Type 0 where
  pub within : d ≤ length key
  pub begins : 0 < d → Begun Has (take d key)
  pub most : (e : ℕ) → d < e → e ≤ length key → Begun Has (take e key) → ⊥
