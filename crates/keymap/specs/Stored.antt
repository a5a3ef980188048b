-- What a map stores: keys, each with its value. Assumes nothing.
use Rattle.std.specs.Prelude.{◌≡◌, ℕ, Bool, true, false, cond, ◌&&◌, ◌||◌, List, [], ◌∷◌, is_some, Some, None, Option, ◌==◌}
use Rattle.std.specs.Str.{bytes_eq}

-- a key with its value
pub record Entry (V : Type 0) : Type 0 where
  pub key : List ℕ
  pub value : V

-- what is stored, in any order; put keeps each key once
abbrev pub Stored : Type 0 → Type 0
Stored V = List (Entry V)

-- the value that is stored under a key
unfoldable pub value_of : {V : Type 0} → Stored V → List ℕ → Option V
value_of [] k = None
value_of (e ∷ s) k = cond (bytes_eq e.key k) (Some e.value) (value_of s k)

-- each key is stored once
abbrev pub Once : {V : Type 0} → Stored V → Type 0
Once [] = Unit
Once (e ∷ s) = (value_of s e.key ≡ None) × Once s

-- whether some stored key passes a test
unfoldable pub some_key : {V : Type 0} → (List ℕ → Bool) → Stored V → Bool
some_key test [] = false
some_key test (e ∷ s) = test e.key || some_key test s

-- whether a key begins with p
unfoldable pub begins_with : List ℕ → List ℕ → Bool
begins_with [] k = true
begins_with (b ∷ p) [] = false
begins_with (b ∷ p) (c ∷ k) = b == c && begins_with p k

-- whether some stored key begins with p
abbrev pub begun : {V : Type 0} → Stored V → List ℕ → Bool
begun s p = some_key (begins_with p) s

-- the same keys, with v under k
unfoldable pub replaced : {V : Type 0} → List ℕ → V → Stored V → Stored V
replaced k v [] = []
replaced k v (e ∷ s) = record { key = e.key; value = cond (bytes_eq e.key k) v e.value } ∷ replaced k v s

-- what is stored once v is put under k: the value of a stored key is replaced, another key is added
abbrev pub put : {V : Type 0} → List ℕ → V → Stored V → Stored V
put k v s = cond (is_some (value_of s k)) (replaced k v s) (record { key = k; value = v } ∷ s)
