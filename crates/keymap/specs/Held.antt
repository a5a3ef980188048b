-- What the first nodes of a list hold, and how an insert changes it. Assumes nothing.
use Rattle.std.specs.Prelude.{◌≡◌, ℕ, ◌+◌, ◌<◌, ◌≤◌, min, List, length, drop, Some, Result, MatchResult}
use Rattle.keymap.specs.declared.found.MapFault.{MapFault}
use Rattle.keymap.specs.declared.found.MapFault.TheVariants.{TooFewNodes}
use Rattle.keymap.specs.declared.node.Node.{Node}
use Rattle.keymap.specs.Room.{max_nodes, nodes_of, need}
use Rattle.keymap.specs.Stored.{Stored, value_of, put}
use Rattle.keymap.specs.Tree.{Well, Has, Live}

-- the first u nodes, with the parents up, hold exactly s
pub record HeldBy {V : Type 0} (up : ℕ → ℕ) (xs : List (Node V)) (u : ℕ) (s : Stored V) : Type 0 where
  pub well : Well up xs u
  pub live : Live xs u
  pub limit : u ≤ max_nodes
  pub size : u ≡ nodes_of s
  pub there : (k : List ℕ) (v : V) → value_of s k ≡ Some v → Has up xs u k v
  pub only : (k : List ℕ) (v : V) → Has up xs u k v → value_of s k ≡ Some v

-- the first u nodes hold exactly s
abbrev pub HeldIn : {V : Type 0} → List (Node V) → ℕ → Stored V → Type 0
HeldIn xs u s = (up : ℕ → ℕ) × HeldBy up xs u s

-- the first u nodes hold something that can be stored
abbrev pub ValidIn : {V : Type 0} → List (Node V) → ℕ → Type 0
ValidIn {V} xs u = (s : Stored V) × HeldIn xs u s

-- an insert of v under k where the nodes xs hold s: n nodes are in use and those past them are as they were, or there are too few and all are as they were
abbrev pub Inserts : {V : Type 0} → Stored V → List (Node V) → List ℕ → V → List (Node V) → Result ℕ MapFault → Type 0
Inserts s xs k v ys r =
    MatchResult r
    (λ n. (nodes_of s + need s k ≤ min (length xs) max_nodes) × HeldIn ys n (put k v s) × (drop n ys ≡ drop n xs))
    (λ fault. (fault ≡ TooFewNodes) × (min (length xs) max_nodes < nodes_of s + need s k) × (ys ≡ xs))
