-- How many nodes what is stored takes, and why an insert is refused. Assumes nothing.
use Rattle.std.specs.Prelude.{ℕ, zero, suc, ◌+◌, ◌-◌, min, Bool, false, cond, ◌||◌, List, [], ◌∷◌, ◌++◌, length, take, Some, None, Option, nat_lt}
use Rattle.std.specs.Str.{bytes_eq}
use Rattle.keymap.specs.declared.found.MapFault.{MapFault}
use Rattle.keymap.specs.declared.found.MapFault.TheVariants.{KeyTooLong, TooFewNodes, NothingStored}
use Rattle.keymap.specs.Stored.{Stored, begun, put}

-- the number by which a refusal is told
abbrev pub number : MapFault → ℕ
number KeyTooLong = 1
number TooFewNodes = 2
number NothingStored = 3

-- the most bytes of a key
abbrev pub max_key : ℕ
max_key = 64

-- the most nodes that a map uses
abbrev pub max_nodes : ℕ
max_nodes = 8192

-- the beginnings of a key that have 1 to n bytes
unfoldable pub fronts : List ℕ → ℕ → List (List ℕ)
fronts k zero = []
fronts k (suc n) = take (suc n) k ∷ fronts k n

-- the beginnings of the stored keys, but the empty one
unfoldable pub beginnings : {V : Type 0} → Stored V → List (List ℕ)
beginnings [] = []
beginnings (e ∷ s) = fronts e.key (length e.key) ++ beginnings s

-- whether p is in the list
unfoldable pub listed : List ℕ → List (List ℕ) → Bool
listed p [] = false
listed p (q ∷ qs) = bytes_eq p q || listed p qs

-- how many different texts the list has
unfoldable pub different : List (List ℕ) → ℕ
different [] = 0
different (p ∷ ps) = cond (listed p ps) 0 1 + different ps

-- the nodes in use: the root, and one for each different beginning of the stored keys but the empty one; none where nothing is stored
abbrev pub nodes_of : {V : Type 0} → Stored V → ℕ
nodes_of [] = 0
nodes_of (e ∷ s) = 1 + different (beginnings (e ∷ s))

-- the root, where nothing is stored yet
abbrev pub root_need : {V : Type 0} → Stored V → ℕ
root_need [] = 1
root_need (e ∷ s) = 0

-- the length of the longest beginning of k, up to n bytes, that also begins a stored key
unfoldable pub shared_to : {V : Type 0} → Stored V → List ℕ → ℕ → ℕ
shared_to s k zero = 0
shared_to s k (suc n) = cond (begun s (take (suc n) k)) (suc n) (shared_to s k n)

-- the nodes that an insert of k needs: one for each byte past its longest beginning that also begins a stored key, and the root if it is the first
abbrev pub need : {V : Type 0} → Stored V → List ℕ → ℕ
need s k = root_need s + (length k - shared_to s k (length k))

-- why an insert of k is refused, on so many nodes of the caller's
unfoldable pub insert_cause : {V : Type 0} → ℕ → Stored V → List ℕ → Option MapFault
insert_cause supplied s k =
    cond (nat_lt max_key (length k)) (Some KeyTooLong) (cond (nat_lt (min supplied max_nodes) (nodes_of s + need s k)) (Some TooFewNodes) None)

-- what is stored after an insert: a refused one changes nothing
abbrev pub after : {V : Type 0} → Option MapFault → List ℕ → V → Stored V → Stored V
after None k v s = put k v s
after (Some fault) k v s = s
