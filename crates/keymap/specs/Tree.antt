-- The trie on the nodes: first children, next siblings and labels, with a parent for each node. Assumes nothing.
use Rattle.std.specs.Prelude.{◌≡◌, ℕ, ◌<◌, ◌≤◌, List, [], ◌∷◌, reverse, length, take, Some, None, Option, ◌≢◌, slice_index, slice_index_or}
use Rattle.keymap.specs.declared.node.Node.{Node}
use Rattle.keymap.specs.declared.trace.Best.{Best}

-- a node with nothing in it
abbrev pub blank : {V : Type 0} → Node V
blank = record { label = 0; value = None; child = 0; next = 0 }

-- the label of node i
abbrev pub lab : {V : Type 0} → List (Node V) → ℕ → ℕ
lab xs i = (slice_index_or xs i blank).label

-- the value at node i
abbrev pub val : {V : Type 0} → List (Node V) → ℕ → Option V
val xs i = (slice_index_or xs i blank).value

-- the first child of node i, or 0
abbrev pub kid : {V : Type 0} → List (Node V) → ℕ → ℕ
kid xs i = (slice_index_or xs i blank).child

-- the next sibling of node i, or 0
abbrev pub nxt : {V : Type 0} → List (Node V) → ℕ → ℕ
nxt xs i = (slice_index_or xs i blank).next

-- the first u nodes are a tree in which up names the parent of each but the root, 0; siblings ascend by label
pub record Well {V : Type 0} (up : ℕ → ℕ) (xs : List (Node V)) (u : ℕ) : Type 0 where
  pub room : u ≤ length xs
  pub above : (i : ℕ) → 0 < i → i < u → up i < i
  pub down : (i : ℕ) → i < u → 0 < kid xs i → (kid xs i < u) × (up (kid xs i) ≡ i)
  pub side : (i : ℕ) → i < u → 0 < nxt xs i → (0 < i) × (nxt xs i < u) × (up (nxt xs i) ≡ up i) × (lab xs i < lab xs (nxt xs i))
  pub first : (j : ℕ) → 0 < j → j < u → (0 < kid xs (up j)) × (lab xs (kid xs (up j)) ≤ lab xs j)
  pub beside : (i j : ℕ) → 0 < i → i < u → 0 < j → j < u → up i ≡ up j → lab xs i < lab xs j → (0 < nxt xs i) × (lab xs (nxt xs i) ≤ lab xs j)
  pub apart : (i j : ℕ) → 0 < i → i < u → 0 < j → j < u → up i ≡ up j → lab xs i ≡ lab xs j → i ≡ j

-- the first u nodes are a tree
abbrev pub Sound : {V : Type 0} → List (Node V) → ℕ → Type 0
Sound xs u = (up : ℕ → ℕ) × Well up xs u

-- before and here follow each other among the children of at, and the labels up to before are below b
pub record Walked {V : Type 0} (up : ℕ → ℕ) (xs : List (Node V)) (u at b before here : ℕ) : Type 0 where
  pub here_in : 0 < here → (here < u) × (up here ≡ at)
  pub before_none : before ≡ 0 → kid xs at ≡ here
  pub before_in : 0 < before → (before < u) × (up before ≡ at) × (lab xs before < b) × (nxt xs before ≡ here)

-- before and here are the children of at between which the label b belongs
pub record Placed {V : Type 0} (up : ℕ → ℕ) (xs : List (Node V)) (u at b before here : ℕ) : Type 0 where
  pub walked : Walked up xs u at b before here
  pub high : 0 < here → b ≤ lab xs here

-- r is the child of at that is labelled b, or 0 where there is none
pub record ChildIs {V : Type 0} (up : ℕ → ℕ) (xs : List (Node V)) (u at b r : ℕ) : Type 0 where
  pub found : 0 < r → (r < u) × (up r ≡ at) × (lab xs r ≡ b)
  pub none : r ≡ 0 → (j : ℕ) → 0 < j → j < u → up j ≡ at → lab xs j ≢ b

-- node j is reached from the root by the bytes of which the list is the reverse
abbrev pub At : {V : Type 0} → (ℕ → ℕ) → List (Node V) → ℕ → List ℕ → ℕ → Type 0
At up xs u [] j = (j ≡ 0) × (0 < u)
At up xs u (b ∷ k) j = (0 < j) × (j < u) × (lab xs j ≡ b) × At up xs u k (up j)

-- v is the value of the node that k leads to
abbrev pub Has : {V : Type 0} → (ℕ → ℕ) → List (Node V) → ℕ → List ℕ → V → Type 0
Has up xs u k v = (j : ℕ) × At up xs u (reverse k) j × (val xs j ≡ Some v)

-- the way of key ends at node at, depth bytes down
pub record Deepest {V : Type 0} (up : ℕ → ℕ) (xs : List (Node V)) (u : ℕ) (key : List ℕ) (at depth : ℕ) : Type 0 where
  pub short : depth ≤ length key
  pub way : At up xs u (reverse (take depth key)) at
  pub ends : depth < length key → (j : ℕ) → 0 < j → j < u → up j ≡ at → lab xs j ≢ slice_index key depth

-- the last value on the way of the first depth bytes of key, and the number of bytes to it
abbrev pub LastValue : {V : Type 0} → (ℕ → ℕ) → List (Node V) → ℕ → List ℕ → ℕ → Option (Best V) → Type 0
LastValue up xs u key depth None = (e : ℕ) (j : ℕ) → e ≤ depth → At up xs u (reverse (take e key)) j → val xs j ≡ None
LastValue up xs u key depth (Some b) =
    (b.len ≤ depth) × Has up xs u (take b.len key) b.value × ((e : ℕ) (j : ℕ) → b.len < e → e ≤ depth → At up xs u (reverse (take e key)) j → val xs j ≡ None)

-- a value that is met later goes before
abbrev pub picked : {V : Type 0} → Option (Best V) → Option V → ℕ → Option (Best V)
picked old None depth = old
picked old (Some v) depth = Some (record { value = v; len = depth })

-- every node that has no child holds a value
abbrev pub Live : {V : Type 0} → List (Node V) → ℕ → Type 0
Live xs u = (i : ℕ) → i < u → kid xs i ≡ 0 → val xs i ≢ None

-- every node but at that has no child holds a value
abbrev pub LiveBut : {V : Type 0} → List (Node V) → ℕ → ℕ → Type 0
LiveBut xs u at = (i : ℕ) → i < u → (i ≢ at) → kid xs i ≡ 0 → val xs i ≢ None
