-- How an insert changes the nodes. Assumes nothing.
use Rattle.std.specs.Prelude.{◌≡◌, ℕ, ◌<◌, ◌≤◌, cond, List, length, Some, None, ◌==◌, slice_index_or, slice_set}
use Rattle.keymap.specs.declared.node.Node.{Node}
use Rattle.keymap.specs.Tree.{blank, lab, val, Well, Deepest, LiveBut}

-- a node with another first child
abbrev pub with_child : {V : Type 0} → Node V → ℕ → Node V
with_child n c = record { label = n.label; value = n.value; child = c; next = n.next }

-- a node with another next sibling
abbrev pub with_next : {V : Type 0} → Node V → ℕ → Node V
with_next n c = record { label = n.label; value = n.value; child = n.child; next = c }

-- a node with a value
abbrev pub with_value : {V : Type 0} → Node V → V → Node V
with_value n v = record { label = n.label; value = Some v; child = n.child; next = n.next }

-- a node labelled b before its sibling here, with no value and no child
abbrev pub newborn : {V : Type 0} → ℕ → ℕ → Node V
newborn b here = record { label = b; value = None; child = 0; next = here }

-- the nodes with c as the first child of i
abbrev pub child_set : {V : Type 0} → List (Node V) → ℕ → ℕ → List (Node V)
child_set xs i c = slice_set xs i (with_child (slice_index_or xs i blank) c)

-- the nodes with c as the next sibling of i
abbrev pub next_set : {V : Type 0} → List (Node V) → ℕ → ℕ → List (Node V)
next_set xs i c = slice_set xs i (with_next (slice_index_or xs i blank) c)

-- the nodes once u has become a child of at, labelled b, between before and here
abbrev pub linked : {V : Type 0} → List (Node V) → ℕ → ℕ → ℕ → ℕ → ℕ → List (Node V)
linked xs u at b before here =
    cond (before == 0) (child_set (slice_set xs u (newborn b here)) at u) (next_set (slice_set xs u (newborn b here)) before u)

-- the first u nodes keep parents, labels and values, those from there to n are new and hold none, and those past n are as they were
pub record Kept {V : Type 0} (up : ℕ → ℕ) (xs : List (Node V)) (u : ℕ) (up' : ℕ → ℕ) (ys : List (Node V)) (n : ℕ) : Type 0 where
  pub more : u ≤ n
  pub len : length ys ≡ length xs
  pub up_same : (i : ℕ) → i < u → up' i ≡ up i
  pub lab_same : (i : ℕ) → i < u → lab ys i ≡ lab xs i
  pub val_same : (i : ℕ) → i < u → val ys i ≡ val xs i
  pub val_new : (i : ℕ) → u ≤ i → i < n → val ys i ≡ None
  pub rest : (i : ℕ) → n ≤ i → slice_index_or ys i blank ≡ slice_index_or xs i blank

-- the tree of xs has grown from node s to n nodes, with the way of the first depth bytes of key down to at
pub record GrewBy {V : Type 0} (up : ℕ → ℕ) (xs : List (Node V)) (u s : ℕ) (up' : ℕ → ℕ) (ys : List (Node V)) (n : ℕ) (key : List ℕ) (at depth : ℕ) : Type 0 where
  pub well : Well up' ys n
  pub kept : Kept up xs u up' ys n
  pub deepest : Deepest up' ys n key at depth
  pub live : LiveBut xs u s → LiveBut ys n at

-- the same, with some parents
abbrev pub Grew : {V : Type 0} → (ℕ → ℕ) → List (Node V) → ℕ → ℕ → List (Node V) → ℕ → List ℕ → ℕ → ℕ → Type 0
Grew up xs u s ys n key at depth = (up' : ℕ → ℕ) × GrewBy up xs u s up' ys n key at depth
