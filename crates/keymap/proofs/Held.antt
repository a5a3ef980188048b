-- What the nodes hold: nothing at the start, and what put says after an insert. Assumes nothing.
use Rattle.std.proofs.Common.{◌≡◌, ℕ, zero, suc, ◌+◌, ◌-◌, ◌<◌, ◌≤◌, min, Bool, true, false, List, [], ◌∷◌, reverse, length, drop, Some, None, Option, sym, refl, ap, ◌∙◌, subst, arith}
use Rattle.std.proofs.lemmas.List.{ext_get_or, get_or-drop, length-drop}
use Rattle.std.proofs.lemmas.Bool.{both_ways}
use Rattle.std.specs.Str.{bytes_eq}
use Rattle.keymap.specs.declared.node.Node.{Node}
use Rattle.std.proofs.Math.Bridge.{le_prop}
use Rattle.std.proofs.Math.Logic.{∥∥₁_elim, ∥∥₁_map}
use Rattle.keymap.specs.Held.{HeldBy, HeldIn, ValidIn}
use Rattle.keymap.specs.Room.{max_nodes, nodes_of, shared_to, need}
use Rattle.keymap.specs.Stored.{Stored, value_of, some_key, put}
use Rattle.keymap.specs.Tree.{blank, val, Well, Sound, Has, Deepest}
use Rattle.keymap.proofs.Counts.{put_nodes}
use Rattle.keymap.proofs.Entries.{none_is_not_some, same_is_equal, equal_is_same, put_has_value, put_leaves_others}
use Rattle.keymap.proofs.Finds.{shared_from}
use Rattle.keymap.proofs.Inserts.{Inserted}
use Rattle.keymap.proofs.Lookups.{shared}
use Rattle.keymap.proofs.Values.{unique}
use Rattle.keymap.proofs.Ways.{at_in}

no_tree : {V : Type 0} (xs : List (Node V)) → Well (λ i. 0) xs 0
no_tree xs =
    record {
      room = omega arith;
      above = λ i p q. absurd (omega arith);
      down = λ i q. absurd (omega arith);
      side = λ i q. absurd (omega arith);
      first = λ j p q. absurd (omega arith);
      beside = λ i j p q. absurd (omega arith);
      apart = λ i j p q. absurd (omega arith);
    }

pub nothing_held : {V : Type 0} (xs : List (Node V)) → HeldIn xs 0 []
unfolding value_of
nothing_held xs = (
  (λ i. 0),
  record {
    well = no_tree xs;
    live = λ i q. absurd (omega arith);
    limit = omega arith;
    size = refl;
    there = λ k v e. absurd (none_is_not_some None v refl e);
    only = λ k v h. absurd (omega (arith, at_in (λ i. 0) xs 0 (no_tree xs) (reverse k) h.0 h.1));
  },
)

-- nodes that hold something are a tree
pub sound_of : {V : Type 0} {xs : List (Node V)} {u : ℕ} → ∥ ValidIn xs u ∥₁ → ∥ Sound xs u ∥₁
sound_of h = ∥∥₁_map h (λ t. (t.1.0, t.1.1.well))

pub within : {V : Type 0} {xs : List (Node V)} {u : ℕ} → ∥ ValidIn xs u ∥₁ → u ≤ min (length xs) max_nodes
within h = ∥∥₁_elim h le_prop (λ t. omega (arith, t.1.1.well.room, t.1.1.limit))

same_some : {V : Type 0} (o : Option V) (x y : V) → o ≡ Some x → o ≡ Some y → x ≡ y
same_some o x y p q = cc

-- after an insert
module _ {V : Type 0} (up : ℕ → ℕ) (xs : List (Node V)) (u : ℕ) (s : Stored V) (h : HeldBy up xs u s) (key : List ℕ) (v : V) (up' : ℕ → ℕ) (ys : List (Node V)) (n : ℕ) (m : Inserted up xs u key v up' ys n) where
  one_value : (x : V) → Has up' ys n key x → x ≡ v
  one_value x a =
      let e : a.0 ≡ m.here.0 = unique up' ys n m.well (reverse key) a.0 m.here.0 a.1 m.here.1 in
      same_some (val ys m.here.0) x v (ap (λ (i : ℕ). val ys i) (sym e) ∙ a.2) m.here.2

  there_after : (k : List ℕ) (x : V) → value_of (put key v s) k ≡ Some x → Has up' ys n k x
  there_after k x e = by (bytes_eq key k) refl
    where
      by : (b : Bool) → bytes_eq key k ≡ b → Has up' ys n k x
      by true q =
          let z : key ≡ k = same_is_equal key k q in
          let f : v ≡ x = same_some (value_of (put key v s) k) v x (subst (λ (j : List ℕ). value_of (put key v s) j ≡ Some v) z (put_has_value key v s)) e in
          subst (λ (y : V). Has up' ys n k y) f (subst (λ (j : List ℕ). Has up' ys n j v) z m.here)
      by false q =
          let ne : key ≡ k → ⊥ = λ z. both_ways (bytes_eq key k) q (equal_is_same key k z) in
          m.fwd k x (λ z. ne (sym z)) (h.there k x (sym (put_leaves_others key v s k ne) ∙ e))

  only_after : (k : List ℕ) (x : V) → Has up' ys n k x → value_of (put key v s) k ≡ Some x
  only_after k x a = by (bytes_eq key k) refl
    where
      by : (b : Bool) → bytes_eq key k ≡ b → value_of (put key v s) k ≡ Some x
      by true q =
          let z : key ≡ k = same_is_equal key k q in
          let f : x ≡ v = one_value x (subst (λ (j : List ℕ). Has up' ys n j x) (sym z) a) in
          subst (λ (j : List ℕ). value_of (put key v s) j ≡ Some x) z (put_has_value key v s ∙ ap Some (sym f))
      by false q =
          let ne : key ≡ k → ⊥ = λ z. both_ways (bytes_eq key k) q (equal_is_same key k z) in
          put_leaves_others key v s k ne ∙ h.only k x (m.back k x (λ z. ne (sym z)) a)

  rest_same : drop n ys ≡ drop n xs
  rest_same =
      ext_get_or blank (drop n ys) (drop n xs) (length-drop n ys ∙ ap (λ (l : ℕ). l - n) m.len ∙ sym (length-drop n xs))
      (λ i l. get_or-drop n ys i blank ∙ m.rest (n + i) (omega arith) ∙ sym (get_or-drop n xs i blank))

  put_held : n ≡ nodes_of s + need s key → n ≤ max_nodes → HeldIn ys n (put key v s)
  put_held size limit =
      (up', record { well = m.well; live = m.live; limit = limit; size = size ∙ sym (put_nodes key v s); there = there_after; only = only_after })

pub inserts_ok : {V : Type 0} (up : ℕ → ℕ) (xs : List (Node V)) (u : ℕ) (s : Stored V) → HeldBy up xs u s → (key : List ℕ) (v : V) (ys : List (Node V)) (n : ℕ) → (up' : ℕ → ℕ) × Inserted up xs u key v up' ys n → n ≡ nodes_of s + need s key → n ≤ min (length xs) max_nodes → (nodes_of s + need s key ≤ min (length xs) max_nodes) × HeldIn ys n (put key v s) × (drop n ys ≡ drop n xs)
inserts_ok up xs u s h key v ys n m size fits =
    (omega arith, put_held up xs u s h key v m.0 ys n m.1 size (omega arith), rest_same up xs u s h key v m.0 ys n m.1)

nothing_shared : (V : Type 0) (key : List ℕ) (n : ℕ) → shared_to {V = V} [] key n ≡ 0
unfolding shared_to some_key
nothing_shared V key zero = refl
nothing_shared V key (suc n) = nothing_shared V key n

-- nodes that an insert takes where something is stored
module _ {V : Type 0} (key : List ℕ) where
  some_need : (s : Stored V) (u d : ℕ) → u ≡ nodes_of s → 0 < u → shared_to s key (length key) ≡ d → u + (length key - d) ≡ nodes_of s + need s key
  some_need [] u d e lo f = absurd (omega arith)
  some_need (x ∷ s) u d e lo f = omega arith

  pub more_need : (up : ℕ → ℕ) (xs : List (Node V)) (u : ℕ) (s : Stored V) → HeldBy up xs u s → 0 < u → (at d : ℕ) → Deepest up xs u key at d → u + (length key - d) ≡ nodes_of s + need s key
  more_need up xs u s h lo at d dp =
      some_need s u d h.size lo (shared_from s (Has up xs u) h.there h.only key d (shared up xs u h.well h.live key at d dp))

  -- nodes that the first insert takes
  pub first_need : (s : Stored V) → 0 ≡ nodes_of s → length key + 1 ≡ nodes_of s + need s key
  first_need [] e = omega (arith, nothing_shared V key (length key))
  first_need (x ∷ s) e = absurd (omega arith)
