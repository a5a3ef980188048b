-- The walk among the children of a node, by ascending label. Assumes nothing.
use Rattle.std.proofs.Common.{◌≡◌, ℕ, ◌-◌, ◌<◌, ◌≤◌, cond, eqb, List, length, get_or, sym, refl, ◌∙◌, subst, ⊎_elim, arith}
use Rattle.std.proofs.lemmas.Bool.{cond-true, cond-false, eq-eqb, ne_eqb, cases_eq}
use Rattle.std.proofs.Math.Bridge.{le_prop}
use Rattle.std.proofs.Math.Logic.{∥∥₁_elim}
use Rattle.keymap.specs.declared.node.Node.{Node}
use Rattle.keymap.specs.Tree.{blank, lab, kid, nxt, Well, Sound, Walked, Placed}

-- an order that holds with the parents of a tree holds where there is a tree
pub of_tree : {V : Type 0} {xs : List (Node V)} {u : ℕ} {a b : ℕ} → ∥ Sound xs u ∥₁ → ((up : ℕ → ℕ) → Well up xs u → a < b) → a < b
of_tree s f = ∥∥₁_elim s le_prop (λ t. f t.0 t.1)

-- a tree's nodes are on the list
pub room_of : {V : Type 0} {xs : List (Node V)} {u : ℕ} → ∥ Sound xs u ∥₁ → u ≤ length xs
room_of s = ∥∥₁_elim s le_prop (λ t. t.1.room)

module _ {V : Type 0} (up : ℕ → ℕ) (xs : List (Node V)) (u : ℕ) (w : Well up xs u) where
  start : (at b : ℕ) → at < u → Walked up xs u at b 0 (kid xs at)
  start at b lt = record { here_in = λ h. w.down at lt h; before_none = λ _. refl; before_in = λ h. absurd (omega arith) }

  pub start_read : (at b : ℕ) (n : Node V) → at < u → n ≡ get_or xs at blank → Walked up xs u at b 0 n.child
  start_read at b n lt e = subst (λ (m : Node V). Walked up xs u at b 0 m.child) (sym e) (start at b lt)

  pub inside : (at b before here : ℕ) → Walked up xs u at b before here → 0 < here → here < u
  inside at b before here k h = (k.here_in h).0

  step : (at b before here : ℕ) → Walked up xs u at b before here → 0 < here → lab xs here < b → Walked up xs u at b here (nxt xs here)
  step at b before here k h lt =
      let at_here : here < u = (k.here_in h).0 in
      record {
        here_in = λ q. ((w.side here at_here q).1, (w.side here at_here q).2 ∙ (k.here_in h).1);
        before_none = λ z. absurd (omega arith);
        before_in = λ _. (at_here, (k.here_in h).1, lt, refl);
      }

  pub step_read : (at b before here : ℕ) (n : Node V) → Walked up xs u at b before here → 0 < here → n ≡ get_or xs here blank → n.label < b → Walked up xs u at b here n.next
  step_read at b before here n k h e lt =
      subst (λ (m : Node V). Walked up xs u at b here m.next) (sym e) (step at b before here k h (subst (λ (m : Node V). m.label < b) e lt))

  -- the labels come closer to the one that is sought
  less : (b here : ℕ) → 0 < here → here < u → lab xs here < b → cond (eqb (nxt xs here) 0) 0 (b - lab xs (nxt xs here)) < cond (eqb here 0) 0 (b - lab xs here)
  less b here h lt low =
      rw (cond-false (eqb here 0) 0 (b - lab xs here) (ne_eqb here 0 (λ z. omega arith)))
      (⊎_elim (λ z. rw (cond-true (eqb (nxt xs here) 0) 0 (b - lab xs (nxt xs here)) (eq-eqb (nxt xs here) 0 z)) (omega arith))
      (λ nz. rw (cond-false (eqb (nxt xs here) 0) 0 (b - lab xs (nxt xs here)) (ne_eqb (nxt xs here) 0 nz)) (let q : 0 < nxt xs here = omega arith in omega (arith, (w.side here lt q).3)))
      (cases_eq (nxt xs here) 0))

  pub less_read : (b here : ℕ) (n : Node V) → 0 < here → here < u → n ≡ get_or xs here blank → n.label < b → cond (eqb n.next 0) 0 (b - lab xs n.next) < cond (eqb here 0) 0 (b - lab xs here)
  less_read b here n h lt e low =
      subst (λ (m : Node V). cond (eqb m.next 0) 0 (b - lab xs m.next) < cond (eqb here 0) 0 (b - lab xs here)) (sym e) (less b here h lt (subst (λ (m : Node V). m.label < b) e low))

  -- no child of `at` carries `b`, unless it is `here`
  pub only_here : (at b before here : ℕ) → Placed up xs u at b before here → (j : ℕ) → 0 < j → j < u → up j ≡ at → lab xs j ≡ b → (0 < here) × (lab xs here ≡ b)
  only_here at b before here p j h lt e l = ⊎_elim none some (cases_eq before 0)
    where
      none : before ≡ 0 → (0 < here) × (lab xs here ≡ b)
      none z =
          let f : (0 < kid xs at) × (lab xs (kid xs at) ≤ lab xs j) =
          subst (λ (i : ℕ). (0 < kid xs i) × (lab xs (kid xs i) ≤ lab xs j)) e (w.first j h lt) in
          let k : (0 < here) × (lab xs here ≤ lab xs j) =
          subst (λ (i : ℕ). (0 < i) × (lab xs i ≤ lab xs j)) (p.walked.before_none z) f in
          (k.0, omega (arith, p.high k.0))

      some : (before ≡ 0 → ⊥) → (0 < here) × (lab xs here ≡ b)
      some nz =
          let q : 0 < before = omega arith in
          let bi = p.walked.before_in q in
          let f : (0 < nxt xs before) × (lab xs (nxt xs before) ≤ lab xs j) =
          w.beside before j q bi.0 h lt (bi.1 ∙ sym e) (omega (arith, bi.2)) in
          let k : (0 < here) × (lab xs here ≤ lab xs j) =
          subst (λ (i : ℕ). (0 < i) × (lab xs i ≤ lab xs j)) bi.3 f in
          (k.0, omega (arith, p.high k.0))
