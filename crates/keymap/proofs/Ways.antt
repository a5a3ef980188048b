-- The way of a key: one node further down, and the child that a label leads to. Assumes nothing.
use Rattle.std.proofs.Common.{◌≡◌, ℕ, ◌+◌, ◌<◌, List, [], ◌∷◌, reverse, length, get_or, take, sym, ap, ◌∙◌, subst, arith}
use mathlib.Core.List.{reverse-append}
use Rattle.std.proofs.lemmas.List.{take_more}
use Rattle.keymap.specs.declared.node.Node.{Node}
use Rattle.keymap.specs.Tree.{blank, Well, Placed, ChildIs, At}
use Rattle.keymap.proofs.Siblings.{only_here}

pub rev_more : (key : List ℕ) (d : ℕ) → d < length key → reverse (take (d + 1) key) ≡ get_or key d 0 ∷ reverse (take d key)
rev_more key d h = ap reverse (take_more key d 0 h) ∙ reverse-append (take d key) (get_or key d 0 ∷ [])

module _ {V : Type 0} (up : ℕ → ℕ) (xs : List (Node V)) (u : ℕ) (w : Well up xs u) where
  pub at_in : (k : List ℕ) (j : ℕ) → At up xs u k j → j < u
  at_in [] j a = omega (arith, a.0, a.1)
  at_in (b ∷ k) j a = a.1

  pub one_more : (key : List ℕ) (d at c : ℕ) → d < length key → At up xs u (reverse (take d key)) at → 0 < c → ChildIs up xs u at (get_or key d 0) c → At up xs u (reverse (take (d + 1) key)) c
  one_more key d at c h a q k =
      subst (λ (r : List ℕ). At up xs u r c) (sym (rev_more key d h))
      (q, (k.found q).0, (k.found q).2, subst (λ (i : ℕ). At up xs u (reverse (take d key)) i) (sym (k.found q).1) a)

  pub is_none : (at b before here : ℕ) → here ≡ 0 → Placed up xs u at b before here → ChildIs up xs u at b 0
  is_none at b before here z p =
      record { found = λ q. absurd (omega arith); none = λ _ j h lt e l. let k = (only_here up xs u w at b before here p j h lt e l).0 in omega arith }

  pub is_here : (at b before here : ℕ) (n : Node V) → Placed up xs u at b before here → 0 < here → n ≡ get_or xs here blank → n.label ≡ b → ChildIs up xs u at b here
  is_here at b before here n p q e l =
      record { found = λ _. ((p.walked.here_in q).0, (p.walked.here_in q).1, ap (λ (m : Node V). m.label) (sym e) ∙ l); none = λ z j h lt f g. omega arith }

  pub is_other : (at b before here : ℕ) (n : Node V) → Placed up xs u at b before here → n ≡ get_or xs here blank → (n.label ≡ b → ⊥) → ChildIs up xs u at b 0
  is_other at b before here n p e ne =
      record { found = λ q. absurd (omega arith); none = λ _ j h lt f l. ne (ap (λ (m : Node V). m.label) e ∙ (only_here up xs u w at b before here p j h lt f l).1) }
