-- The last value on the way of a key. Assumes nothing.
use Rattle.std.proofs.Common.{◌≡◌, ℕ, ◌+◌, ◌<◌, List, [], ◌∷◌, reverse, get_or, take, Some, None, Option, sym, refl, ap, ◌∙◌, subst, ⊎_elim, arith}
use Rattle.std.proofs.lemmas.Bool.{cases_lt}
use Rattle.keymap.specs.declared.node.Node.{Node}
use Rattle.keymap.specs.declared.trace.Best.{Best}
use Rattle.keymap.specs.Tree.{blank, val, Well, At, LastValue, picked}

module _ {V : Type 0} (up : ℕ → ℕ) (xs : List (Node V)) (u : ℕ) (w : Well up xs u) where
  -- a way leads to one node
  pub unique : (k : List ℕ) (i j : ℕ) → At up xs u k i → At up xs u k j → i ≡ j
  unique [] i j a c = a.0 ∙ sym c.0
  unique (b ∷ k) i j a c = w.apart i j a.0 a.1 c.0 c.1 (unique k (up i) (up j) a.3 c.3) (a.2 ∙ sym c.2)

  start_at : (key : List ℕ) (o : Option V) → 0 < u → val xs 0 ≡ o → LastValue up xs u key 0 (picked None o 0)
  start_at key None p e =
      λ x j le a. let z : x ≡ 0 = omega arith in
      ap (λ (i : ℕ). val xs i) (subst (λ (y : ℕ). At up xs u (reverse (take y key)) j) z a).0 ∙ e
  start_at key (Some v) p e = (omega arith, (0, (refl, p), e), λ x j lt le a. absurd (omega arith))

  pub best_start : (key : List ℕ) (n : Node V) → 0 < u → n ≡ get_or xs 0 blank → LastValue up xs u key 0 (picked None n.value 0)
  best_start key n p e = start_at key n.value p (ap (λ (m : Node V). m.value) (sym e))

  keep : (key : List ℕ) (d c : ℕ) (o : Option (Best V)) → At up xs u (reverse (take (d + 1) key)) c → val xs c ≡ None → LastValue up xs u key d o → LastValue up xs u key (d + 1) o
  keep key d c None a e f =
      λ x j le b. ⊎_elim (λ lt. f x j (omega arith) b)
      (λ ge. let z : x ≡ d + 1 = omega arith in ap (λ (i : ℕ). val xs i) (unique (reverse (take (d + 1) key)) j c (subst (λ (y : ℕ). At up xs u (reverse (take y key)) j) z b) a) ∙ e)
      (cases_lt x (d + 1))
  keep key d c (Some o) a e f = (
    omega (arith, f.0),
    f.1,
    λ x j lo le b. ⊎_elim (λ lt. f.2 x j lo (omega arith) b)
        (λ ge. let z : x ≡ d + 1 = omega arith in ap (λ (i : ℕ). val xs i) (unique (reverse (take (d + 1) key)) j c (subst (λ (y : ℕ). At up xs u (reverse (take y key)) j) z b) a) ∙ e)
        (cases_lt x (d + 1)),
  )

  more : (key : List ℕ) (d c : ℕ) (old : Option (Best V)) (o : Option V) → At up xs u (reverse (take (d + 1) key)) c → val xs c ≡ o → LastValue up xs u key d old → LastValue up xs u key (d + 1) (picked old o (d + 1))
  more key d c old None a e f = keep key d c old a e f
  more key d c old (Some v) a e f = (omega arith, (c, a, e), λ x j lo le b. absurd (omega arith))

  pub best_more : (key : List ℕ) (d c : ℕ) (old r : Option (Best V)) (n : Node V) → At up xs u (reverse (take (d + 1) key)) c → n ≡ get_or xs c blank → LastValue up xs u key d old → r ≡ picked old n.value (d + 1) → LastValue up xs u key (d + 1) r
  best_more key d c old r n a e f p =
      subst (λ (y : Option (Best V)). LastValue up xs u key (d + 1) y) (sym p) (more key d c old n.value a (ap (λ (m : Node V). m.value) (sym e)) f)
