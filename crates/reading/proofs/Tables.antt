-- What a lawful table finds. Assumes nothing.
use Rattle.std.proofs.Common.{◌≡◌, ℕ, ◌≤◌, Bool, true, false, not, ◌||◌, List, [], ◌∷◌, length, take, is_some, Some, None, Option, refl, ap, ◌∙◌, subst, ⊎_elim, arith}
use Rattle.std.proofs.lemmas.Bool.{both_ways, and_parts, cases_eq}
use Rattle.filling.proofs.Laws.{exact_means, longest_means}
use Rattle.keycode.specs.declared.key.KeyEvent.{KeyEvent}
use Rattle.keymap.proofs.Entries.{none_is_not_some}
use Rattle.keymap.specs.declared.found.Found.TheVariants.{Exact}
use Rattle.keymap.specs.Finding.{found}
use Rattle.keymap.specs.Stored.{Stored, value_of}
use Rattle.lawful.specs.Lawful.{is_plain_escape, plain_escape, longer_escape, lawful}

module _ (s : Stored KeyEvent) (law : lawful s ≡ true) where
  no_empty_key : value_of s [] ≡ None
  no_empty_key = by (value_of s []) (and_parts (not (is_some (value_of s []))) (not (plain_escape (value_of s (27 ∷ []))) || longer_escape s) law).0
    where
      by : (o : Option KeyEvent) → not (is_some o) ≡ true → o ≡ None
      by None h = refl
      by (Some e) h = absurd (both_ways false refl h)

  -- the key of an exact answer has from 1 to all of the bytes
  pub exact_sized : (r : List ℕ) (more : Bool) (n : ℕ) (e : KeyEvent) → found s r more ≡ Exact n e → (1 ≤ n) × (n ≤ length r)
  exact_sized r more n e f =
      let l = longest_means s r (record { len = n; value = e }) (exact_means s r more n e f).front in
      (⊎_elim (λ z. absurd (none_is_not_some (value_of s []) e no_empty_key (subst (λ (i : ℕ). value_of s (take i r) ≡ Some e) z l.stored))) (λ nz. omega arith) (cases_eq n 0), l.within)

  -- plain Escape is never exact while it may go on
  pub lone_escape_waits : (e : KeyEvent) → found s (27 ∷ []) true ≡ Exact 1 e → is_plain_escape e ≡ true → ⊥
  lone_escape_waits e f plain =
      let x = exact_means s (27 ∷ []) true 1 e f in
      let l = longest_means s (27 ∷ []) (record { len = 1; value = e }) x.front in
      let here : plain_escape (value_of s (27 ∷ [])) ≡ true = ap plain_escape l.stored ∙ plain in
      let rest : (not (plain_escape (value_of s (27 ∷ []))) || longer_escape s) ≡ true = (and_parts (not (is_some (value_of s []))) (not (plain_escape (value_of s (27 ∷ []))) || longer_escape s) law).1 in
      by (plain_escape (value_of s (27 ∷ []))) (longer_escape s) here (x.ends refl) rest
    where
      by : (a b : Bool) → a ≡ true → b ≡ false → (not a || b) ≡ true → ⊥
      by true true p q h = both_ways true q refl
      by true false p q h = both_ways false refl h
      by false b p q h = both_ways false refl p
