-- A closed lookup tells the value of the whole text. Assumes nothing.
use Rattle.std.proofs.Common.{◌≡◌, ℕ, Bool, true, false, cond, List, [], ◌∷◌, length, take, Some, None, Option, sym, refl, ap, ◌∙◌, arith}
use Rattle.std.proofs.lemmas.List.{take_all}
use Rattle.std.proofs.lemmas.Bool.{eq-eqb, ne_eqb}
use Rattle.keymap.specs.declared.found.Found.{Found}
use Rattle.keymap.specs.declared.found.Found.TheVariants.{None as NoKey, Exact, Ambiguous, NeedData}
use Rattle.keymap.specs.Finding.{Front, found, looked}
use Rattle.keymap.specs.Stored.{Stored, value_of, begins_with, begun}
use Rattle.keymap.proofs.Begins.{begins_with_take}
use Rattle.keymap.proofs.Entries.{none_is_not_some, stored_key_passes}
use Rattle.keymap.proofs.Finds.{known_is, found_judged, longest_from}
use Rattle.filling.proofs.Laws.{Stores, closed_exact_is_longest, longest_means}
use Rattle.keymap.proofs.Relations.{Longest}
use Rattle.words.specs.Whole.{whole_found, whole}

module _ {V : Type 0} (s : Stored V) (text : List ℕ) where
  stored_found : (v : V) → value_of s text ≡ Some v → found s text false ≡ Exact (length text) v
  stored_found v h =
      let f : Front V = record { len = length text; value = v } in
      let l : Longest (Stores s) text (length text) v =
      record { within = omega arith; stored = ap (value_of s) (take_all (length text) text (omega arith)) ∙ h; longest = λ e x lt le. absurd (omega arith) } in
      let begins : begun s (take 1 text) ≡ true = stored_key_passes s (begins_with (take 1 text)) text v h (begins_with_take 1 text) in
      found_judged s text false (Some f) (known_is s text (λ _. begins)) (longest_from s (Stores s) (λ j x q. q) (λ j x q. q) text (length text) v l)

  not_whole : value_of s text ≡ None → (n : ℕ) (v : V) → found s text false ≡ Exact n v → n ≡ length text → ⊥
  not_whole h n v e w =
      let l = longest_means s text (record { len = n; value = v }) (closed_exact_is_longest s text n v e) in
      none_is_not_some (value_of s text) v h (ap (value_of s) (sym (ap (λ (i : ℕ). take i text) w ∙ take_all (length text) text (omega arith))) ∙ l.stored)

  missing_found : value_of s text ≡ None → (answer : Found V) → found s text false ≡ answer → whole_found answer (length text) ≡ None
  missing_found h NoKey e = refl
  missing_found h (Exact n v) e = ap (λ (b : Bool). cond b (Some v) None) (ne_eqb n (length text) (not_whole h n v e))
  missing_found h (Ambiguous n v) e = refl
  missing_found h NeedData e = refl

  by_value : (o : Option V) → value_of s text ≡ o → whole_found (found s text false) (length text) ≡ o
  by_value None h = missing_found h (found s text false) refl
  by_value (Some v) h =
      ap (λ (a : Found V). whole_found a (length text)) (stored_found v h)
      ∙ ap (λ (b : Bool). cond b (Some v) None) (eq-eqb (length text) (length text) refl)

  found_whole : whole_found (found s text false) (length text) ≡ value_of s text
  found_whole = by_value (value_of s text) refl

pub looked_whole : {V : Type 0} (s : Stored V) (text : List ℕ) → whole (looked s text false) (length text) ≡ value_of s text
unfolding value_of looked
looked_whole [] [] = refl
looked_whole [] (b ∷ text) = found_whole [] (b ∷ text)
looked_whole (e ∷ s) text = found_whole (e ∷ s) text
