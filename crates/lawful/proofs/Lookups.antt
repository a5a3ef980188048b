-- Two lookups tell whether a table is lawful. Assumes nothing.
use Rattle.std.proofs.Common.{◌≡◌, Bool, true, false, cond, not, ◌&&◌, ◌||◌, [], ◌∷◌, is_some, Some, None, Ok, Option, sym, refl, ap, ◌∙◌, ⊎_elim}
use Rattle.std.proofs.lemmas.Bool.{both_ways, and_right, cases_Bool}
use Rattle.keycode.specs.declared.key.KeyEvent.{KeyEvent}
use Rattle.keymap.specs.declared.found.Found.{Found}
use Rattle.keymap.specs.declared.found.Found.TheVariants.{Exact, Ambiguous}
use Rattle.keymap.specs.Finding.{or_shorter, longest_to, longest, foreign, judged, found, looked}
use Rattle.keymap.specs.Stored.{Stored, value_of, begins_with, begun}
use Rattle.keymap.proofs.Begins.{begins_with_take}
use Rattle.keymap.proofs.Entries.{stored_key_passes}
use Rattle.keymap.proofs.Finds.{found_none, found_judged}
use Rattle.filling.proofs.Laws.{foreign_means}
use Rattle.lawful.specs.Lawful.{is_plain_escape, plain_escape, longer_escape, lawful}
use Rattle.lawful.specs.Told.{some_exact, escape_exact}

-- an empty input, closed, is answered by the empty key
empty_told : (s : Stored KeyEvent) → some_exact (Ok (found s [] false)) ≡ is_some (value_of s [])
unfolding found longest_to
empty_told s = by (value_of s [])
  where
    by : (o : Option KeyEvent) → some_exact (Ok (judged s [] false (or_shorter 0 o None))) ≡ is_some o
    by None = refl
    by (Some v) = refl

pub empty_key_told : (s : Stored KeyEvent) → some_exact (looked s [] false) ≡ is_some (value_of s [])
unfolding looked value_of
empty_key_told [] = refl
empty_key_told (e ∷ s) = empty_told (e ∷ s)

and_true : (x : Bool) → x ≡ (x && true)
and_true true = refl
and_true false = refl

esc_looked : (s : Stored KeyEvent) → looked s (27 ∷ []) true ≡ Ok (found s (27 ∷ []) true)
unfolding looked
esc_looked [] = refl
esc_looked (e ∷ s) = refl

module _ (s : Stored KeyEvent) where
  module _ (none : value_of s [] ≡ None) where
    esc_longest : (o : Option KeyEvent) → value_of s (27 ∷ []) ≡ o → longest s (27 ∷ []) ≡ or_shorter 1 o None
    unfolding longest_to
    esc_longest o e = ap (λ (x : Option KeyEvent). or_shorter 1 (value_of s (27 ∷ [])) (or_shorter 0 x None)) none ∙ ap (λ (x : Option KeyEvent). or_shorter 1 x None) e

    by_longer : (v : KeyEvent) (b : Bool) → escape_exact (Ok (cond (true && b) (Ambiguous 1 v) (Exact 1 v))) ≡ (is_plain_escape v && not b)
    by_longer v true = sym (and_right (is_plain_escape v) false refl)
    by_longer v false = and_true (is_plain_escape v)

    by_known : (o : Option KeyEvent) → value_of s (27 ∷ []) ≡ o → foreign s (27 ∷ []) ≡ false → escape_exact (Ok (found s (27 ∷ []) true)) ≡ (plain_escape o && not (longer_escape s))
    by_known None e k = ap (λ (f : Found KeyEvent). escape_exact (Ok f)) (found_judged s (27 ∷ []) true None k (esc_longest None e))
    by_known (Some v) e k =
        ap (λ (f : Found KeyEvent). escape_exact (Ok f)) (found_judged s (27 ∷ []) true (Some (record { len = 1; value = v })) k (esc_longest (Some v) e))
        ∙ by_longer v (longer_escape s)

    by_foreign : (o : Option KeyEvent) → value_of s (27 ∷ []) ≡ o → foreign s (27 ∷ []) ≡ true → escape_exact (Ok (found s (27 ∷ []) true)) ≡ (plain_escape o && not (longer_escape s))
    by_foreign None e k = ap (λ (f : Found KeyEvent). escape_exact (Ok f)) (found_none s (27 ∷ []) true k)
    by_foreign (Some v) e k =
        absurd (both_ways (begun s (27 ∷ [])) (foreign_means s (27 ∷ []) k).1 (stored_key_passes s (begins_with (27 ∷ [])) (27 ∷ []) v e (begins_with_take 1 (27 ∷ []))))

    -- ESC, open, is answered by plain Escape where that is stored and no longer key starts with ESC
    lone_escape_told : escape_exact (looked s (27 ∷ []) true) ≡ (plain_escape (value_of s (27 ∷ [])) && not (longer_escape s))
    lone_escape_told =
        ap escape_exact (esc_looked s)
        ∙ ⊎_elim (by_foreign (value_of s (27 ∷ [])) refl) (by_known (value_of s (27 ∷ [])) refl) (cases_Bool (foreign s (27 ∷ [])))

  not_both : (a b : Bool) → not (a && not b) ≡ (not a || b)
  not_both true true = refl
  not_both true false = refl
  not_both false b = refl

  -- the two lookups decide
  pub lookups_decide : (not (some_exact (looked s [] false)) && not (escape_exact (looked s (27 ∷ []) true))) ≡ lawful s
  lookups_decide = by (value_of s []) refl
    where
      by : (o : Option KeyEvent) → value_of s [] ≡ o → (not (some_exact (looked s [] false)) && not (escape_exact (looked s (27 ∷ []) true))) ≡ lawful s
      by (Some v) e =
          ap (λ (b : Bool). not b && not (escape_exact (looked s (27 ∷ []) true))) (empty_key_told s ∙ ap is_some e)
          ∙ sym (ap (λ (o : Option KeyEvent). not (is_some o) && (not (plain_escape (value_of s (27 ∷ []))) || longer_escape s)) e)
      by None e =
          ap (λ (b : Bool). not b && not (escape_exact (looked s (27 ∷ []) true))) (empty_key_told s ∙ ap is_some e)
          ∙ (ap not (lone_escape_told e)
          ∙ (not_both (plain_escape (value_of s (27 ∷ []))) (longer_escape s)
          ∙ sym (ap (λ (o : Option KeyEvent). not (is_some o) && (not (plain_escape (value_of s (27 ∷ []))) || longer_escape s)) e)))
