-- The keys at the places of a rule, row by row. Assumes nothing.
use Rattle.std.proofs.Common.{◌≡◌, ℕ, ◌+◌, ◌*◌, ◌/◌, ◌%◌, ◌<◌, List, get_or, sym, refl, ap, ◌∙◌, arith}
use Rattle.std.specs.List.{range_with_len}
use Rattle.keycode.specs.declared.key.KeyCode.TheVariants.{Char}
use Rattle.keycode.specs.declared.key.KeyEvent.{KeyEvent}
use Rattle.keymap.specs.Stored.{Entry}
use Rattle.table.specs.declared.rule.Rule.{Rule}
use Rattle.table.specs.declared.rule.Rule.TheVariants.{Letters, CsiU, OtherKeys, Cursor, RxvtArrows, ApplicationArrows, Functions, Editing}
use Rattle.table.specs.Table.{each, letter_row, csi_u_row, other_key_row, lettered, cursor_keys, cursor_row, marked, rxvt_keys, rxvt_row, application_keys, application_row, function_row, editing_digits, editing_row, entries_of}
use Rattle.table.specs.Told.{blank, count_of}
use Rattle.table.proofs.Each.{in_row, in_counted_row}

-- the entry of a rule that is known
pub known : (rule r : Rule) → rule ≡ r → (place : ℕ) → place < count_of rule → (e : Entry KeyEvent) → (place < count_of r → e ≡ get_or (entries_of r) place blank) → e ≡ get_or (entries_of rule) place blank
known rule r is place h e f = f (omega (arith, ap count_of is)) ∙ ap (λ (x : Rule). get_or (entries_of x) place blank) (sym is)

module _ (p : ℕ) where
  abbrev Row : Rule → List (Entry KeyEvent) → ℕ → Type 0
  Row rule row j = get_or (entries_of rule) p blank ≡ get_or row j blank

  pub at_letters : p < 52 → Row Letters (letter_row (p / 2 + 1)) (p % 2)
  unfolding entries_of
  at_letters h =
      let e : p ≡ p / 2 * 2 + p % 2 = omega arith in
      ap (λ (i : ℕ). get_or (each (range_with_len 1 26) letter_row) i blank) e
      ∙ in_counted_row letter_row 2 (λ x. refl) 1 26 (p / 2) (p % 2) (p / 2 + 1) blank refl (omega arith) (omega arith) (omega arith)

  pub at_csi_u : p < 1152 → Row CsiU (csi_u_row (p / 9)) (p % 9)
  unfolding entries_of
  at_csi_u h =
      let e : p ≡ p / 9 * 9 + p % 9 = omega arith in
      ap (λ (i : ℕ). get_or (each (range_with_len 0 128) csi_u_row) i blank) e
      ∙ in_counted_row csi_u_row 9 (λ x. refl) 0 128 (p / 9) (p % 9) (p / 9) blank refl (omega arith) (omega arith) (omega arith)

  pub at_other_keys : p < 1024 → Row OtherKeys (other_key_row (p / 8)) (p % 8)
  unfolding entries_of
  at_other_keys h =
      let e : p ≡ p / 8 * 8 + p % 8 = omega arith in
      ap (λ (i : ℕ). get_or (each (range_with_len 0 128) other_key_row) i blank) e
      ∙ in_counted_row other_key_row 8 (λ x. refl) 0 128 (p / 8) (p % 8) (p / 8) blank refl (omega arith) (omega arith) (omega arith)

  pub at_functions : p < 340 → Row Functions (function_row (p / 17 + 1)) (p % 17)
  unfolding entries_of
  at_functions h =
      let e : p ≡ p / 17 * 17 + p % 17 = omega arith in
      ap (λ (i : ℕ). get_or (each (range_with_len 1 20) function_row) i blank) e
      ∙ in_counted_row function_row 17 (λ x. refl) 1 20 (p / 17) (p % 17) (p / 17 + 1) blank refl (omega arith) (omega arith) (omega arith)

  pub at_cursor : p < 180 → Row Cursor (cursor_row (get_or cursor_keys (p / 18) (lettered (Char 0) 0 0))) (p % 18)
  unfolding entries_of cursor_keys
  at_cursor h =
      let e : p ≡ p / 18 * 18 + p % 18 = omega arith in
      ap (λ (i : ℕ). get_or (each cursor_keys cursor_row) i blank) e ∙ in_row cursor_row 18 (λ x. refl) cursor_keys (p / 18) (p % 18) (lettered (Char 0) 0 0) blank (omega arith) (omega arith)

  pub at_rxvt_arrows : p < 8 → Row RxvtArrows (rxvt_row (get_or rxvt_keys (p / 2) (marked (Char 0) 0))) (p % 2)
  unfolding entries_of rxvt_keys
  at_rxvt_arrows h =
      let e : p ≡ p / 2 * 2 + p % 2 = omega arith in
      ap (λ (i : ℕ). get_or (each rxvt_keys rxvt_row) i blank) e ∙ in_row rxvt_row 2 (λ x. refl) rxvt_keys (p / 2) (p % 2) (marked (Char 0) 0) blank (omega arith) (omega arith)

  pub at_application_arrows : p < 40 → Row ApplicationArrows (application_row (get_or application_keys (p / 10) (marked (Char 0) 0))) (p % 10)
  unfolding entries_of application_keys
  at_application_arrows h =
      let e : p ≡ p / 10 * 10 + p % 10 = omega arith in
      ap (λ (i : ℕ). get_or (each application_keys application_row) i blank) e ∙ in_row application_row 10 (λ x. refl) application_keys (p / 10) (p % 10) (marked (Char 0) 0) blank (omega arith) (omega arith)

  pub at_editing : p < 32 → Row Editing (editing_row (get_or editing_digits (p / 4) (marked (Char 0) 0))) (p % 4)
  unfolding entries_of editing_digits
  at_editing h =
      let e : p ≡ p / 4 * 4 + p % 4 = omega arith in
      ap (λ (i : ℕ). get_or (each editing_digits editing_row) i blank) e ∙ in_row editing_row 4 (λ x. refl) editing_digits (p / 4) (p % 4) (marked (Char 0) 0) blank (omega arith) (omega arith)
