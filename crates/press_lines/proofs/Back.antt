-- The line of a press is read as the press. Assumes nothing.
use Rattle.std.proofs.Common.{◌≡◌, ℕ, ◌-◌, ◌%◌, ◌≤◌, true, List, [], ◌∷◌, ◌++◌, length, get_or, take, drop, Some, Ok, codes, Option, sym, refl, ap, ◌∙◌, append_assoc, arith, length-append}
use Rattle.std.proofs.lemmas.List.{take_at}
use Rattle.std.proofs.lemmas.Slice.{between_is}
use Rattle.std.proofs.lemmas.Bool.{le-leb, cond-true}
use Rattle.std.specs.Option.{option_map, ok_or}
use Rattle.keycode.specs.Modifiers.{unplaced}
use Rattle.keycode.specs.Names.{names, name_of, place}
use Rattle.keycode.specs.declared.key.KeyEvent.{KeyEvent}
use Rattle.keymap.specs.Stored.{value_of}
use Rattle.lines.proofs.Letters.{text_at, read_back}
use Rattle.lines.specs.Fields.{parted}
use Rattle.lines.specs.Mods.{mods_text, mods_texts, set_of}
use Rattle.lines.specs.Requests.{form_of, press_of, event, request_in}
use Rattle.lines.specs.declared.request.LineFault.TheVariants.{OtherForm}
use Rattle.lines.specs.declared.request.Request.{Request}
use Rattle.lines.specs.declared.request.Request.TheVariants.{Press}
use Rattle.events.specs.Told.{key}
use Rattle.linewriter.specs.KeyNumbers.{number_of, Sized}
use Rattle.linewriter.specs.Lines.{line_of, number_text}
use Rattle.linewriter.specs.declared.number.Number.{Number}
use Rattle.linewriter.specs.declared.number.Number.TheVariants.{Character, OnKey, Absent}
use Rattle.words.specs.Words.{verb_words, key_words}
use Rattle.press_lines.specs.Presses.{as_press, unsided}
use Rattle.press_lines.proofs.Fields.{tabless, all_tabless, tabless_at, parted_join, parted_alone}
use Rattle.press_lines.proofs.Keys.{key_back}
use Rattle.press_lines.proofs.Numbers.{hex_tabless, dec_tabless}

number_tabless : (n : Number) → tabless (number_text n) ≡ true
unfolding tabless
number_tabless (Character c) = hex_tabless c
number_tabless (OnKey n) = dec_tabless n
number_tabless Absent = refl

name_tabless : (i : ℕ) → tabless (get_or names i []) ≡ true
unfolding names all_tabless tabless
name_tabless i = tabless_at names i refl

mods_tabless : (m : ℕ) → tabless (mods_text (unplaced m)) ≡ true
unfolding mods_texts all_tabless tabless
mods_tabless m = ap tabless (sym (text_at (m % 16) (omega arith))) ∙ tabless_at mods_texts (m % 16) refl

module _ (e : KeyEvent) where
  abbrev name : List ℕ
  name = name_of e.key

  abbrev mods : List ℕ
  mods = mods_text (unplaced e.modifiers.0)

  abbrev number : List ℕ
  number = number_text (number_of e.key)

  abbrev fields : List ℕ
  fields = name ++ (9 ∷ (mods ++ (9 ∷ number)))

  line_is : line_of (key e) ≡ (codes "key" ++ (9 ∷ fields)) ++ (10 ∷ [])
  unfolding line_of
  line_is = simp append_assoc

  pub line_length : 4 ≤ length (line_of (key e))
  line_length = omega (arith, ap length line_is, length-append (codes "key" ++ (9 ∷ fields)) (10 ∷ []))

  pub press_is : as_press (line_of (key e)) ≡ codes "press" ++ (9 ∷ fields)
  press_is =
      let whole = codes "key" ++ (9 ∷ fields) in
      let n : length (line_of (key e)) - 1 ≡ length whole = omega (arith, ap length line_is, length-append whole (10 ∷ [])) in
      ap (λ (l : List ℕ). codes "press" ++ drop 3 l)
      (ap (λ (k : ℕ). take k (line_of (key e))) n ∙ (ap (take (length whole)) line_is ∙ take_at whole (10 ∷ []) (length whole) refl))

  -- its bytes, made from those of the line
  pub made_is : (line out : List ℕ) → line ≡ line_of (key e) → out ≡ codes "press" ++ take (length line - 1 - 3) (drop 3 line) → out ≡ as_press (line_of (key e))
  made_is line out same made =
      made ∙ (ap (λ (l : List ℕ). codes "press" ++ l) (between_is line 3 (length line - 1)) ∙ ap as_press same)

  parts : parted (codes "press" ++ (9 ∷ fields)) ≡ codes "press" ∷ name ∷ mods ∷ number ∷ []
  unfolding tabless
  parts =
      parted_join (codes "press") fields refl
      ∙ ap (λ (ls : List (List ℕ)). codes "press" ∷ ls)
      (parted_join name (mods ++ (9 ∷ number)) (name_tabless (place e.key))
      ∙ ap (λ (ls : List (List ℕ)). name ∷ ls)
      (parted_join mods number (mods_tabless e.modifiers.0) ∙ ap (λ (ls : List (List ℕ)). mods ∷ ls) (parted_alone number (number_tabless (number_of e.key)))))

  read : Sized (number_of e.key) → press_of (value_of key_words) (name ∷ mods ∷ number ∷ []) ≡ Some (unsided e)
  read h =
      ap (λ o. event o (set_of mods)) (key_back e.key h)
      ∙ ap (event (Some e.key)) (read_back (unplaced e.modifiers.0) (omega arith))

  form : Sized (number_of e.key) → form_of (value_of verb_words) (value_of key_words) (parted (codes "press" ++ (9 ∷ fields))) ≡ Some (Press (unsided e))
  unfolding value_of
  form h = ap (form_of (value_of verb_words) (value_of key_words)) parts ∙ ap (option_map Press) (read h)

  pub request_back : (text : List ℕ) → Sized (number_of e.key) → text ≡ as_press (line_of (key e)) → length text ≤ 64 → request_in (value_of verb_words) (value_of key_words) text ≡ Ok (Press (unsided e))
  request_back text h same short =
      ap (λ (o : Option Request). ok_or o OtherForm)
      (cond-true _ _ _ (le-leb (length text) 8210 (omega arith)) ∙ (ap (λ (t : List ℕ). form_of (value_of verb_words) (value_of key_words) (parted t)) (same ∙ press_is) ∙ form h))
