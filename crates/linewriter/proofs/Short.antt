-- Names of keys and sets of modifiers are short. Assumes nothing.
use Rattle.std.proofs.Common.{◌≡◌, ℕ, zero, suc, ◌%◌, ◌≤◌, max, List, [], ◌∷◌, length, get_or, sym, refl, ap, ◌∙◌, arith}
use Rattle.keycode.specs.Modifiers.{unplaced}
use Rattle.keycode.specs.Names.{place, names, name_of}
use Rattle.keycode.specs.declared.key.KeyCode.{KeyCode}
use Rattle.lines.proofs.Letters.{text_at}
use Rattle.lines.specs.Mods.{mods_text, mods_texts}

-- the length of the longest of some texts
longest : List (List ℕ) → ℕ
longest [] = 0
longest (t ∷ ts) = max (length t) (longest ts)

at_most : (ts : List (List ℕ)) (i : ℕ) → length (get_or ts i []) ≤ longest ts
unfolding longest
at_most [] i = omega arith
at_most (t ∷ ts) zero = omega arith
at_most (t ∷ ts) (suc i) = omega (arith, at_most ts i)

-- a text of the table of names
pub name_short : (key : KeyCode) (text : List ℕ) → text ≡ name_of key → length text ≤ 21
unfolding names longest
name_short key text e = let most : longest names ≡ 21 = refl in omega (arith, at_most names (place key), most, ap length e)

-- a text of the table of sets of modifiers
pub mods_short : (m : ℕ) (text : List ℕ) → text ≡ mods_text (unplaced m) → length text ≤ 4
unfolding mods_texts longest
mods_short m text e =
    let most : longest mods_texts ≡ 4 = refl in
    omega (arith, at_most mods_texts (m % 16), most, ap length (e ∙ sym (text_at (m % 16) (omega arith))))
