-- Sets of modifiers as a line writes them: by letters. Assumes nothing.
use Rattle.std.specs.Prelude.{ℕ, cond, List, [], ◌++◌, map, Some, None, codes, Option, ◌==◌}
use Rattle.std.specs.List.{range_with_len}
use Rattle.keycode.specs.Modifiers.{has}
use Rattle.keycode.specs.Names.{place_from}
use Rattle.keycode.specs.declared.modifiers.Modifiers.{Modifiers}

-- the letter of a modifier, if it is in the set
abbrev pub letter : ℕ → ℕ → List ℕ → List ℕ
letter m flag text = cond (has m flag) text []

-- the letters of a set: S for SHIFT, A for ALT, C for CTRL, P for SUPER, in that order
abbrev pub letters_of : ℕ → List ℕ
letters_of m = letter m 1 (codes "S") ++ (letter m 2 (codes "A") ++ (letter m 4 (codes "C") ++ letter m 8 (codes "P")))

-- the text of a set: its letters, or `-` for none
abbrev pub mods_text : ℕ → List ℕ
mods_text m = cond (m == 0) (codes "-") (letters_of m)

-- the texts of the sets from 0 to 15
unfoldable pub mods_texts : List (List ℕ)
mods_texts = map mods_text (range_with_len 0 16)

-- the set of a number
abbrev pub as_set : Option ℕ → Option Modifiers
as_set None = None
as_set (Some m) = Some (record { 0 = m })

-- the set from 0 to 15 whose text this is
abbrev pub set_of : List ℕ → Option Modifiers
set_of text = as_set (place_from 0 mods_texts text)
