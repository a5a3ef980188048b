-- The line of a press as a script writes it. Assumes nothing.
use Rattle.std.specs.Prelude.{ℕ, ◌-◌, List, ◌++◌, length, take, drop, codes}
use Rattle.keycode.specs.Modifiers.{unplaced}
use Rattle.keycode.specs.declared.key.KeyEvent.{KeyEvent}

-- press in place of the first three bytes, and without the last byte, the LF
abbrev pub as_press : List ℕ → List ℕ
as_press line = codes "press" ++ drop 3 (take (length line - 1) line)

-- the press less the modifiers that name a side
abbrev pub unsided : KeyEvent → KeyEvent
unsided e = record { key = e.key; modifiers = record { 0 = unplaced e.modifiers.0 } }
