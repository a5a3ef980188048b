-- The numbers of the C interface as keys and modes. Assumes nothing.
use Rattle.std.specs.Prelude.{ℕ, min, cond, not, ℤ, Some, None, Option, ◌==◌}
use Rattle.keycode.specs.Names.{key_at}
use Rattle.keycode.specs.declared.key.KeyCode.{KeyCode}
use Rattle.keycode.specs.declared.key.KeyCode.TheVariants.{Char, Function}
use Rattle.keycode.specs.declared.modes.KeyboardEncoding.{KeyboardEncoding}
use Rattle.keycode.specs.declared.modes.KeyboardEncoding.TheVariants.{Xterm, CsiU, Win32, Kitty}
use Rattle.keycode.specs.declared.modes.KeyCodeEncodeModes.{KeyCodeEncodeModes}

-- the key at a place; 0 is a character and 59 a function key, which hold the number
abbrev pub key_of : ℕ → ℕ → Option KeyCode
key_of place number =
    cond (place == 0) (Some (Char number))
    (cond (place == 59) (Some (Function (min number 255))) (key_at place))

-- 0 Xterm, 1 CsiU, 2 Win32, 3 Kitty without flags
abbrev pub encoding_of : ℕ → Option KeyboardEncoding
encoding_of n =
    cond (n == 0) (Some Xterm)
    (cond (n == 1) (Some CsiU)
    (cond (n == 2) (Some Win32)
    (cond (n == 3) (Some (Kitty (record { 0 = 0 }))) None)))

-- modifyOtherKeys, if it is given
abbrev pub other_of : ℕ → ℤ → Option ℤ
other_of given other = cond (given == 0) None (Some other)

-- the modes; a flag is off where its number is 0
abbrev pub modes_of : KeyboardEncoding → ℕ → ℕ → ℕ → ℤ → KeyCodeEncodeModes
modes_of encoding cursor newline given other = record {
  encoding = encoding;
  application_cursor_keys = not (cursor == 0);
  newline_mode = not (newline == 0);
  modify_other_keys = other_of given other;
}
