-- Fields of a line. Assumes nothing.
use Rattle.std.specs.Prelude.{ℕ, Bool, true, false, cond, List, Some, None, codes, Option}
use Rattle.std.specs.Str.{bytes_eq}
use Rattle.keycode.specs.declared.modes.KeyboardEncoding.{KeyboardEncoding}
use Rattle.keycode.specs.declared.modes.KeyboardEncoding.TheVariants.{Xterm, CsiU, Win32, Kitty}

-- the value of a text, if it is this one
abbrev pub flag_of : List ℕ → Option Bool
flag_of text = cond (bytes_eq text (codes "0")) (Some false) (cond (bytes_eq text (codes "1")) (Some true) None)

abbrev pub encoding_of : List ℕ → Option KeyboardEncoding
encoding_of text =
    cond (bytes_eq text (codes "xterm")) (Some Xterm)
    (cond (bytes_eq text (codes "csiu")) (Some CsiU)
    (cond (bytes_eq text (codes "win32")) (Some Win32)
    (cond (bytes_eq text (codes "kitty")) (Some (Kitty (record { 0 = 0 }))) None)))
