-- Characters by their numbers. Assumes nothing.
use Rattle.std.specs.Prelude.{ℕ, ◌-◌, Bool, cond, not, ◌&&◌, ◌||◌, Some, None, Option, ◌==◌, nat_le, nat_lt}

-- from the first number to the last
abbrev pub within : ℕ → ℕ → ℕ → Bool
within first last c = nat_le first c && nat_le c last

-- a Unicode scalar value: up to 10FFFF, without the surrogates D800 to DFFF
abbrev pub scalar : ℕ → Bool
scalar c = nat_lt c 55296 || within 57344 1114111 c

-- a to z
abbrev pub lower : ℕ → Bool
lower c = within 97 122 c

-- A to Z
abbrev pub upper : ℕ → Bool
upper c = within 65 90 c

-- 0 to 9
abbrev pub digit : ℕ → Bool
digit c = within 48 57 c

-- letters, digits and punctuation: 21 to 7E
abbrev pub graphic : ℕ → Bool
graphic c = within 33 126 c

-- uppercase letters and punctuation: SHIFT is already in the character
abbrev pub owns_shift : ℕ → Bool
owns_shift c = graphic c && not (digit c || lower c)

-- i I m M [ { @: their control characters are Tab, Enter, Escape and NUL
abbrev pub ambiguous : ℕ → Bool
ambiguous c = c == 105 || c == 73 || c == 109 || c == 77 || c == 91 || c == 123 || c == 64

-- c, d, Escape, 7F and 08: the keys that xterm's modifyOtherKeys at 1 leaves as they are
abbrev pub well_known : ℕ → Bool
well_known c = c == 99 || c == 100 || c == 27 || c == 127 || c == 8

-- the control character of a character: letters 01 to 1A; @ ` space 2 NUL; [ 3 { ESC; \ 4 | FS; ] 5 } GS; ^ 6 ~ RS;
-- _ 7 / US; 8 ? DEL
abbrev pub ctrl_of : ℕ → Option ℕ
ctrl_of c =
    cond (lower c) (Some (c - 96))
    (cond (upper c) (Some (c - 64))
    (cond (c == 64 || c == 96 || c == 32 || c == 50) (Some 0)
    (cond (c == 91 || c == 51 || c == 123) (Some 27)
    (cond (c == 92 || c == 52 || c == 124) (Some 28)
    (cond (c == 93 || c == 53 || c == 125) (Some 29)
    (cond (c == 94 || c == 54 || c == 126) (Some 30)
    (cond (c == 95 || c == 55 || c == 47) (Some 31)
    (cond (c == 56 || c == 63) (Some 127) None))))))))
