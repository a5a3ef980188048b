-- The first character of bytes: the Unicode Standard, definition D93b and "U+FFFD Substitution of Maximal Subparts".
-- Assumes nothing.
use Rattle.std.specs.Prelude.{◌≡◌, ℕ, ◌+◌, ◌*◌, ◌%◌, ◌≤◌, max, Bool, true, false, cond, List, [], ◌∷◌, length, take, ◌==◌}
use Rattle.character.specs.Characters.{scalar}
use Rattle.writer.specs.Numbers.{utf8_of}
use Rattle.text.specs.declared.kinds.Character.{Character}
use Rattle.text.specs.declared.kinds.Character.TheVariants.{Scalar, IllFormed, Partial, Empty}
use Rattle.text.specs.Table.{table, whole, longest}

-- the bits that a byte behind the first carries
abbrev pub six_bits : ℕ → ℕ
six_bits b = b % 64

-- the number that a character's bytes carry: Table 3-6, "UTF-8 Bit Distribution", by rows of one to four bytes
abbrev pub carried : List ℕ → ℕ
carried [] = 0
carried (a ∷ []) = a
carried (a ∷ b ∷ []) = a % 32 * 64 + six_bits b
carried (a ∷ b ∷ c ∷ []) = (a % 16 * 64 + six_bits b) * 64 + six_bits c
carried (a ∷ b ∷ c ∷ d ∷ bytes) = ((a % 8 * 64 + six_bits b) * 64 + six_bits c) * 64 + six_bits d

-- a whole character; or all bytes begin one; or an ill-formed subpart: the longest beginning of a character, at least a byte
abbrev pub reading : Bool → ℕ → List ℕ → Character
reading complete n bytes =
    cond complete (Scalar (carried (take n bytes)) n)
    (cond (n == length bytes) Partial (IllFormed (max 1 n)))

-- the first character of bytes
unfoldable pub character_of : List ℕ → Character
character_of [] = Empty
character_of (b ∷ bytes) = reading (whole table (b ∷ bytes)) (longest table (b ∷ bytes)) (b ∷ bytes)

-- whether more bytes behind cannot change what was read
abbrev pub settled : Character → Bool
settled (Scalar c n) = true
settled (IllFormed n) = true
settled Partial = false
settled Empty = false

-- a length that is told is from 1 to the number of bytes
abbrev pub Counted : ℕ → Character → Type 0
Counted all (Scalar c n) = (1 ≤ n) × (n ≤ all)
Counted all (IllFormed n) = (1 ≤ n) × (n ≤ all)
Counted all Partial = 1 ≤ all
Counted all Empty = all ≡ 0

-- a scalar value that is told is one, and its bytes are its UTF-8
abbrev pub Exactly : List ℕ → Character → Type 0
Exactly bytes (Scalar c n) = (scalar c ≡ true) × (take n bytes ≡ utf8_of c)
Exactly bytes (IllFormed n) = Unit {0}
Exactly bytes Partial = Unit {0}
Exactly bytes Empty = Unit {0}
