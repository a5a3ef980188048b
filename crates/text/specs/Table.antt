-- Well-formed UTF-8: the Unicode Standard, Table 3-7, "Well-Formed UTF-8 Byte Sequences". Assumes nothing.
use Rattle.std.specs.Prelude.{ℕ, suc, max, Bool, false, cond, ◌||◌, List, [], ◌∷◌, length, ◌==◌}
use Rattle.character.specs.Characters.{within}

-- the bytes from a first to a last
pub record Range : Type 0 where
  pub first : ℕ
  pub last : ℕ

infixl 20 ◌to◌
abbrev pub ◌to◌ : ℕ → ℕ → Range
◌to◌ first last = record { first = first; last = last }

-- whether a byte lies in the range
abbrev pub holds : Range → ℕ → Bool
holds range b = within range.first range.last b

-- the rows of the table: the ranges of the first byte, the second and so on
abbrev pub table : List (List Range)
table =
    ((0x00 to 0x7F) ∷ [])
    ∷ ((0xC2 to 0xDF) ∷ (0x80 to 0xBF) ∷ [])
    ∷ ((0xE0 to 0xE0) ∷ (0xA0 to 0xBF) ∷ (0x80 to 0xBF) ∷ [])
    ∷ ((0xE1 to 0xEC) ∷ (0x80 to 0xBF) ∷ (0x80 to 0xBF) ∷ [])
    ∷ ((0xED to 0xED) ∷ (0x80 to 0x9F) ∷ (0x80 to 0xBF) ∷ [])
    ∷ ((0xEE to 0xEF) ∷ (0x80 to 0xBF) ∷ (0x80 to 0xBF) ∷ [])
    ∷ ((0xF0 to 0xF0) ∷ (0x90 to 0xBF) ∷ (0x80 to 0xBF) ∷ (0x80 to 0xBF) ∷ [])
    ∷ ((0xF1 to 0xF3) ∷ (0x80 to 0xBF) ∷ (0x80 to 0xBF) ∷ (0x80 to 0xBF) ∷ [])
    ∷ ((0xF4 to 0xF4) ∷ (0x80 to 0x8F) ∷ (0x80 to 0xBF) ∷ (0x80 to 0xBF) ∷ [])
    ∷ []

-- how many bytes, from the front, lie in the ranges in order
unfoldable pub fits : List Range → List ℕ → ℕ
fits [] bytes = 0
fits (range ∷ row) [] = 0
fits (range ∷ row) (b ∷ bytes) = cond (holds range b) (suc (fits row bytes)) 0

-- whether a character of one of the rows stands in front
unfoldable pub whole : List (List Range) → List ℕ → Bool
whole [] bytes = false
whole (row ∷ rows) bytes = fits row bytes == length row || whole rows bytes

-- the most bytes, from the front, that begin a character of one of the rows
unfoldable pub longest : List (List Range) → List ℕ → ℕ
longest [] bytes = 0
longest (row ∷ rows) bytes = max (fits row bytes) (longest rows bytes)
