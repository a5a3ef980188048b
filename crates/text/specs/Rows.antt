-- What may follow a first byte, as the code has it. Assumes nothing.
use Rattle.std.specs.Prelude.{ℕ, zero, suc, cond, List, [], ◌∷◌, replicate, Some, None, Option, ◌==◌}
use Rattle.text.specs.declared.kinds.Row.{Row}
use Rattle.text.specs.Table.{Range, ◌to◌, holds}

-- the ranges behind a first byte, by the first row that has it
abbrev pub behind : List (List Range) → ℕ → Option (List Range)
behind [] b = None
behind ([] ∷ rows) b = behind rows b
behind ((range ∷ row) ∷ rows) b = cond (holds range b) (Some row) (behind rows b)

-- the ranges that a row of the code stands for
abbrev pub ranges_of : ℕ → Range → List Range
ranges_of zero range = []
ranges_of (suc n) range = range ∷ replicate n (0x80 to 0xBF)

abbrev pub ranges : Row → List Range
ranges row = ranges_of row.more (row.low to row.high)

-- the range at a place of such a row
abbrev pub range_at : Row → ℕ → Range
range_at row n = cond (n == 0) (row.low to row.high) (0x80 to 0xBF)
