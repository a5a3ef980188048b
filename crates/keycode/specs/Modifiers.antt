-- Sets of modifiers, as numbers whose bits are the members: SHIFT 1, ALT 2, CTRL 4, SUPER 8, and seven from 16 to 1,024
-- that name a side of the keyboard. Assumes nothing.
use Rattle.std.specs.Prelude.{ℕ, ◌+◌, ◌-◌, ◌%◌, Bool, cond, ◌==◌, bit_and}

-- whether all members of the second set are in the first
abbrev pub has : ℕ → ℕ → Bool
has m flags = bit_and m flags == flags

-- the first set less the members of the second
abbrev pub without : ℕ → ℕ → ℕ
without m flags = m - bit_and m flags

-- the set less the seven that name a side
abbrev pub unplaced : ℕ → ℕ
unplaced m = m % 16

abbrev pub shift : ℕ → Bool
shift m = has m 1

abbrev pub alt : ℕ → Bool
alt m = has m 2

abbrev pub ctrl : ℕ → Bool
ctrl m = has m 4

-- XTerm Control Sequences, "PC-Style Function Keys": a modifier parameter is 1 and Shift 1, Alt 2, Control 4 for each
-- that is held
unfoldable pub xterm_sum : ℕ → ℕ
xterm_sum m = cond (shift m) 1 0 + (cond (alt m) 2 0 + cond (ctrl m) 4 0)
