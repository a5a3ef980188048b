-- What keys and characters share. XTerm Control Sequences: CSI is ESC [; "PC-Style Function Keys" has the modifier
-- parameter, "Alt and Meta Keys" the ESC before a character. Assumes nothing.
use Rattle.std.specs.Prelude.{ℕ, ◌+◌, cond, List, [], ◌∷◌}
use Rattle.keycode.specs.Modifiers.{alt, xterm_sum}
use Rattle.writer.specs.Numbers.{dec}

-- CSI and what follows it
abbrev pub csi : List ℕ → List ℕ
csi rest = 27 ∷ 91 ∷ rest

-- the modifier parameter, as digits
abbrev pub parameter : ℕ → List ℕ
parameter m = dec (1 + xterm_sum m)

-- ALT sends ESC first
abbrev pub escaped : ℕ → List ℕ
escaped m = cond (alt m) (27 ∷ []) []
