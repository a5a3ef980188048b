-- The sequences of cursor, editing and function keys. XTerm Control Sequences, "PC-Style Function Keys" and "VT220-Style
-- Function Keys"; SS3 is ESC O; that document has no numbers for Function 21 to 24: 42 to 45 are the original's. Assumes nothing.
use Rattle.std.specs.Prelude.{ℕ, ◌+◌, ◌-◌, Bool, cond, not, List, [], ◌∷◌, ◌++◌, ◌==◌, nat_lt, slice_index}
use Rattle.keycode.specs.Modifiers.{xterm_sum}
use Rattle.character.specs.Parts.{csi, parameter}
use Rattle.writer.specs.Numbers.{dec}

-- SS3 and a final letter
abbrev pub ss3 : ℕ → List ℕ
ss3 final = 27 ∷ 79 ∷ final ∷ []

-- whether a sequence names a modifier: SHIFT, ALT or CTRL is held
abbrev pub modified : ℕ → Bool
modified m = not (xterm_sum m == 0)

-- CSI 1 ; n and a final letter
abbrev pub lettered : ℕ → ℕ → List ℕ
lettered final m = csi (49 ∷ 59 ∷ (parameter m ++ (final ∷ [])))

-- a key with a final letter: what it sends plain, or CSI 1 ; n and the letter
unfoldable pub letter_key : List ℕ → ℕ → ℕ → List ℕ
letter_key plain final m = cond (modified m) (lettered final m) plain

-- ; n where a modifier is held
abbrev pub number_parameter : ℕ → List ℕ
number_parameter m = cond (modified m) (59 ∷ parameter m) []

-- a key with a number: CSI number ~, or CSI number ; n ~
unfoldable pub number_key : ℕ → ℕ → List ℕ
number_key number m = csi (dec number ++ (number_parameter m ++ (126 ∷ [])))

-- the numbers of Function 5 to 24
unfoldable pub function_codes : List ℕ
function_codes = 15 ∷ 17 ∷ 18 ∷ 19 ∷ 20 ∷ 21 ∷ 23 ∷ 24 ∷ 25 ∷ 26 ∷ 28 ∷ 29 ∷ 31 ∷ 32 ∷ 33 ∷ 34 ∷ 42 ∷ 43 ∷ 44 ∷ 45 ∷ []

-- Function 1 to 4 end in P to S: by SS3 without any modifier, else by CSI 1 ; n. The others have numbers
unfoldable pub function_key : ℕ → ℕ → List ℕ
function_key n m =
    cond (nat_lt n 5)
    (cond (m == 0) (ss3 (79 + n)) (lettered (79 + n) m))
    (number_key (slice_index function_codes (n - 5)) m)
