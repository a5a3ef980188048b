-- Numbers as a line writes them. Assumes nothing.
use Rattle.std.specs.Prelude.{ℕ, ◌+◌, ◌-◌, ◌*◌, Bool, true, false, cond, not, ◌&&◌, List, [], ◌∷◌, length, Some, None, Option, ◌==◌, nat_le, nat_lt}

-- the value, if it is at most the limit
abbrev pub up_to : ℕ → Option ℕ → Option ℕ
up_to most None = None
up_to most (Some n) = cond (nat_le n most) (Some n) None

-- the value of a digit: 0 to 9, then the letters A to F
abbrev pub digit_of : ℕ → Option ℕ
digit_of b = cond (nat_le 48 b && nat_le b 57) (Some (b - 48)) (cond (nat_le 65 b && nat_le b 70) (Some (b - 55)) None)

-- the digit, if it is below the base
abbrev pub below : ℕ → Option ℕ → Option ℕ
below base None = None
below base (Some d) = cond (nat_lt d base) (Some d) None

-- the value of a digit of the base
abbrev pub digit_in : ℕ → ℕ → Option ℕ
digit_in base b = below base (digit_of b)

-- a digit behind a value
abbrev pub behind : ℕ → Option ℕ → Option ℕ → Option ℕ
behind base None d = None
behind base (Some n) None = None
behind base (Some n) (Some d) = Some (n * base + d)

-- the value of the digits that follow a value, the first the most significant; none if a byte is no digit
unfoldable pub value_from : ℕ → Option ℕ → List ℕ → Option ℕ
value_from base n [] = n
value_from base n (b ∷ bs) = value_from base (behind base n (digit_in base b)) bs

-- at least one byte, and no zero before another
abbrev pub plain : List ℕ → Bool
plain [] = false
plain (b ∷ []) = true
plain (b ∷ c ∷ bs) = not (b == 48)

-- the number that a text writes in a base, with no leading zero
abbrev pub numeral : ℕ → List ℕ → Option ℕ
numeral base text = cond (plain text) (value_from base (Some 0) text) None

-- a number in base 16, of at most eight digits
abbrev pub hex_number : List ℕ → Option ℕ
hex_number text = cond (nat_le (length text) 8) (numeral 16 text) None

-- a number in base 10, at most 255
abbrev pub dec_number : List ℕ → Option ℕ
dec_number text = up_to 255 (numeral 10 text)
