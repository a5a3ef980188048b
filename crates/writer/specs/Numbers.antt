-- Numbers as text. Assumes nothing.
use Rattle.std.specs.Prelude.{ℕ, zero, suc, ◌+◌, ◌/◌, ◌%◌, cond, List, [], ◌∷◌, ◌++◌, nat_lt}

-- the decimal digits of a number below 10 ^ k
unfoldable pub digits : ℕ → ℕ → List ℕ
digits zero n = []
digits (suc k) n = cond (nat_lt n 10) ((48 + n) ∷ []) (digits k (n / 10) ++ ((48 + n % 10) ∷ []))

-- a number in decimal, without leading zeros
abbrev pub dec : ℕ → List ℕ
dec n = digits (suc n) n

-- an uppercase hexadecimal digit
abbrev pub hex_digit : ℕ → ℕ
hex_digit d = cond (nat_lt d 10) (48 + d) (55 + d)

-- the digits, in a base of at most 16, of a number of at most k digits
unfoldable pub digits_in : ℕ → ℕ → ℕ → List ℕ
digits_in base zero n = []
digits_in base (suc k) n = cond (nat_lt n base) (hex_digit n ∷ []) (digits_in base k (n / base) ++ (hex_digit (n % base) ∷ []))

-- a number in a base, without leading zeros
abbrev pub in_base : ℕ → ℕ → List ℕ
in_base base n = digits_in base (suc n) n

-- a number in hexadecimal
abbrev pub hex_num : ℕ → List ℕ
hex_num n = in_base 16 n

-- a byte that carries the lowest six bits of a number
abbrev pub trail : ℕ → ℕ
trail c = 128 + c % 64

-- a character in UTF-8: the Unicode Standard, Table 3-6, "UTF-8 Bit Distribution"
abbrev pub utf8_of : ℕ → List ℕ
utf8_of c =
    cond (nat_lt c 128) (c ∷ [])
    (cond (nat_lt c 2048) ((192 + c / 64) ∷ trail c ∷ [])
    (cond (nat_lt c 65536) ((224 + c / 4096) ∷ trail (c / 64) ∷ trail c ∷ [])
    ((240 + c / 262144) ∷ trail (c / 4096) ∷ trail (c / 64) ∷ trail c ∷ [])))

-- two digits for a byte
abbrev pub hex_byte : ℕ → List ℕ
hex_byte b = hex_digit (b / 16) ∷ hex_digit (b % 16) ∷ []

-- bytes in hexadecimal
unfoldable pub hex_of : List ℕ → List ℕ
hex_of [] = []
hex_of (b ∷ bs) = hex_byte b ++ hex_of bs
