-- Text with U+FFFD, EF BF BD in UTF-8, for each maximal ill-formed subpart. Assumes nothing.
use Rattle.std.specs.Prelude.{ℕ, zero, suc, ◌-◌, cond, List, [], ◌∷◌, ◌++◌, length, take, drop, Some, None, Ok, Err, Option, Result, nat_le}
use Rattle.text.specs.declared.kinds.Character.{Character}
use Rattle.text.specs.declared.kinds.Character.TheVariants.{Scalar, IllFormed, Partial, Empty}
use Rattle.text.specs.declared.kinds.TextFault.{TextFault}
use Rattle.text.specs.declared.kinds.TextFault.TheVariants.{OutputTooShort}
use Rattle.text.specs.Reading.{character_of}

-- the number of a refusal
abbrev pub number : TextFault → ℕ
number OutputTooShort = 10

-- U+FFFD in UTF-8
abbrev pub replacement : List ℕ
replacement = 0xEF ∷ 0xBF ∷ 0xBD ∷ []

-- how many bytes the first character takes; an unfinished one takes all
abbrev pub taken : Character → List ℕ → ℕ
taken (Scalar c n) bytes = n
taken (IllFormed n) bytes = n
taken Partial bytes = length bytes
taken Empty bytes = 0

-- what is written for it
abbrev pub shown : Character → List ℕ → List ℕ
shown (Scalar c n) bytes = take n bytes
shown (IllFormed n) bytes = replacement
shown Partial bytes = replacement
shown Empty bytes = []

-- the lossy text of the bytes behind the first n
unfoldable pub lossy_behind : ℕ → List ℕ → List ℕ
lossy_behind n [] = []
lossy_behind zero (b ∷ bytes) =
    shown (character_of (b ∷ bytes)) (b ∷ bytes) ++ lossy_behind (taken (character_of (b ∷ bytes)) (b ∷ bytes) - 1) bytes
lossy_behind (suc n) (b ∷ bytes) = lossy_behind n bytes

-- the lossy text: what is written for each character in turn
abbrev pub lossy_of : List ℕ → List ℕ
lossy_of bytes = lossy_behind 0 bytes

-- an answer, and the output after it
pub record Told : Type 0 where
  pub said : Result ℕ TextFault
  pub out : List ℕ

abbrev pub told : Result ℕ TextFault → List ℕ → Told
told r out = record { said = r; out = out }

-- a length, if it is at most the limit
abbrev pub up_to : ℕ → ℕ → Option ℕ
up_to most n = cond (nat_le n most) (Some n) None

-- text in front of the output, and the rest as it was; or the output as it was where it is too short
abbrev pub written_in : List ℕ → List ℕ → Told
written_in text out =
    cond (nat_le (length text) (length out))
    (told (Ok (length text)) (text ++ drop (length text) out))
    (told (Err OutputTooShort) out)
