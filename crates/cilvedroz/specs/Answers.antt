-- What the C interface answers, and the output after it. Assumes nothing.
use Rattle.std.specs.Prelude.{ℕ, min, true, cond, List, ℤ, pos, negsuc, neg_ℤ, Some, None, Ok, Err, Option, Result, ◌==◌}
use Rattle.keycode.specs.declared.key.KeyCode.{KeyCode}
use Rattle.keycode.specs.declared.modes.KeyboardEncoding.{KeyboardEncoding}
use Rattle.encode.specs.declared.form.EncodeFault.{EncodeFault}
use Rattle.encode.specs.Encoding.{number, Sent, encoding}
use Rattle.cilvedroz.specs.Arguments.{key_of, encoding_of, modes_of}

-- an answer, and the output after it
pub record Told : Type 0 where
  pub said : ℤ
  pub out : List ℕ

abbrev pub told : ℤ → List ℕ → Told
told said out = record { said = said; out = out }

-- the count of the bytes, or minus the number of the refusal
abbrev pub answer_of : Result ℕ EncodeFault → ℤ
answer_of (Ok count) = pos count
answer_of (Err fault) = neg_ℤ (pos (number fault))

abbrev pub told_of : Sent → Told
told_of sent = told (answer_of sent.said) sent.out

-- what is answered to a key down: -100 where there is no such key or encoding, else what encode says; a set of modifiers
-- that is cut to 65535 is too large as before
abbrev pub pressed : Option KeyCode → Option KeyboardEncoding → ℕ → ℕ → ℕ → ℕ → ℤ → List ℕ → Told
pressed None encoding m cursor newline given other out = told (negsuc 99) out
pressed (Some key) None m cursor newline given other out = told (negsuc 99) out
pressed (Some key) (Some e) m cursor newline given other out =
    told_of (encoding key (min m 65535) (modes_of e cursor newline given other) true out)

-- what the C function answers, and what the output then holds: a key up gives no bytes, whatever else is asked
unfoldable pub answer : ℕ → ℕ → ℕ → ℕ → ℕ → ℕ → ℕ → ℤ → ℕ → List ℕ → Told
answer place number m encoding cursor newline given other down out =
    cond (down == 0) (told (pos 0) out)
    (pressed (key_of place number) (encoding_of encoding) m cursor newline given other out)
