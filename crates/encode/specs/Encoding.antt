-- The answer of an encoding and the output after it. Assumes nothing.
use Rattle.std.specs.Prelude.{◌≡◌, MatchResult, ℕ, Bool, true, false, cond, ◌||◌, List, ◌++◌, length, drop, Some, None, Ok, Err, Option, Result, ◌==◌, nat_le, nat_lt}
use Rattle.keycode.specs.declared.key.KeyCode.{KeyCode}
use Rattle.keycode.specs.declared.modes.KeyCodeEncodeModes.{KeyCodeEncodeModes}
use Rattle.encode.specs.declared.form.Form.{Form}
use Rattle.encode.specs.declared.form.Form.TheVariants.{Typed, Cursor, Application, Keypad, Edit, Numbered, KeyBackspace, KeyEnter, KeyEscape, KeyTab, Silent}
use Rattle.encode.specs.declared.form.EncodeFault.{EncodeFault}
use Rattle.encode.specs.declared.form.EncodeFault.TheVariants.{Modifiers, NoScalar, NoFunction, OutputShort}
use Rattle.character.specs.Characters.{scalar}
use Rattle.encode.specs.Forms.{form_of}
use Rattle.encode.specs.Pressed.{pressed}

-- the number of a refusal
abbrev pub number : EncodeFault → ℕ
number Modifiers = 7
number NoScalar = 8
number NoFunction = 9
number OutputShort = 10

-- what is wrong with a key's own number
abbrev pub form_fault : Form → Option EncodeFault
form_fault (Typed c) = cond (scalar c) None (Some NoScalar)
form_fault (Numbered n) = cond (n == 0 || nat_lt 24 n) (Some NoFunction) None
form_fault (Cursor final) = None
form_fault (Application final) = None
form_fault (Keypad final) = None
form_fault (Edit n) = None
form_fault KeyBackspace = None
form_fault KeyEnter = None
form_fault KeyEscape = None
form_fault KeyTab = None
form_fault Silent = None

-- a form that was read, or what is wrong with the key's own number
abbrev pub Reads : Form → Result Form EncodeFault → Type 0
Reads form r = MatchResult r (λ f. (f ≡ form) × (form_fault f ≡ None)) (λ fault. form_fault form ≡ Some fault)

-- the first cause of a refusal that the press itself gives: the modifiers, then the key's number
abbrev pub press_fault : Form → ℕ → Option EncodeFault
press_fault form m = cond (nat_lt 2047 m) (Some Modifiers) (form_fault form)

-- whether an answer is the refusal of a short output
abbrev pub short_fault : EncodeFault → Bool
short_fault Modifiers = false
short_fault NoScalar = false
short_fault NoFunction = false
short_fault OutputShort = true

abbrev pub is_short : Result ℕ EncodeFault → Bool
is_short (Ok n) = false
is_short (Err fault) = short_fault fault

-- an answer, and the output after it
pub record Sent : Type 0 where
  pub said : Result ℕ EncodeFault
  pub out : List ℕ

abbrev pub sent : Result ℕ EncodeFault → List ℕ → Sent
sent r out = record { said = r; out = out }

-- bytes in front of the output, and the rest as it was; or the output as it was where it is too short
unfoldable pub delivered : List ℕ → List ℕ → Sent
delivered bytes out =
    cond (nat_le (length bytes) (length out))
    (sent (Ok (length bytes)) (bytes ++ drop (length bytes) out))
    (sent (Err OutputShort) out)

abbrev pub unless : Option EncodeFault → List ℕ → List ℕ → Sent
unless (Some fault) bytes out = sent (Err fault) out
unless None bytes out = delivered bytes out

-- what encode answers, and what the output then holds: a key up gives no bytes, before any cause is looked for
abbrev pub encoding : KeyCode → ℕ → KeyCodeEncodeModes → Bool → List ℕ → Sent
encoding key m modes down out =
    cond down (unless (press_fault (form_of key) m) (pressed key m modes) out) (sent (Ok 0) out)
