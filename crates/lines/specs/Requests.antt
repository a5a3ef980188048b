-- What a line asks for. Assumes nothing.
use Rattle.std.specs.Prelude.{ℕ, cond, List, [], ◌∷◌, length, Some, None, codes, Option, Result, ◌==◌, nat_le}
use Rattle.std.specs.Option.{option_map, ok_or}
use Rattle.std.specs.Str.{bytes_eq}
use Rattle.keycode.specs.Names.{place}
use Rattle.keycode.specs.declared.key.KeyCode.{KeyCode}
use Rattle.keycode.specs.declared.key.KeyCode.TheVariants.{Char, Function}
use Rattle.keycode.specs.declared.key.KeyEvent.{KeyEvent}
use Rattle.keycode.specs.declared.modifiers.Modifiers.{Modifiers}
use Rattle.words.specs.declared.verb.Verb.{Verb}
use Rattle.words.specs.declared.verb.Verb.TheVariants.{Press as PressVerb}
use Rattle.lines.specs.Fields.{parted}
use Rattle.lines.specs.Mods.{set_of}
use Rattle.lines.specs.Numbers.{hex_number, dec_number}
use Rattle.lines.specs.declared.request.LineFault.{LineFault}
use Rattle.lines.specs.declared.request.LineFault.TheVariants.{OtherForm}
use Rattle.lines.specs.declared.request.Request.{Request}
use Rattle.lines.specs.declared.request.Request.TheVariants.{Press}

-- the number by which a fault is told
abbrev pub number : LineFault → ℕ
number OtherForm = 11

-- what a word stands for, if it is one
abbrev pub Words : Type 0 → Type 0
Words V = List ℕ → Option V

-- a key with its number: of `Char` in base 16, of `Function` in base 10, and `-` where a key holds none
abbrev pub with_number : KeyCode → List ℕ → Option KeyCode
with_number key digits =
    cond (place key == 0) (option_map Char (hex_number digits))
    (cond (place key == 59) (option_map Function (dec_number digits))
    (cond (bytes_eq digits (codes "-")) (Some key) None))

abbrev pub numbered : Option KeyCode → List ℕ → Option KeyCode
numbered None digits = None
numbered (Some key) digits = with_number key digits

-- a key pressed with modifiers
abbrev pub event : Option KeyCode → Option Modifiers → Option KeyEvent
event None m = None
event (Some k) None = None
event (Some k) (Some m) = Some (record { key = k; modifiers = m })

-- a press by its three fields: the key's name, the modifiers, the number
abbrev pub press_of : Words KeyCode → List (List ℕ) → Option KeyEvent
press_of keys [] = None
press_of keys (name ∷ []) = None
press_of keys (name ∷ mods ∷ []) = None
press_of keys (name ∷ mods ∷ digits ∷ []) = event (numbered (keys name) digits) (set_of mods)
press_of keys (name ∷ mods ∷ digits ∷ more ∷ fields) = None

-- the request of a verb, with the press that the other fields write
abbrev pub by_verb : Option Verb → Option KeyEvent → Option Request
by_verb None press = None
by_verb (Some PressVerb) press = option_map Press press

-- the first field says which form the others have
abbrev pub form_of : Words Verb → Words KeyCode → List (List ℕ) → Option Request
form_of verbs keys [] = None
form_of verbs keys (verb ∷ fields) = by_verb (verbs verb) (press_of keys fields)

-- what a line of at most 8,210 bytes asks for, by these verbs and names; any other is refused
abbrev pub request_in : Words Verb → Words KeyCode → List ℕ → Result Request LineFault
request_in verbs keys line = ok_or (cond (nat_le (length line) 8210) (form_of verbs keys (parted line)) None) OtherForm
