-- What keyline answers to a line. Assumes nothing.
use Rattle.std.specs.Prelude.{ℕ, List, [], ◌∷◌, ◌++◌, Some, None, Ok, Err, codes, Option, Result}
use Rattle.writer.specs.Numbers.{dec, hex_of}
use Rattle.keycode.specs.declared.key.KeyCode.{KeyCode}
use Rattle.encode.specs.Encoding.{press_fault}
use Rattle.encode.specs.Encoding.{number as encode_number}
use Rattle.encode.specs.Forms.{form_of}
use Rattle.encode.specs.Plain.{plain_bytes}
use Rattle.encode.specs.declared.form.EncodeFault.{EncodeFault}
use Rattle.lines.specs.Requests.{Words, request_in}
use Rattle.keymap.specs.Stored.{value_of}
use Rattle.words.specs.Words.{verb_words, key_words}
use Rattle.words.specs.declared.verb.Verb.{Verb}
use Rattle.lines.specs.Requests.{number as line_number}
use Rattle.lines.specs.declared.request.LineFault.{LineFault}
use Rattle.lines.specs.declared.request.Request.{Request}
use Rattle.lines.specs.declared.request.Request.TheVariants.{Press}

-- a line with one field behind its word, and the LF
abbrev pub line_of : List ℕ → List ℕ → List ℕ
line_of word field = word ++ (9 ∷ (field ++ (10 ∷ [])))

-- refused, and the number
unfoldable pub refused_line : ℕ → List ℕ
refused_line n = line_of (codes "refused") (dec n)

-- bytes, and the bytes in hexadecimal
unfoldable pub bytes_line : List ℕ → List ℕ
bytes_line bytes = line_of (codes "bytes") (hex_of bytes)

-- a press whose cause is known: refused by its number, or its bytes
abbrev pub to_press : Option EncodeFault → List ℕ → List ℕ
to_press (Some fault) bytes = refused_line (encode_number fault)
to_press None bytes = bytes_line bytes

-- the answer to a press, in the modes of the plain presses
abbrev pub to_key : KeyCode → ℕ → List ℕ
to_key key m = to_press (press_fault (form_of key) m) (plain_bytes key m)

abbrev pub to_request : Result Request LineFault → List ℕ
to_request (Ok (Press event)) = to_key event.key event.modifiers.0
to_request (Err fault) = refused_line (line_number fault)

-- the answer to a line, by these verbs and names of keys
abbrev pub answer_in : Words Verb → Words KeyCode → List ℕ → List ℕ
answer_in verbs keys line = to_request (request_in verbs keys line)

-- the answer to a line, by the verbs and the names of the script language
abbrev pub answer_to : List ℕ → List ℕ
answer_to line = answer_in (value_of verb_words) (value_of key_words) line
