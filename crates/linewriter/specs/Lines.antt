-- Events as lines. Assumes nothing.
use Rattle.std.specs.Prelude.{ℕ, ◌+◌, cond, List, [], ◌∷◌, ◌++◌, length, Some, None, codes, Option, nat_le}
use Rattle.keycode.specs.Modifiers.{unplaced}
use Rattle.keycode.specs.Names.{name_of}
use Rattle.lines.specs.Mods.{mods_text}
use Rattle.writer.specs.Numbers.{dec, hex_num, hex_of}
use Rattle.events.specs.Told.{Told, key, paste, report}
use Rattle.linewriter.specs.KeyNumbers.{number_of}
use Rattle.linewriter.specs.declared.number.Number.{Number}
use Rattle.linewriter.specs.declared.number.Number.TheVariants.{Character, OnKey, Absent}

-- fields with a tab between, and the LF
abbrev pub line : List ℕ → List (List ℕ) → List ℕ
line field [] = field ++ (10 ∷ [])
line field (next ∷ more) = field ++ (9 ∷ line next more)

-- a key's number: a character's in hexadecimal, a function key's in decimal, `-` for none
abbrev pub number_text : Number → List ℕ
number_text (Character c) = hex_num c
number_text (OnKey n) = dec n
number_text Absent = codes "-"

-- an event's line, LF included
unfoldable pub line_of : Told → List ℕ
line_of (key e) = line (codes "key") (name_of e.key ∷ mods_text (unplaced e.modifiers.0) ∷ number_text (number_of e.key) ∷ [])
line_of (paste text) = line (codes "paste") (hex_of text ∷ [])
line_of (report r) = line (codes "report") (dec r.kind ∷ dec r.first ∷ dec r.second ∷ [])

-- a line behind what is written, if both have at most 16,384 bytes
abbrev pub behind : List ℕ → List ℕ → Option (List ℕ)
behind written text = cond (nat_le (length written + length text) 16384) (Some (written ++ text)) None

-- an event is taken where its line fits
abbrev pub line_offer : List ℕ → Told → Option (List ℕ)
line_offer written event = behind written (line_of event)
