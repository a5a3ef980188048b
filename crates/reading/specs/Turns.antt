-- One turn of the work on bytes: what stands at their front, by the state. Assumes nothing.
use Rattle.std.specs.Prelude.{ℕ, ◌+◌, Bool, false, cond, ◌&&◌, List, [], ◌∷◌, length, take, Some, None, Option, ◌==◌, bit_or, nat_lt, slice_index}
use Rattle.events.specs.Told.{Told, key, paste, report}
use Rattle.events.specs.declared.event.Seen.{Seen}
use Rattle.events.specs.declared.event.Seen.TheVariants.{NoReport, More, Found as Reported}
use Rattle.keycode.specs.Names.{place}
use Rattle.keycode.specs.Presses.{press}
use Rattle.keycode.specs.declared.key.KeyCode.TheVariants.{Char, Escape, InternalPasteStart}
use Rattle.keycode.specs.declared.key.KeyEvent.{KeyEvent}
use Rattle.keymap.specs.Finding.{found}
use Rattle.keymap.specs.Stored.{Stored}
use Rattle.keymap.specs.declared.found.Found.{Found}
use Rattle.keymap.specs.declared.found.Found.TheVariants.{None as NoKey, Exact, Ambiguous, NeedData}
use Rattle.lawful.specs.Lawful.{is_plain_escape}
use Rattle.readbuf.specs.Marker.{first_marker}
use Rattle.text.specs.Reading.{character_of}
use Rattle.text.specs.declared.kinds.Character.{Character}
use Rattle.text.specs.declared.kinds.Character.TheVariants.{Scalar, IllFormed, Partial, Empty}
use Rattle.reading.specs.declared.state.InputState.{InputState}
use Rattle.reading.specs.declared.state.InputState.TheVariants.{Normal, EscapeMaybeAlt, Pasting}

-- what a decoder goes by: its table of keys, and what its recogniser sees
pub record Rules : Type 0 where
  pub table : Stored KeyEvent
  pub seen : List ℕ → Seen

-- no rule goes on; or an event or none, the next state, and how many bytes go
pub data Turn : Type 0 where
  stay : Turn
  go : Option Told → InputState → ℕ → Turn

-- a press with ALT added
abbrev pub with_alt : KeyEvent → KeyEvent
with_alt e = press e.key (bit_or e.modifiers.0 2)

-- a press as the state has it: behind an ESC with ALT
abbrev pub press_in : InputState → KeyEvent → Told
press_in Normal e = key e
press_in EscapeMaybeAlt e = key (with_alt e)
press_in Pasting e = key e

-- the start of a paste: no event, but behind an ESC that was no ALT the plain Escape
abbrev pub paste_turn : InputState → ℕ → Turn
paste_turn Normal n = go None Pasting n
paste_turn EscapeMaybeAlt n = go (Some (key (press Escape 0))) Pasting n
paste_turn Pasting n = go None Pasting n

-- whether a key leads into a paste
abbrev pub starts_paste : KeyEvent → Bool
starts_paste e = place e.key == place InternalPasteStart

-- whether a key is ESC alone as plain Escape, with bytes behind it, that no ESC came before
abbrev pub leads_to_alt : InputState → List ℕ → ℕ → KeyEvent → Bool
leads_to_alt Normal bytes n e = n == 1 && (slice_index bytes 0 == 27 && (is_plain_escape e && nat_lt 1 (length bytes)))
leads_to_alt EscapeMaybeAlt bytes n e = false
leads_to_alt Pasting bytes n e = false

-- a stored key of n bytes stands at the front
abbrev pub key_turn : InputState → List ℕ → ℕ → KeyEvent → Turn
key_turn state bytes n e =
    cond (starts_paste e) (paste_turn state n)
    (cond (leads_to_alt state bytes n e) (go None EscapeMaybeAlt n) (go (Some (press_in state e)) Normal n))

-- no stored key does: a character, or U+FFFD for a maximal ill-formed subpart; bytes that only begin a character stay
abbrev pub character_turn : InputState → Character → Turn
character_turn state (Scalar c n) = go (Some (press_in state (press (Char c) 0))) Normal n
character_turn state (IllFormed n) = go (Some (press_in state (press (Char 0xFFFD) 0))) Normal n
character_turn state Partial = stay
character_turn state Empty = stay

-- by what the table finds: open, an ambiguous or an unfinished key waits
abbrev pub found_turn : Bool → InputState → List ℕ → Found KeyEvent → Turn
found_turn more state bytes NoKey = character_turn state (character_of bytes)
found_turn more state bytes NeedData = cond more stay (character_turn state (character_of bytes))
found_turn more state bytes (Exact n e) = key_turn state bytes n e
found_turn more state bytes (Ambiguous n e) = stay

abbrev pub table_turn : Rules → Bool → InputState → List ℕ → Turn
table_turn g more state bytes = found_turn more state bytes (found g.table bytes more)

-- by what the recogniser sees at an ESC: open, the beginning of a report waits; closed, it is none
abbrev pub seen_turn : Rules → Bool → List ℕ → Seen → Turn
seen_turn g more bytes NoReport = table_turn g more Normal bytes
seen_turn g more bytes More = cond more stay (table_turn g more Normal bytes)
seen_turn g more bytes (Reported n r) = go (Some (report r)) Normal n

-- whether an ESC stands at the front
abbrev pub starts_esc : List ℕ → Bool
starts_esc [] = false
starts_esc (b ∷ bytes) = b == 27

-- the text before the end marker is one paste; without the marker all stays
abbrev pub marker_turn : List ℕ → Option ℕ → Turn
marker_turn bytes None = stay
marker_turn bytes (Some i) = go (Some (paste (take i bytes))) Normal (i + 6)

-- one turn; more says that the feed is open
abbrev pub turn : Rules → Bool → InputState → List ℕ → Turn
turn g more Normal bytes = cond (starts_esc bytes) (seen_turn g more bytes (g.seen bytes)) (table_turn g more Normal bytes)
turn g more EscapeMaybeAlt bytes = table_turn g more EscapeMaybeAlt bytes
turn g more Pasting bytes = marker_turn bytes (first_marker bytes)
