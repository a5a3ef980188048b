-- The work on bytes: turns, one after the other. Assumes nothing.
use Rattle.std.specs.Prelude.{ℕ, zero, suc, Bool, true, false, List, [], ◌∷◌, ◌++◌, length, drop, Some, None, Option}
use Rattle.events.specs.Told.{Told}
use Rattle.reading.specs.declared.state.InputState.{InputState}
use Rattle.reading.specs.Turns.{Rules, stay, go, turn}

-- events, and the state and the bytes at which no rule goes on
pub record Reading : Type 0 where
  pub events : List Told
  pub state : InputState
  pub left : List ℕ

-- no event
abbrev pub nothing : InputState → List ℕ → Reading
nothing state bytes = record { events = []; state = state; left = bytes }

-- a reading with events before it
abbrev pub behind : List Told → Reading → Reading
behind es r = record { events = es ++ r.events; state = r.state; left = r.left }

-- the event of a turn, if it has one
abbrev pub event_of : Option Told → List Told
event_of None = []
event_of (Some e) = e ∷ []

-- at most k turns, open or closed
unfoldable pub read_to : Rules → Bool → ℕ → InputState → List ℕ → Reading
read_to g more zero state bytes = nothing state bytes
read_to g more (suc k) state bytes =
    elim (turn g more state bytes) [ stay ↦ nothing state bytes | go e next n ↦ behind (event_of e) (read_to g more k next (drop n bytes)) ]

-- the reading of bytes from a state: closed turns; each takes a byte, so there are no more turns than bytes
abbrev pub reading : Rules → InputState → List ℕ → Reading
reading g state bytes = read_to g false (length bytes) state bytes

-- the same work while bytes may follow: open turns
abbrev pub open_reading : Rules → InputState → List ℕ → Reading
open_reading g state bytes = read_to g true (length bytes) state bytes
