-- Events by what they tell. Assumes nothing.
use Rattle.std.specs.Prelude.{ℕ, List, []}
use Rattle.keycode.specs.declared.key.KeyEvent.{KeyEvent}
use Rattle.events.specs.declared.event.Report.{Report}

-- a press, a pasted text by its bytes, or a report
pub data Told : Type 0 where
  key : KeyEvent → Told
  paste : List ℕ → Told
  report : Report → Told

-- the text of an event, empty where it has none
abbrev pub text_of : Told → List ℕ
text_of (key e) = []
text_of (paste text) = text
text_of (report r) = []
