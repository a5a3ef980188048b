-- Presses. Assumes nothing.
use Rattle.std.specs.Prelude.{ℕ}
use Rattle.keycode.specs.declared.key.KeyCode.{KeyCode}
use Rattle.keycode.specs.declared.key.KeyEvent.{KeyEvent}

-- a key under a set of modifiers
abbrev pub press : KeyCode → ℕ → KeyEvent
press key m = record { key = key; modifiers = record { 0 = m } }
