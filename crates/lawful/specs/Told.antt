-- What lookups tell of a table. Assumes nothing.
use Rattle.std.specs.Prelude.{Bool, true, false, Ok, Err, Result}
use Rattle.keycode.specs.declared.key.KeyEvent.{KeyEvent}
use Rattle.keymap.specs.declared.found.Found.{Found}
use Rattle.keymap.specs.declared.found.Found.TheVariants.{None as NoKey, Exact, Ambiguous, NeedData}
use Rattle.keymap.specs.declared.found.MapFault.{MapFault}
use Rattle.lawful.specs.Lawful.{is_plain_escape}

-- whether an answer is a key, and no longer one
abbrev pub some_exact : Result (Found KeyEvent) MapFault → Bool
some_exact (Ok NoKey) = false
some_exact (Ok (Exact n e)) = true
some_exact (Ok (Ambiguous n e)) = false
some_exact (Ok NeedData) = false
some_exact (Err fault) = false

-- whether that key is plain Escape
abbrev pub escape_exact : Result (Found KeyEvent) MapFault → Bool
escape_exact (Ok NoKey) = false
escape_exact (Ok (Exact n e)) = is_plain_escape e
escape_exact (Ok (Ambiguous n e)) = false
escape_exact (Ok NeedData) = false
escape_exact (Err fault) = false
