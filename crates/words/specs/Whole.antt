-- What a lookup says of a whole text. Assumes nothing.
use Rattle.std.specs.Prelude.{ℕ, cond, Some, None, Ok, Err, Option, Result, ◌==◌}
use Rattle.keymap.specs.declared.found.Found.{Found}
use Rattle.keymap.specs.declared.found.Found.TheVariants.{None as NoKey, Exact, Ambiguous, NeedData}
use Rattle.keymap.specs.declared.found.MapFault.{MapFault}

-- the value of an exact answer of this length
abbrev pub whole_found : {V : Type 0} → Found V → ℕ → Option V
whole_found NoKey len = None
whole_found (Exact n v) len = cond (n == len) (Some v) None
whole_found (Ambiguous n v) len = None
whole_found NeedData len = None

abbrev pub whole : {V : Type 0} → Result (Found V) MapFault → ℕ → Option V
whole (Ok answer) len = whole_found answer len
whole (Err fault) len = None
