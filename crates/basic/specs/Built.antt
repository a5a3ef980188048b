-- What building the table in an empty map gives. Assumes nothing.
use Rattle.std.specs.Prelude.{◌≡◌, cond, [], length, Ok, Err, Result, nat_lt}
use Rattle.keycode.specs.declared.key.KeyEvent.{KeyEvent}
use Rattle.keymap.specs.declared.found.MapFault.{MapFault}
use Rattle.keymap.specs.declared.found.MapFault.TheVariants.{TooFewNodes}
use Rattle.keymap.specs.declared.node.KeyMap.{KeyMap}
use Rattle.keymap.specs.Holding.{Holds}
use Rattle.basic.specs.Facts.{built_in, node_count, Facts}

-- on an empty map: refused exactly where there are fewer nodes than the table takes; else the map holds the table, with its facts
abbrev pub Builds : KeyMap KeyEvent → KeyMap KeyEvent → Result (Unit {0}) MapFault → Type 0
Builds m after r =
    Holds m []
    → (r ≡ cond (nat_lt (length m.nodes.now) node_count) (Err TooFewNodes) (Ok tt)) × (r ≡ Ok tt → Holds after built_in × Facts built_in)
