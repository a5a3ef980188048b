-- What a map holds. Assumes nothing.
use Rattle.keymap.specs.declared.node.KeyMap.{KeyMap}
use Rattle.keymap.specs.Held.{HeldIn}
use Rattle.keymap.specs.Stored.{Stored}

-- the map holds exactly s
abbrev pub Holds : {V : Type 0} → KeyMap V → Stored V → Type 0
Holds m s = HeldIn m.nodes.now m.used s

-- the map holds something that can be stored, as one from `new` does and `insert` leaves it
abbrev pub Valid : {V : Type 0} → KeyMap V → Type 0
Valid {V} m = (s : Stored V) × Holds m s
