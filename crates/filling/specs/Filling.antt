-- What a filling answers and stores: entries put in their order, up to the first refusal. Assumes nothing.
use Rattle.std.specs.Prelude.{◌≡◌, ℕ, ◌+◌, ◌≤◌, min, Bool, true, not, ◌&&◌, List, [], ◌∷◌, length, drop, is_some, Some, None, Ok, Err, Option, Result, nat_le}
use Rattle.keymap.specs.declared.found.MapFault.{MapFault}
use Rattle.keymap.specs.declared.node.KeyMap.{KeyMap}
use Rattle.keymap.specs.Holding.{Holds}
use Rattle.keymap.specs.Room.{max_key, max_nodes, insert_cause}
use Rattle.keymap.specs.Stored.{Entry, Stored, value_of, put}

-- an answer, and what is stored after it
pub record Outcome (V : Type 0) : Type 0 where
  pub said : Result (Unit {0}) MapFault
  pub stored : Stored V

-- the rest of a filling, unless there is a cause to refuse the next insert
abbrev pub onward : {V : Type 0} → Option MapFault → Stored V → Outcome V → Outcome V
onward None s rest = rest
onward (Some fault) s rest = record { said = Err fault; stored = s }

-- the entries put one by one, on so many nodes of the caller's, up to the first refusal
unfoldable pub filled : {V : Type 0} → ℕ → Stored V → List (Entry V) → Outcome V
filled supplied s [] = record { said = Ok tt; stored = s }
filled supplied s (e ∷ es) = onward (insert_cause supplied s e.key) s (filled supplied (put e.key e.value s) es)

-- all entries put, one after the other
unfoldable pub put_all : {V : Type 0} → Stored V → List (Entry V) → Stored V
put_all s [] = s
put_all s (e ∷ es) = put_all (put e.key e.value s) es

-- the bytes of all keys
unfoldable pub total : {V : Type 0} → List (Entry V) → ℕ
total [] = 0
total (e ∷ es) = length e.key + total es

-- whether no key is too long
unfoldable pub short : {V : Type 0} → List (Entry V) → Bool
short [] = true
short (e ∷ es) = nat_le (length e.key) max_key && short es

-- whether each key comes once
unfoldable pub once : {V : Type 0} → List (Entry V) → Bool
once [] = true
once (e ∷ es) = not (is_some (value_of es e.key)) && once es

-- a map before and after a filling with the entries, and the answer
abbrev pub Fills : {V : Type 0} → KeyMap V → KeyMap V → Result (Unit {0}) MapFault → List (Entry V) → Type 0
Fills {V} m after r es =
    (s : Stored V) → Holds m s → (r ≡ (filled (length m.nodes.now) s es).said) × Holds after (filled (length m.nodes.now) s es).stored

-- the entries from the i-th on give, from what the map holds now, what all of them give from what it held at the start
abbrev pub FilledTo : {V : Type 0} → KeyMap V → KeyMap V → List (Entry V) → ℕ → Type 0
FilledTo {V} start m es i =
    (s : Stored V)
    → Holds start s
    → (cur : Stored V) × (Holds m cur × (filled (length start.nodes.now) cur (drop i es) ≡ filled (length start.nodes.now) s es))

-- the entries that are left give, from what the map holds now, what all of them give from what it held at the start
abbrev pub FillsLeft : {V : Type 0} → KeyMap V → KeyMap V → List (Entry V) → List (Entry V) → Type 0
FillsLeft {V} start m left es =
    (s : Stored V)
    → Holds start s
    → (cur : Stored V) × (Holds m cur × (filled (length start.nodes.now) cur left ≡ filled (length start.nodes.now) s es))

-- a filling with the entries, on the same nodes of the caller's
pub record Puts {V : Type 0} (m after : KeyMap V) (r : Result (Unit {0}) MapFault) (es : List (Entry V)) : Type 0 where
  pub lender : after.nodes.ghost_name ≡ m.nodes.ghost_name
  pub supplied : length after.nodes.now ≡ length m.nodes.now
  pub fills : Fills m after r es

-- such a filling under way, with these entries left
pub record PutsLeft {V : Type 0} (start m : KeyMap V) (left es : List (Entry V)) : Type 0 where
  pub lender : m.nodes.ghost_name ≡ start.nodes.ghost_name
  pub supplied : length m.nodes.now ≡ length start.nodes.now
  pub fills : FillsLeft start m left es

-- the map gives each word the value that the entries give it, and no other word any
abbrev pub HoldsWords : {V : Type 0} → KeyMap V → List (Entry V) → Type 0
HoldsWords {V} m es = (s : Stored V) × (Holds m s × ((word : List ℕ) → value_of s word ≡ value_of es word))

-- an empty map with a node for each byte of the keys, and the root, takes all entries
abbrev pub TakesAll : {V : Type 0} → KeyMap V → KeyMap V → Result (Unit {0}) MapFault → List (Entry V) → Type 0
TakesAll m after r es = Holds m [] → 1 + total es ≤ min (length m.nodes.now) max_nodes → (r ≡ Ok tt) × HoldsWords after es
