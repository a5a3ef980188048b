-- A key of the table, as the definitions have it. Assumes nothing.
use Rattle.std.specs.Prelude.{ℕ, ◌*◌, cond, [], length, Some, None, Option, nat_lt, slice_index_or}
use Rattle.keycode.specs.declared.key.KeyCode.TheVariants.{Char}
use Rattle.keycode.specs.declared.key.KeyEvent.{KeyEvent}
use Rattle.keymap.specs.Stored.{Entry}
use Rattle.table.specs.declared.rule.Rule.{Rule}
use Rattle.table.specs.declared.rule.Rule.TheVariants.{Letters, CsiU, OtherKeys, Cursor, RxvtArrows, ApplicationArrows, Functions, Editing, Single}
use Rattle.table.specs.declared.rule.TableKey.{TableKey}
use Rattle.table.specs.Table.{entry, entries_of}

-- the bytes of the key, and the press that they mean
abbrev pub told : TableKey → Entry KeyEvent
told k = record { key = k.bytes.items; value = k.event }

-- what is read past the end of a list
abbrev pub blank : Entry KeyEvent
blank = entry [] (Char 0) 0

-- how many keys a rule has: rows by keys in a row
abbrev pub count_of : Rule → ℕ
count_of Letters = 26 * 2
count_of CsiU = 128 * 9
count_of OtherKeys = 128 * 8
count_of Cursor = 10 * 18
count_of RxvtArrows = 4 * 2
count_of ApplicationArrows = 4 * 10
count_of Functions = 20 * 17
count_of Editing = 8 * 4
count_of Single = 10

-- the entry at a place of a rule
abbrev pub entry_at : Rule → ℕ → Option (Entry KeyEvent)
entry_at rule place = cond (nat_lt place (length (entries_of rule))) (Some (slice_index_or (entries_of rule) place blank)) None

-- a key of the table, if there is one
abbrev pub told_of : Option TableKey → Option (Entry KeyEvent)
told_of None = None
told_of (Some k) = Some (told k)
