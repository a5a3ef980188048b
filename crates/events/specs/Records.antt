-- The events of records, their texts among bytes. Assumes nothing.
use Rattle.std.specs.Prelude.{ℕ, ◌+◌, List, [], ◌∷◌, length, take, drop}
use Rattle.events.specs.Told.{Told, key, paste, report}
use Rattle.events.specs.declared.stored.Record.{Record}
use Rattle.events.specs.declared.stored.Record.TheVariants.{Key, Paste, Report}

abbrev pub none : Record
none = Paste 0 0

-- the event of a record
abbrev pub told_of : List ℕ → Record → Told
told_of text (Key e) = key e
told_of text (Paste start n) = paste (take n (drop start text))
told_of text (Report r) = report r

-- the record of an event whose text starts at a place
abbrev pub record_at : ℕ → Told → Record
record_at start (key e) = Key e
record_at start (paste text) = Paste start (length text)
record_at start (report r) = Report r

-- the bytes of its text
abbrev pub size_of : Record → ℕ
size_of (Key e) = 0
size_of (Paste start n) = n
size_of (Report r) = 0

-- where its text ends
abbrev pub end_of : Record → ℕ
end_of (Key e) = 0
end_of (Paste start n) = start + n
end_of (Report r) = 0

-- the bytes of all texts
abbrev pub total : List Record → ℕ
total [] = 0
total (r ∷ rs) = size_of r + total rs
