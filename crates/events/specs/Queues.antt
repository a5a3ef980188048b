-- What a queue holds and takes. Assumes nothing.
use Rattle.std.specs.Prelude.{ℕ, ◌+◌, cond, ◌&&◌, List, [], ◌∷◌, ◌++◌, map, length, take, Some, None, Option, nat_le, nat_lt}
use Rattle.events.specs.Told.{Told, text_of}
use Rattle.events.specs.Records.{told_of}
use Rattle.events.specs.declared.queue.Queue.{Queue}

-- the events taken, in order; how many events and how many bytes of text there is room for
pub record Holding : Type 0 where
  pub taken : List Told
  pub records : ℕ
  pub bytes : ℕ

-- nothing taken yet
abbrev pub empty : ℕ → ℕ → Holding
empty records bytes = record { taken = []; records = records; bytes = bytes }

-- the bytes of the texts of all events
abbrev pub text_bytes : List Told → ℕ
text_bytes [] = 0
text_bytes (e ∷ es) = length (text_of e) + text_bytes es

-- an event is taken while a record is free and the bytes of its text are
abbrev pub queue_offer : Holding → Told → Option Holding
queue_offer q e =
    cond (nat_lt (length q.taken) q.records && nat_le (text_bytes q.taken + length (text_of e)) q.bytes)
    (Some (record { taken = q.taken ++ (e ∷ []); records = q.records; bytes = q.bytes }))
    None

-- what a queue holds
abbrev pub held_by : {R T : ℕ} → Queue R T → Holding
held_by {R} {T} q = record { taken = map (told_of q.texts.bytes) (take q.count q.records); records = R; bytes = T }
