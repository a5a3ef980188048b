-- What a sink takes that hands all events on but reports. Assumes nothing.
use Rattle.std.specs.Prelude.{Some, Option}
use Rattle.events.specs.Told.{Told, key, paste, report}

-- a report is taken and changes nothing; any other event goes to the inner sink
abbrev pub passing : {H : Type 0} → (H → Told → Option H) → H → Told → Option H
passing offer held (key e) = offer held (key e)
passing offer held (paste text) = offer held (paste text)
passing offer held (report r) = Some held
