-- What an event tells. Assumes nothing.
use Rattle.events.specs.Told.{Told, key, paste, report}
use Rattle.events.specs.declared.event.InputEvent.{InputEvent}
use Rattle.events.specs.declared.event.InputEvent.TheVariants.{Key, Paste, Report}

abbrev pub told : InputEvent → Told
told (Key e) = key e
told (Paste t) = paste t.now
told (Report r) = report r
