use Rattle.std.proofs.Common.{Some, sym, ap, ◌∙◌, arith}
use Rattle.std.proofs.lemmas.Option.{slice_get_past}
use Rattle.events.specs.Queues.{held_by}
use Rattle.events.proofs.Stores.{count_is, event_at}
use Rattle.events.proofs.queue.Queue.get.Goals as goal

pub returns-then-i-self : goal.returns-then-i-self
returns-then-i-self g c = sym (slice_get_past (held_by c.args.self.now).taken c.args.i (omega (arith, count_is c.args.self.now)))

pub event_of-requires : goal.event_of-requires
event_of-requires g c = omega (arith, c.args.self.now.within c.args.i (omega arith))

pub returns : goal.returns
returns g c = ap Some c.event_of.ensures ∙ sym (event_at c.args.self.now c.args.i (omega arith))
