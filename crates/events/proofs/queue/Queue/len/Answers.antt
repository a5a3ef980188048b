use Rattle.std.proofs.Common.{sym}
use Rattle.events.proofs.Stores.{count_is}
use Rattle.events.proofs.queue.Queue.len.Goals as goal

pub returns : goal.returns
returns g c = sym (count_is c.args.self.now)
