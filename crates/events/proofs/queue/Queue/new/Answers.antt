use Rattle.std.proofs.Common.{refl, arith}
use Rattle.std.proofs.Math.ListN.{length-replicate}
use Rattle.events.proofs.queue.Queue.new.Goals as goal

pub invariant_of-result : goal.invariant_of-result
invariant_of-result g c = record { whole = length-replicate _ _ }

pub invariant_of-result-2 : goal.invariant_of-result-2
invariant_of-result-2 g c = record { whole = length-replicate _ _; counted = omega arith; fits = omega arith; within = λ i l. absurd (omega arith); full = refl }
