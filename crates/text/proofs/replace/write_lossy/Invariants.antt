use Rattle.std.proofs.Common.{length}
use Rattle.text.specs.Lossy.{lossy_of}
use Rattle.text.proofs.Lossies.{Written}
use Rattle.text.proofs.replace.write_lossy.Given as goal

-- what is written and what the rest gives are what the whole gives
abbrev pub invariant-loop-shown : goal.invariant-loop-shown
invariant-loop-shown l = Written (lossy_of l.text) l.initial.out (lossy_of l.rest) l.out l.len

abbrev pub decreases-loop-shown : goal.decreases-loop-shown
decreases-loop-shown l = length l.rest
