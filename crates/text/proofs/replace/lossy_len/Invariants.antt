use Rattle.std.proofs.Common.{◌≡◌, ◌+◌, ◌≤◌, length}
use Rattle.text.specs.Lossy.{lossy_of}
use Rattle.text.proofs.replace.lossy_len.Given as goal

-- the length so far and that of the rest are the length of the whole
abbrev pub invariant-loop-shown : goal.invariant-loop-shown
invariant-loop-shown l = (l.len ≤ l.most) × (l.len + length (lossy_of l.rest) ≡ length (lossy_of l.text))

abbrev pub decreases-loop-shown : goal.decreases-loop-shown
decreases-loop-shown l = length l.rest
