use Rattle.std.proofs.Common.{ℕ, ◌-◌, cond, eqb}
use Rattle.keymap.specs.Tree.{lab, Well, Walked}
use Rattle.keymap.proofs.walk.Tree.find_place.Given as goal

abbrev pub invariant-loop-here : goal.invariant-loop-here
invariant-loop-here g l =
    (up : ℕ → ℕ) → Well up l.self.nodes.now l.self.used → Walked up l.self.nodes.now l.self.used l.at l.b l.before l.here

abbrev pub decreases-loop-here : goal.decreases-loop-here
decreases-loop-here g l = cond (eqb l.here 0) 0 (l.b - lab l.self.nodes.now l.here)
