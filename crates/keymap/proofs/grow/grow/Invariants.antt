use Rattle.std.proofs.Common.{◌≡◌, ℕ, ◌+◌, length}
use Rattle.keymap.specs.Growth.{Grew}
use Rattle.keymap.specs.Tree.{Well}
use Rattle.keymap.proofs.grow.grow.Given as goal

abbrev pub invariant-loop-b : goal.invariant-loop-b
invariant-loop-b g l =
    record {
      count : l.count ≡ l.used + l.b-index;
      len : length l.nodes ≡ length l.initial.nodes;
      grew : (up : ℕ → ℕ) → Well up l.initial.nodes l.used → Grew up l.initial.nodes l.used l.initial.at l.nodes l.count l.key l.at (l.start + l.b-index);
    }
