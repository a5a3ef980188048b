use Rattle.std.proofs.Common.{◌≡◌, ℕ, reverse, take}
use Rattle.keymap.specs.Tree.{Well, At, LastValue}
use Rattle.keymap.proofs.walk.Tree.follow.Given as goal

abbrev pub invariant-loop-b : goal.invariant-loop-b
invariant-loop-b g l =
    record {
      count : l.depth ≡ l.b-index;
      way : (up : ℕ → ℕ) → Well up l.self.nodes.now l.self.used → At up l.self.nodes.now l.self.used (reverse (take l.depth l.key)) l.at;
      best : (up : ℕ → ℕ) → Well up l.self.nodes.now l.self.used → LastValue up l.self.nodes.now l.self.used l.key l.depth l.best;
    }
