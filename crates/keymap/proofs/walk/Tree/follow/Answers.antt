use Rattle.std.proofs.Common.{ℕ, ◌+◌, ◌<◌, length, reverse, take, refl, arith}
use Rattle.keymap.specs.Tree.{Well, At}
use Rattle.keymap.proofs.Siblings.{of_tree}
use Rattle.keymap.proofs.Ways.{at_in, one_more}
use Rattle.keymap.proofs.Values.{best_more}
use Rattle.keymap.proofs.walk.Tree.follow.Goals as goal
use Rattle.keymap.proofs.walk.Tree.follow.Goals.{else-loop-b-test, then-loop-b-test+in_default}

pub find_child-requires : goal.find_child-requires
find_child-requires g c = of_tree c.args.self.now.sound (λ up w. at_in up _ _ w _ _ (c.loop-b.invariant.way up w))

pub node-requires-in-loop-b : goal.node-requires-in-loop-b
node-requires-in-loop-b g c = of_tree c.args.self.now.sound (λ up w. let h = c.in-Some.ensures up w in (h.1.found h.0).0)

pub loop-b-preserved : goal.loop-b-preserved
loop-b-preserved g c =
    let e = c.loop-b.invariant.count in
    let lt : c.loop-b.depth < length c.args.key.now = omega arith in
    let way : (up : ℕ → ℕ) → Well up c.args.self.now.nodes.now c.args.self.now.used → At up c.args.self.now.nodes.now c.args.self.now.used (reverse (take (c.loop-b.depth + 1) c.args.key.now)) c.in-Some.child =
    λ up w. let h = c.in-Some.ensures up w in
    one_more up _ _ w c.args.key.now c.loop-b.depth _ c.in-Some.child lt (c.loop-b.invariant.way up w) h.0 (rw (← e) at h.1) in
    record {
      count = omega arith;
      way = way;
      best = λ up w. best_more up _ _ w _ _ _ _ _ _ (way up w) c.node-in-loop-b.ensures (c.loop-b.invariant.best up w) c.newer-best-in-loop-b.ensures;
    }

pub returns-clause-deepest : goal.returns-clause-deepest
returns-clause-deepest g c up w =
    elim c.loop-b-test.branch [
      | else-loop-b-test v ↦ record { short = omega arith; way = c.loop-b.invariant.way up w; ends = λ l. absurd (omega arith) }
      | then-loop-b-test+in_default v ↦ record { short = omega arith; way = c.loop-b.invariant.way up w; ends = λ _. let h = v.in_default.ensures up w in (rw (← c.loop-b.invariant.count) at h).none refl }
    ]
