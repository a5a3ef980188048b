use Rattle.std.proofs.Common.{◌<◌, arith}
use Rattle.keymap.proofs.Siblings.{of_tree, inside, step_read, less_read}
use Rattle.keymap.proofs.walk.Tree.find_place.Goals as goal

pub node-n-requires : goal.node-n-requires
node-n-requires g c = of_tree c.args.self.now.sound (λ up w. inside up _ _ w _ _ _ _ (c.loop-here.invariant up w) (omega arith))

pub loop-here-smaller : goal.loop-here-smaller
loop-here-smaller g c =
    of_tree c.args.self.now.sound (λ up w.
    let h : 0 < c.loop-here.here = omega arith in
    less_read up _ _ w _ _ _ h (inside up _ _ w _ _ _ _ (c.loop-here.invariant up w) h) c.node-n.ensures (omega arith))

pub loop-here-preserved : goal.loop-here-preserved
loop-here-preserved g c up w = step_read up _ _ w _ _ _ _ _ (c.loop-here.invariant up w) (omega arith) c.node-n.ensures (omega arith)
