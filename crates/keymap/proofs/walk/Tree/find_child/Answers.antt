use Rattle.std.proofs.Common.{arith}
use Rattle.keymap.proofs.Siblings.{of_tree, inside}
use Rattle.keymap.proofs.Ways.{is_none, is_here, is_other}
use Rattle.keymap.proofs.walk.Tree.find_child.Goals as goal
use Rattle.keymap.proofs.walk.Tree.find_child.Goals.{else-here-ne0-via-then-here-ne0+else-node-b, else-here-ne0-via-else-here-ne0}

pub node-requires : goal.node-requires
node-requires g c =
    of_tree c.args.self.now.sound (λ up w. inside up _ _ w _ _ _ _ (c.find_place-here.ensures up w).walked (omega arith))

pub returns-then-node-b : goal.returns-then-node-b
returns-then-node-b g c up w =
    (omega arith, is_here up _ _ w _ _ _ _ _ (c.find_place-here.ensures up w) (omega arith) c.node.ensures c.if-node-b.true)

pub returns-else-here-ne0 : goal.returns-else-here-ne0
returns-else-here-ne0 g c up w =
    elim c.else-here-ne0.branch [
      | else-here-ne0-via-then-here-ne0+else-node-b v ↦ is_other up _ _ w _ _ _ _ _ (c.find_place-here.ensures up w) v.node.ensures v.if-node-b.false
      | else-here-ne0-via-else-here-ne0 v ↦ is_none up _ _ w _ _ _ _ (omega arith) (c.find_place-here.ensures up w)
    ]
