use Rattle.std.proofs.Common.{◌+◌, ◌≤◌, length, refl, ◌∙◌, arith, rules}
use Rattle.std.proofs.Math.Bridge.{le_prop}
use Rattle.std.proofs.Math.Logic.{∥∥₁_elim, ∥∥₁_map}
use Rattle.keymap.proofs.Siblings.{of_tree, room_of}
use Rattle.keymap.proofs.Ways.{at_in}
use Rattle.keymap.proofs.Grows.{grew_start, grew_step, before_lt, grew_end, rest_byte}
use Rattle.keymap.proofs.grow.grow.Goals as goal

pub slice_bounds-rest-count : goal.slice_bounds-rest-count
slice_bounds-rest-count g c = ∥∥₁_elim c.requires.sound le_prop (λ t. (c.requires.deepest t.0 t.1).short)

pub slice_bounds-rest-start : goal.slice_bounds-rest-start
slice_bounds-rest-start g c =
    let short : c.args.start ≤ length c.args.key.now = ∥∥₁_elim c.requires.sound le_prop (λ t. (c.requires.deepest t.0 t.1).short) in
    search rules

pub loop-b-init : goal.loop-b-init
loop-b-init g c =
    record {
      count = omega arith;
      len = refl;
      grew = λ up w. grew_end up _ _ _ _ _ _ c.args.key.now _ c.args.start _ refl (omega arith) (grew_start up _ _ _ _ _ w (c.requires.deepest up w));
    }

pub invariant_of-tree : goal.invariant_of-tree
invariant_of-tree g c =
    let sound = ∥∥₁_map c.requires.sound (λ t. let m = c.loop-b.invariant.grew t.0 t.1 in (m.0, m.1.well)) in
    record { room = room_of sound; sound = sound }

pub find_place-p-requires : goal.find_place-p-requires
find_place-p-requires g c =
    of_tree c.requires.sound (λ up w. let m = c.loop-b.invariant.grew up w in at_in m.0 _ _ m.1.well _ _ m.1.deepest.way)

pub add_child-requires-clause-inside : goal.add_child-requires-clause-inside
add_child-requires-clause-inside g c =
    of_tree c.requires.sound (λ up w. let m = c.loop-b.invariant.grew up w in at_in m.0 _ _ m.1.well _ _ m.1.deepest.way)

pub add_child-requires-clause-place : goal.add_child-requires-clause-place
add_child-requires-clause-place g c =
    of_tree c.requires.sound (λ up w.
    let m = c.loop-b.invariant.grew up w in
    before_lt m.0 _ _ _ _ _ _ (at_in m.0 _ _ m.1.well _ _ m.1.deepest.way) (c.find_place-p.ensures m.0 m.1.well))

pub loop-b-preserved : goal.loop-b-preserved
loop-b-preserved g c =
    record {
      count = omega arith;
      len = c.add_child.auto.nodes ∙ c.loop-b.invariant.len;
      grew = λ up w.
          grew_end up _ _ _ _ _ _ c.args.key.now _ (c.args.start + c.loop-b.b-index + 1) (c.args.start + (c.loop-b.b-index + 1)) refl (omega arith)
          (grew_step up _ _ _ _ _ _ c.args.key.now _ (c.args.start + c.loop-b.b-index) _ _ _ (c.loop-b.invariant.grew up w) (omega arith)
          (rest_byte c.args.key.now c.args.start c.loop-b.b-index (omega arith)) c.find_place-p.ensures (omega arith) c.add_child.ensures);
    }

pub returns : goal.returns
returns g c up w =
    let short = (c.requires.deepest up w).short in
    grew_end up _ _ _ _ c.loop-b.count _ c.args.key.now _ (c.args.start + c.loop-b.b-index) _ (omega arith) (omega arith) (c.loop-b.invariant.grew up w)
