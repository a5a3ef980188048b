use Rattle.std.proofs.Common.{length, sym, refl, ◌∙◌, arith}
use Rattle.std.proofs.lemmas.Result.{err_from_is_err_and}
use Rattle.std.proofs.Math.Bridge.{le_prop}
use Rattle.std.proofs.Math.Logic.{∥∥₁_elim}
use Rattle.keymap.proofs.Siblings.{of_tree, room_of}
use Rattle.keymap.proofs.Grows.{grew_end, grown_inside}
use Rattle.keymap.proofs.Held.{inserts_ok, more_need, sound_of, within}
use Rattle.keymap.proofs.Inserts.{insert_done}
use Rattle.keymap.proofs.insert.insert_more.Goals as goal

pub invariant_of-tree : goal.invariant_of-tree
invariant_of-tree g c = record { room = room_of (sound_of c.requires.valid); sound = sound_of c.requires.valid }

pub room_for-requires : goal.room_for-requires
room_for-requires g c = within c.requires.valid

pub overflow_sub-key : goal.overflow_sub-key
overflow_sub-key g c = ∥∥₁_elim (sound_of c.requires.valid) le_prop (λ t. (c.follow-t.ensures.deepest t.0 t.1).short)

pub put_value-requires : goal.put_value-requires
put_value-requires g c = of_tree (sound_of c.requires.valid) (λ up w. grown_inside (c.grow-at.ensures up w).1)

pub returns : goal.returns
returns g c s h =
    let up = h.0 in
    let w = h.1.well in
    let key = c.args.key.now in
    let b = c.in_ok-n.ensures in
    let goal = more_need key up _ _ s h.1 c.requires.rooted _ _ (c.follow-t.ensures.deepest up w) in
    inserts_ok up _ _ s h.1 key _ _ _
    (insert_done up _ _ c.follow-t.result.at _ _ _ key _ _ w (λ i l _ kz vz. h.1.live i l kz vz) (grew_end up _ _ _ _ _ _ key _ (length key) _ (sym b.0) refl (c.grow-at.ensures up w)) c.put_value.ensures)
    (b.0 ∙ goal) b.1

pub returns-in_err-n : goal.returns-in_err-n
returns-in_err-n g c =
    let p = err_from_is_err_and c.from_residual.result c.from_residual.ensures.1 in
    let b = c.in_err-n.ensures in
    rw (p.1, p.2)
    (λ s h. (b.0, omega (arith, b.1, more_need c.args.key.now h.0 _ _ s h.1 c.requires.rooted _ _ (c.follow-t.ensures.deepest h.0 h.1.well)), refl))
