use Rattle.std.proofs.Common.{◌≡◌, ◌+◌, ◌-◌, ◌<◌, length, set, refl, ap, arith}
use Rattle.std.proofs.lemmas.Result.{err_from_is_err_and}
use Rattle.keymap.proofs.Grows.{grew_end, grown_inside}
use Rattle.keymap.proofs.Held.{inserts_ok, first_need}
use Rattle.keymap.proofs.Inserts.{insert_done, root_well, from_root}
use Rattle.keymap.proofs.insert.insert_first.Goals as goal

pub grow-at-requires-clause-sound : goal.grow-at-requires-clause-sound
grow-at-requires-clause-sound g c =
    let b = c.in_ok-n.ensures in
    ∣ ((λ i. 0), root_well c.args.nodes.now _ (omega (arith, b.0, b.1)) (ap (set c.args.nodes.now 0) c.empty.ensures)) ∣₁

pub put_value-requires : goal.put_value-requires
put_value-requires g c =
    let xs = c.args.nodes.now in
    let b = c.in_ok-n.ensures in
    let l : 0 < length xs = omega (arith, b.0, b.1) in
    let m = c.grow-at.ensures (λ i. 0) (root_well xs _ l (ap (set xs 0) c.empty.ensures)) in
    grown_inside m.1

pub returns : goal.returns
returns g c s h =
    let xs = c.args.nodes.now in
    let key = c.args.key.now in
    let b = c.in_ok-n.ensures in
    let l : 0 < length xs = omega (arith, b.0, b.1) in
    let e = ap (set xs 0) c.empty.ensures in
    let n : 1 + (length key - 0) ≡ c.in_ok-n.n = omega (arith, b.0) in
    inserts_ok h.0 _ _ s h.1 key _ _ _
    (insert_done h.0 _ _ 0 _ _ _ key _ _ h.1.well (λ i q. absurd (omega arith))
    (grew_end h.0 _ _ _ _ _ _ key _ (length key) _ n refl
    (from_root xs _ l e h.0 key _ _ _ (length key) (c.grow-at.ensures (λ i. 0) (root_well xs _ l e))))
    c.put_value.ensures)
    (omega (arith, b.0, first_need key s h.1.size)) b.1

pub returns-in_err-n : goal.returns-in_err-n
returns-in_err-n g c =
    let p = err_from_is_err_and c.from_residual.result c.from_residual.ensures.1 in
    let b = c.in_err-n.ensures in
    rw (p.1, p.2) (λ s h. (b.0, omega (arith, b.1, first_need c.args.key.now s h.1.size), refl))
