use Rattle.std.proofs.Common.{List, ℕ, subst, arith}
use Rattle.text.specs.Lossy.{lossy_of}
use Rattle.text.proofs.Lossies.{Written, step, lossy_of_nothing, written_room, written_more, written_all}
use Rattle.text.proofs.replace.write_lossy.Goals as goal

pub write_part-requires : goal.write_part-requires
write_part-requires c =
    let p = c.in-Some in
    let s = step c.loop-shown.rest.now p.shown.now p.behind.now p.ensures.none p.ensures.bytes p.ensures.rest in
    written_room _ _ _ _ _ _ _ c.loop-shown.invariant s.more (omega arith)

pub loop-shown-smaller : goal.loop-shown-smaller
loop-shown-smaller c =
    let p = c.in-Some in
    (step c.loop-shown.rest.now p.shown.now p.behind.now p.ensures.none p.ensures.bytes p.ensures.rest).shorter

pub loop-shown-preserved : goal.loop-shown-preserved
loop-shown-preserved c =
    let p = c.in-Some in
    let s = step c.loop-shown.rest.now p.shown.now p.behind.now p.ensures.none p.ensures.bytes p.ensures.rest in
    written_more _ _ _ _ _ _ _ _ c.loop-shown.invariant s.more (omega arith) c.write_part.ensures

pub returns : goal.returns
returns c =
    let P : List ℕ → Type 0 = λ rest. Written (lossy_of c.args.text.now) c.args.out.now rest c.loop-shown.out c.loop-shown.len in
    written_all _ _ _ _ (subst P (lossy_of_nothing c.loop-shown.rest.now c.in_default.ensures.none) c.loop-shown.invariant)
