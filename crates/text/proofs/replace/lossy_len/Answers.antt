use Rattle.std.proofs.Common.{length, ap, arith}
use Rattle.std.proofs.lemmas.Bool.Decides.{nat_tests}
use Rattle.text.proofs.Lossies.{step, lossy_of_nothing}
use Rattle.text.proofs.replace.lossy_len.Goals as goal

pub returns-then-shown-most : goal.returns-then-shown-most
returns-then-shown-most c =
    let p = c.in-Some in
    let s = step c.loop-shown.rest.now p.shown.now p.behind.now p.ensures.none p.ensures.bytes p.ensures.rest in
    grind (arith, nat_tests, s.longer)

pub loop-shown-smaller : goal.loop-shown-smaller
loop-shown-smaller c =
    let p = c.in-Some in
    (step c.loop-shown.rest.now p.shown.now p.behind.now p.ensures.none p.ensures.bytes p.ensures.rest).shorter

pub loop-shown-preserved : goal.loop-shown-preserved
loop-shown-preserved c =
    let p = c.in-Some in
    let s = step c.loop-shown.rest.now p.shown.now p.behind.now p.ensures.none p.ensures.bytes p.ensures.rest in
    (omega arith, omega (arith, s.longer))

pub returns : goal.returns
returns c =
    let e = ap length (lossy_of_nothing c.loop-shown.rest.now c.in_default.ensures.none) in
    grind (arith, nat_tests, e)
