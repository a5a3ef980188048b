use Rattle.std.proofs.Common.{ap, arith}
use Rattle.std.proofs.lemmas.Bool.Decides.{nat_tests}
use Rattle.cilvedroz.specs.Answers.{told_of, answer}
use Rattle.cilvedroz.proofs.interface.cilvedroz_encode.Goals as goal

pub returns-then-is_down-eq0 : goal.returns-then-is_down-eq0
unfolding answer
returns-then-is_down-eq0 c = grind (arith, nat_tests)

pub returns-in_default : goal.returns-in_default
unfolding answer
returns-in_default c = let k = c.in_default.ensures in grind (arith, nat_tests, k)

pub returns-in_default-encoding_of : goal.returns-in_default-encoding_of
unfolding answer
returns-in_default-encoding_of c =
    let k = c.in-Some.ensures in
    let e = c.in_default-encoding_of.ensures in
    grind (arith, nat_tests, k, e)

pub returns : goal.returns
unfolding answer
returns c =
    let k = c.in-Some.ensures in
    let e = c.in-Some-encoding_of.ensures in
    let s = ap told_of c.encode.ensures.after in
    grind (arith, nat_tests, k, e, s)
