use Rattle.std.proofs.Common.{arith}
use Rattle.std.proofs.lemmas.Bool.Decides.{nat_tests}
use Rattle.lines.proofs.read.read_line.Goals as goal

pub returns-then-line-gt-LONGEST : goal.returns-then-line-gt-LONGEST
returns-then-line-gt-LONGEST c = λ v k hv hk. grind (arith, nat_tests)

pub returns : goal.returns
returns c = λ v k hv hk. let e = c.form.ensures v k hv hk in grind (arith, nat_tests, e)
