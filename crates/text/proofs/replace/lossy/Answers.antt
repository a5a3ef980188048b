use Rattle.std.proofs.Common.{arith}
use Rattle.std.proofs.lemmas.Bool.Decides.{nat_tests}
use Rattle.text.proofs.Lossies.{lossy_short}
use Rattle.text.proofs.replace.lossy.Goals as goal

pub returns-in_err-len-clause-room : goal.returns-in_err-len-clause-room
returns-in_err-len-clause-room c = λ h. let b = lossy_short c.args.text.now in let v = c.in_err-len.ensures.value in let l = c.lossy_len.ensures in absurd (grind (arith, nat_tests, v, l))
