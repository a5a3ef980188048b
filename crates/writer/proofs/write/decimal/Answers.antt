use Rattle.std.proofs.Common.{length, ap, arith}
use Rattle.writer.proofs.Digits.{dec_in_base}
use Rattle.writer.proofs.write.decimal.Goals as goal

pub numeral-requires : goal.numeral-requires
numeral-requires g c = let e = ap length (dec_in_base c.args.n) in grind (arith, e)

pub returns : goal.returns
returns g c = let e = dec_in_base c.args.n in grind (arith, e)
