use Rattle.std.proofs.Common.{◌∙◌, arith}
use Rattle.linewriter.proofs.Short.{name_short}
use Rattle.linewriter.proofs.line.name_field.Goals as goal

pub extend-requires : goal.extend-requires
extend-requires c = omega (arith, name_short c.args.key _ (c.as_bytes.ensures.value ∙ c.name_of.ensures))

pub returns-clause-len : goal.returns-clause-len
returns-clause-len c = omega (arith, name_short c.args.key _ (c.as_bytes.ensures.value ∙ c.name_of.ensures))
