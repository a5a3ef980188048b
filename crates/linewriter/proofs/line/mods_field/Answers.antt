use Rattle.std.proofs.Common.{◌∙◌, arith}
use Rattle.linewriter.proofs.Short.{mods_short}
use Rattle.linewriter.proofs.line.mods_field.Goals as goal

pub extend-requires : goal.extend-requires
extend-requires c = omega (arith, mods_short c.args.modifiers.0 _ (c.as_bytes.ensures.value ∙ c.mods_text.ensures.value))

pub returns-clause-len : goal.returns-clause-len
returns-clause-len c = omega (arith, mods_short c.args.modifiers.0 _ (c.as_bytes.ensures.value ∙ c.mods_text.ensures.value))
