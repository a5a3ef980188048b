use Rattle.std.proofs.Common.{sym, refl, ◌∙◌, arith}
use Rattle.character.specs.Parts.{csi}
use Rattle.keycode.specs.declared.key.KeyCode.TheVariants.{Char}
use Rattle.writer.specs.Numbers.{dec}
use Rattle.table.specs.Table.{form}
use Rattle.table.specs.Told.{blank}
use Rattle.table.proofs.Each.{in_forms}
use Rattle.table.proofs.rows.csi_u_key.Goals as goal

pub returns : goal.returns
returns c = c.numbered.ensures ∙ sym (in_forms (form (csi (dec c.args.c)) 117 (Char c.args.c)) 0 9 c.args.n c.args.n blank refl (omega arith) (omega arith))
