use Rattle.std.proofs.Common.{◌-◌, get_or, sym, refl, ◌∙◌, arith}
use Rattle.character.specs.Parts.{csi}
use Rattle.keycode.specs.declared.key.KeyCode.TheVariants.{Function}
use Rattle.writer.specs.Numbers.{dec}
use Rattle.encode.specs.Sequences.{function_codes}
use Rattle.table.specs.Table.{form, numbers}
use Rattle.table.specs.Told.{blank}
use Rattle.table.proofs.Each.{in_forms}
use Rattle.table.proofs.rows.function_key.Goals as goal

pub returns : goal.returns
unfolding numbers function_codes
returns c =
    let k = c.args.k in
    c.numbered.ensures
    ∙ sym (in_forms (form (csi (dec (get_or numbers (k - 1) 0))) 126 (Function k)) 0 17 c.args.n c.args.n blank refl (omega arith) (omega arith))
