use Rattle.std.proofs.Common.{◌-◌, sym, refl, ◌∙◌, arith}
use Rattle.encode.specs.Sequences.{ss3}
use Rattle.table.specs.Table.{entry, form, forms}
use Rattle.table.specs.Told.{blank}
use Rattle.table.proofs.Each.{in_forms, behind}
use Rattle.table.proofs.rows.application_key.Goals as goal

pub returns-else-form-eq0 : goal.returns-else-form-eq0
returns-else-form-eq0 c =
    let l = c.args.l in
    let n = c.args.form in
    c.parametered.ensures
    ∙ sym (behind (entry (ss3 l.byte) l.key 0) (forms 8 (ss3 49) l.byte l.key) n blank (omega arith)
    ∙ in_forms (form (ss3 49) l.byte l.key) 0 9 (n - 1) (n - 1) blank refl (omega arith) (omega arith))
