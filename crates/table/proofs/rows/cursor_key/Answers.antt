use Rattle.std.proofs.Common.{◌≡◌, ℕ, ◌-◌, [], ◌∷◌, get_or, sym, refl, ap, ◌∙◌, arith}
use Rattle.character.specs.Parts.{csi}
use Rattle.table.specs.Table.{entry, form, forms, cursor_row}
use Rattle.table.specs.Told.{blank}
use Rattle.table.proofs.Each.{in_forms, behind}
use Rattle.table.proofs.rows.cursor_key.Goals as goal

pub returns-then-form-eq0 : goal.returns-then-form-eq0
returns-then-form-eq0 c =
    let z : 0 ≡ c.args.form = omega arith in
    c.letter_alone.ensures ∙ ap (λ (n : ℕ). get_or (cursor_row c.args.l) n blank) z

pub returns-else-form-eq0 : goal.returns-else-form-eq0
returns-else-form-eq0 c =
    let l = c.args.l in
    let n = c.args.form in
    c.parametered.ensures
    ∙ sym (behind (entry (27 ∷ l.intro ∷ l.last ∷ []) l.key 0) (forms 16 (csi (49 ∷ [])) l.last l.key) n blank (omega arith)
    ∙ in_forms (form (csi (49 ∷ [])) l.last l.key) 0 17 (n - 1) (n - 1) blank refl (omega arith) (omega arith))
