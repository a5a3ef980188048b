use Rattle.std.proofs.Common.{ℕ, ◌+◌, [], ◌∷◌, ◌++◌, refl, append_assoc, arith}
use Rattle.character.specs.Parts.{csi}
use Rattle.writer.specs.Numbers.{dec}
use Rattle.table.specs.Table.{entry, key_of, mods_of}
use Rattle.table.specs.Told.{blank}
use Rattle.table.proofs.Each.{in_forms}
use Rattle.table.proofs.rows.other_key.Goals as goal

pub returns : goal.returns
returns c =
    let n = c.args.form + 1 in
    let row = in_forms (λ (n : ℕ). entry (csi (50 ∷ 55 ∷ 59 ∷ (dec n ++ (59 ∷ (dec c.args.c ++ (126 ∷ [])))))) (key_of c.args.c) (mods_of n)) 1 8 c.args.form n blank refl (omega arith) (omega arith) in
    grind (arith, append_assoc, row)
