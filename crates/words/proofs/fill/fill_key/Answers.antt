use Rattle.std.proofs.Common.{◌≡◌, [], ◌∷◌, get_or, ◌∙◌, subst, arith}
use Rattle.std.proofs.lemmas.Bool.Decides.{nat_tests}
use Rattle.keycode.specs.Names.{keys}
use Rattle.keycode.specs.declared.key.KeyCode.{KeyCode}
use Rattle.keycode.specs.declared.key.KeyCode.TheVariants.{Char}
use Rattle.filling.specs.Filling.{Puts}
use Rattle.keymap.specs.Stored.{Entry}
use Rattle.words.proofs.Rows.{word_at}
use Rattle.words.proofs.fill.fill_key.Goals as goal

pub returns-in-Some : goal.returns-in-Some
returns-in-Some c =
    let k = c.in-Some.ensures in
    let key : c.in-Some.key ≡ get_or keys c.args.place (Char 0) = grind (arith, nat_tests, k) in
    let word = word_at c.args.place c.requires c.in-Some.key c.as_bytes.result.now key (c.as_bytes.ensures.value ∙ c.name_of.ensures) in
    subst (λ (e : Entry KeyCode). Puts c.args.map.now c.put.new.map c.put.result (e ∷ [])) word
    (record { lender = c.put.ensures.lender; supplied = c.put.ensures.supplied; fills = c.put.ensures.fills })
