use Rattle.std.proofs.Common.{ℕ, List, [], ◌∷◌, ap, ◌∙◌, subst}
use Rattle.filling.specs.Filling.{Puts}
use Rattle.keycode.specs.declared.key.KeyEvent.{KeyEvent}
use Rattle.keymap.specs.Stored.{Entry}
use Rattle.table.proofs.fill.fill_key.Goals as goal

pub returns : goal.returns
returns c =
    let key = ap (λ (bytes : List ℕ). record { key = bytes; value = c.key_in-key.result.event }) c.as_slice.ensures.value ∙ c.key_in-key.ensures in
    subst (λ (e : Entry KeyEvent). Puts c.args.map.now c.put.new.map c.put.result (e ∷ [])) key
    (record { lender = c.put.ensures.lender; supplied = c.put.ensures.supplied; fills = c.put.ensures.fills })
