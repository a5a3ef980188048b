use Rattle.std.proofs.Common.{Bool, false, not, ◌&&◌, [], ap, ◌∙◌}
use Rattle.keymap.specs.Finding.{looked}
use Rattle.lawful.specs.Told.{some_exact, escape_exact}
use Rattle.lawful.proofs.Lookups.{lookups_decide}
use Rattle.lawful.proofs.is_lawful.Goals as goal

pub returns : goal.returns
returns c s h =
    ap (λ (b : Bool). not b && not c.is_exact_escape-lone_escape.result) (c.is_exact-empty_key.ensures ∙ ap some_exact (c.lookup.ensures s h))
    ∙ (ap (λ (b : Bool). not (some_exact (looked s [] false)) && not b) (c.is_exact_escape-lone_escape.ensures ∙ ap escape_exact (c.lookup-2.ensures s h)) ∙ lookups_decide s)
