use Rattle.std.proofs.Common.{length, ap, ◌∙◌}
use Rattle.words.specs.Whole.{whole}
use Rattle.words.proofs.Whole.{looked_whole}
use Rattle.words.proofs.look.word.Goals as goal

pub returns : goal.returns
returns g c =
    λ s h. c.whole.ensures ∙ (ap (λ r. whole r (length c.args.text.now)) (c.lookup.ensures s h) ∙ looked_whole s c.args.text.now)
