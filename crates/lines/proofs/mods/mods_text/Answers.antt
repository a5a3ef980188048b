use Rattle.std.proofs.Common.{ℕ, List, Bor, ◌%◌, ap, ◌∙◌, arith}
use lib.ListN.{get_or-map}
use Rattle.lines.specs.Mods.{mods_texts, set_of}
use Rattle.lines.proofs.Letters.{text_at, read_back}
use Rattle.lines.proofs.mods.mods_text.Goals as goal

pub returns-clause-value : goal.returns-clause-value
unfolding mods_texts
returns-clause-value c =
    rw (← get_or-map {A = Bor (List ℕ)} (λ (x : Bor (List ℕ)). x.now)) (text_at (c.args.modifiers.0 % 16) (omega arith))

pub returns-clause-back : goal.returns-clause-back
unfolding mods_texts
returns-clause-back c =
    rw (← get_or-map {A = Bor (List ℕ)} (λ (x : Bor (List ℕ)). x.now))
    (ap set_of (text_at (c.args.modifiers.0 % 16) (omega arith)) ∙ read_back (c.args.modifiers.0 % 16) (omega arith))
