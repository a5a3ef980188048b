use Rattle.std.proofs.Common.{rules, tests, ℕ, List, Bor}
use Rattle.std.proofs.lemmas.Iterator.{YieldsList-from_slice}
use Rattle.keycode.proofs.Places.{place_from_yields_List}
use Rattle.lines.specs.Mods.{mods_texts}
use Rattle.lines.proofs.mods.place_of.Goals as goal

pub returns-clause-value : goal.returns-clause-value
unfolding mods_texts
returns-clause-value c =
    place_from_yields_List (λ (letters : Bor (List ℕ)). letters.now) c.args.text.now _ _ c.position.result c.position.ensures.ran (YieldsList-from_slice _ c.iter.ensures.rest)
    (λ x b q k. search (rules, tests))
