use Rattle.std.proofs.Common.{rules, tests, ℕ, List, Bor}
use Rattle.std.proofs.lemmas.Iterator.{YieldsList-from_slice}
use Rattle.keycode.specs.Names.{names}
use Rattle.keycode.specs.declared.key.KeyCode.{KeyCode}
use Rattle.keycode.proofs.Places.{place_from_yields_List}
use Rattle.keycode.proofs.names.place_named.Goals as goal

pub returns : goal.returns
unfolding names
returns c =
    place_from_yields_List (λ (entry : KeyCode × Bor (List ℕ)). entry.1.now) c.args.name.now _ _ c.position.result c.position.ensures.ran (YieldsList-from_slice _ c.iter.ensures.rest)
    (λ x b q k. search (rules, tests))
