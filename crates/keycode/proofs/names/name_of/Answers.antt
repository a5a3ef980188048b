use Rattle.std.proofs.Common.{List, ℕ, Bor, refl}
use lib.ListN.{get_or-map}
use Rattle.keycode.specs.Names.{names}
use Rattle.keycode.specs.declared.key.KeyCode.{KeyCode}
use Rattle.keycode.proofs.names.name_of.Goals as goal

pub returns : goal.returns
unfolding names
returns c =
    rw (← get_or-map {A = KeyCode × Bor (List ℕ)} (λ (entry : KeyCode × Bor (List ℕ)). entry.1.now)) (rw c.place.ensures.value refl)
