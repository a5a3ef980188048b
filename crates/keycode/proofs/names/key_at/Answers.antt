use Rattle.std.proofs.Common.{Bor, List, ℕ, arith}
use Rattle.std.proofs.lemmas.Bool.Decides.{nat_tests}
use lib.ListN.{get_or-map}
use Rattle.keycode.specs.Names.{keys}
use Rattle.keycode.specs.declared.key.KeyCode.{KeyCode}
use Rattle.keycode.proofs.names.key_at.Goals as goal

pub returns-then-place-lt-COUNT : goal.returns-then-place-lt-COUNT
unfolding keys
returns-then-place-lt-COUNT c =
    rw (← get_or-map {A = KeyCode × Bor (List ℕ)} (λ (entry : KeyCode × Bor (List ℕ)). entry.0)) (grind (arith, nat_tests))
