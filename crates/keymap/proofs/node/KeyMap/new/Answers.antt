use Rattle.std.proofs.Common.{[]}
use Rattle.keymap.proofs.Held.{nothing_held}
use Rattle.keymap.proofs.node.KeyMap.new.Goals as goal

pub invariant_of-result : goal.invariant_of-result
invariant_of-result g c = record { valid = ∣ ([], nothing_held c.args.nodes.now) ∣₁ }

pub returns-clause-holds : goal.returns-clause-holds
returns-clause-holds g c = nothing_held c.args.nodes.now
