use Rattle.std.proofs.Common.{Ok, sym, ap, ◌∙◌, arith}
use Rattle.keymap.proofs.Causes.{something_looked_up, nothing_looked_up, nothing_starts_so}
use Rattle.keymap.proofs.Held.{sound_of}
use Rattle.keymap.proofs.Siblings.{room_of}
use Rattle.keymap.proofs.node.KeyMap.lookup.Goals as goal

pub invariant_of-tree : goal.invariant_of-tree
invariant_of-tree g c = record { room = room_of (sound_of c.args.self.now.valid); sound = sound_of c.args.self.now.valid }

pub returns-then-self-gt0 : goal.returns-then-self-gt0
returns-then-self-gt0 g c s h = ap Ok (c.lookup.ensures s h) ∙ sym (something_looked_up s c.args.key.now c.args.maybe_more (omega (arith, h.1.size)))

pub returns-then-key-eq0 : goal.returns-then-key-eq0
returns-then-key-eq0 g c s h = sym (nothing_looked_up s c.args.key.now c.args.maybe_more (omega (arith, h.1.size)) (omega arith))

pub returns : goal.returns
returns g c s h = sym (nothing_starts_so s c.args.key.now c.args.maybe_more (omega (arith, h.1.size)) (omega arith))
