use Rattle.std.proofs.Common.{◌≡◌, length, drop, Err, sym, refl, ap, ◌∙◌, subst, arith}
use Rattle.std.proofs.lemmas.Result.{err_from_is_err_and}
use Rattle.std.proofs.Math.Logic.{∥∥₁_elim, ∥∥₁_map}
use Rattle.keymap.specs.Finding.{unless}
use Rattle.keymap.specs.Held.{HeldIn}
use Rattle.keymap.specs.Room.{after}
use Rattle.keymap.proofs.Causes.{too_long, too_few, no_cause}
use Rattle.keymap.proofs.Nodes.{nodes_prop}
use Rattle.keymap.proofs.node.KeyMap.insert.Goals as goal

pub returns-then-key-gt-MAX_KEY-clause-answer : goal.returns-then-key-gt-MAX_KEY-clause-answer
returns-then-key-gt-MAX_KEY-clause-answer g c s h = ap (λ o. unless o tt) (sym (too_long _ s c.args.key.now (omega arith)))

pub returns-then-key-gt-MAX_KEY-clause-stored : goal.returns-then-key-gt-MAX_KEY-clause-stored
returns-then-key-gt-MAX_KEY-clause-stored g c s h =
    subst (λ o. HeldIn c.args.self.now.nodes.now c.args.self.now.used (after o c.args.key.now c.args.value s)) (sym (too_long _ s c.args.key.now (omega arith))) h

pub invariant_of-self : goal.invariant_of-self
invariant_of-self g c =
    let b = c.in_err-self.ensures in
    record { valid = ∥∥₁_map c.args.self.now.valid (λ t. (t.0, subst (λ l. HeldIn l c.args.self.now.used t.0) (sym (b t.0 t.1).2) t.1)) }

pub returns-in_err-self : goal.returns-in_err-self
returns-in_err-self g c =
    let xs = c.args.self.now.nodes.now in
    let ys = c.insert_in.new.nodes in
    let u = c.args.self.now.used in
    let key = c.args.key.now in
    let p = err_from_is_err_and c.from_residual.result c.from_residual.ensures.1 in
    let b = c.in_err-self.ensures in
    let same : ys ≡ xs = ∥∥₁_elim c.args.self.now.valid (nodes_prop g.row.V.coded) (λ t. (b t.0 t.1).2) in
    rw (p.1, p.2) (record {
      lender = refl;
      supplied = ap length same;
      answer = λ s h. ap Err (b s h).0 ∙ ap (λ o. unless o tt) (sym (too_few _ s key (omega arith) (b s h).1));
      stored = λ s h. subst (λ o. HeldIn ys u (after o key c.args.value s)) (sym (too_few _ s key (omega arith) (b s h).1)) (subst (λ l. HeldIn l u s) (sym same) h);
      refused = λ _. (same, refl);
      rest = ap (drop u) same;
    })

pub invariant_of-self-2 : goal.invariant_of-self-2
invariant_of-self-2 g c =
    let f = c.in_ok-self.ensures in
    record { valid = ∥∥₁_map c.args.self.now.valid (λ t. (_, (f t.0 t.1).1)) }

pub returns-clause-answer : goal.returns-clause-answer
returns-clause-answer g c s h = ap (λ o. unless o tt) (sym (no_cause _ s c.args.key.now (omega arith) (c.in_ok-self.ensures s h).0))

pub returns-clause-stored : goal.returns-clause-stored
returns-clause-stored g c s h =
    let f = c.in_ok-self.ensures s h in
    subst (λ o. HeldIn c.insert_in.new.nodes c.in_ok-self.field-0 (after o c.args.key.now c.args.value s)) (sym (no_cause _ s c.args.key.now (omega arith) f.0)) f.1

pub returns-clause-rest : goal.returns-clause-rest
returns-clause-rest g c = ∥∥₁_elim c.args.self.now.valid (nodes_prop g.row.V.coded) (λ t. (c.in_ok-self.ensures t.0 t.1).2)
