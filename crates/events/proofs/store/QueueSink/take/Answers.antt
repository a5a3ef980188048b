use Rattle.std.proofs.Common.{◌≡◌, ℕ, List, ◌++◌, length, take, refl, ap, ◌∙◌, arith, length-set}
use Rattle.events.specs.Events.{told}
use Rattle.events.proofs.Stores.{no_record, no_text, within_push, full_push, takes}
use Rattle.events.proofs.store.QueueSink.take.Goals as goal
use Rattle.events.proofs.store.QueueSink.take.Goals.{then-self-via-then-self, then-self-via-else-self+then-text-self}

pub returns-then-self : goal.returns-then-self
returns-then-self g c =
    elim c.then-self.branch [
      | then-self-via-then-self w ↦ record { after = λ z. absurd (let y : ◌≡◌ {A = ℕ} 0 1 = cc in omega arith); stays = λ _. (no_record c.args.self.now (told c.args.event) (omega arith), refl) }
      | then-self-via-else-self+then-text-self w ↦ record { after = λ z. absurd (let y : ◌≡◌ {A = ℕ} 0 1 = cc in omega arith); stays = λ _. (no_text c.args.self.now (told c.args.event) (omega (arith, ap length c.text_of-text.ensures)), refl) }
    ]

pub invariant_of-self : goal.invariant_of-self
invariant_of-self g c =
    let q = c.args.self.now in
    let e = told c.args.event in
    let is = c.record_of.ensures in
    let long = ap length c.text_of-text.ensures in
    record {
      whole = length-set q.records q.count c.record_of.result ∙ q.whole;
      counted = omega arith;
      fits = omega arith;
      within = within_push q e c.record_of.result _ is long (omega arith);
      full = full_push q e c.record_of.result _ is long (omega arith);
    }

pub returns : goal.returns
returns g c =
    let q = c.args.self.now in
    let e = told c.args.event in
    let text = c.text_of-text.ensures in
    let written = c.put.ensures ∙ ap (λ (t : List ℕ). take q.used q.texts.bytes ++ t) text in
    record {
      after = λ _. takes q e c.record_of.result (length c.text_of-text.result.now) c.record_of.ensures (ap length text) (omega arith) _ written (omega arith);
      stays = λ z. absurd (let y : ◌≡◌ {A = ℕ} 0 1 = cc in omega arith);
    }
