use Rattle.std.proofs.Common.{◌≡◌, ◌-◌, ◌≤◌, length, sym, refl, ◌∙◌, arith, rules}
use Rattle.std.proofs.lemmas.List.{drop-drop, drop_all, length-drop, length-take}
use Rattle.readbuf.specs.Held.{held}
use Rattle.readbuf.proofs.store.ReadBuffer.advance.Goals as goal

pub returns-then-n-self : goal.returns-then-n-self
returns-then-n-self c =
    let n : length (held c.args.self.now) ≡ c.args.self.now.end - c.args.self.now.start = simp (length-drop, length-take) (omega arith) in
    record { after = search (rules, drop-drop); room = λ h. absurd (omega arith); stays = λ _. refl }

pub returns-else-n-self : goal.returns-else-n-self
returns-else-n-self c =
    let h : length (held c.args.self.now) ≤ c.args.n = simp (length-drop, length-take) (omega arith) in
    record { after = c.clear.ensures.after ∙ sym (drop_all c.args.n (held c.args.self.now) h); room = λ _. c.clear.ensures.room; stays = λ k. absurd (omega arith) }
