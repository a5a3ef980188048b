use Rattle.std.proofs.Common.{rules, tests, ◌≡◌, ◌≢◌, ℕ, ◌+◌, List, ◌∷◌, take, sym, ap, ◌∙◌, arith}
use Rattle.std.proofs.lemmas.Iterator.{IsFirst-from_position, YieldsList-from_slice}
use Rattle.std.proofs.lemmas.List.{take_rest}
use Rattle.lines.specs.Fields.{parted}
use Rattle.lines.proofs.Parted.{parted_at_tab, parted_without}
use Rattle.lines.proofs.fields.cut.Goals as goal

pub returns-in-Some : goal.returns-in-Some
returns-in-Some c =
    let text = c.args.text.now in
    let i = c.in-Some.i in
    let first = IsFirst-from_position _ _ _ (λ b. b ≡ 9) (λ b. b ≢ 9) c.in-Some.ensures.ran (YieldsList-from_slice _ c.iter.ensures.rest) (λ x q k. search (rules, tests)) (λ x q k. search (rules, tests)) in
    parted_at_tab text i first.0 (λ k l. first.2 k 0 (omega arith) l) (first.1 0)
    ∙ ap (λ (behind : List ℕ). take i text ∷ parted behind) (sym (take_rest text (i + 1)))

pub returns-in-None : goal.returns-in-None
returns-in-None c =
    let first = IsFirst-from_position _ _ _ (λ b. b ≡ 9) (λ b. b ≢ 9) c.in-None.ensures.ran (YieldsList-from_slice _ c.iter.ensures.rest) (λ x q k. search (rules, tests)) (λ x q k. search (rules, tests)) in
    parted_without c.args.text.now (λ k l. first k 0 (omega arith) l)
