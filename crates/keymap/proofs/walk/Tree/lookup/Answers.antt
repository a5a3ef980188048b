use Rattle.std.proofs.Common.{arith}
use Rattle.std.proofs.lemmas.Bool.{both_ways}
use Rattle.keymap.proofs.Looked.{answers_none, answers_need_data, answers_ambiguous, answers_exact}
use Rattle.keymap.proofs.Siblings.{of_tree}
use Rattle.keymap.proofs.Ways.{at_in}
use Rattle.keymap.proofs.walk.Tree.lookup.Goals as goal
use Rattle.keymap.proofs.walk.Tree.lookup.Goals.{else-maybe_more-via-then-maybe_more+else-goes_on, else-maybe_more-via-else-maybe_more}

pub returns-then-key-gt0 : goal.returns-then-key-gt0
returns-then-key-gt0 g c s h =
    answers_none s h.0 _ _ h.1 _ _ _ (c.follow-t.ensures.deepest h.0 h.1.well) _ (omega arith) (omega arith)

pub goes_on-requires : goal.goes_on-requires
goes_on-requires g c = of_tree c.args.self.now.sound (λ up w. at_in up _ _ w _ _ (c.follow-t.ensures.deepest up w).way)

pub returns-in-None : goal.returns-in-None
returns-in-None g c s h =
    let w = h.1.well in
    answers_need_data s h.0 _ _ h.1 _ _ _ (c.follow-t.ensures.deepest h.0 w) _ (λ lo. omega (arith, c.else-t-eq0.either)) _ c.in-None.is (c.follow-t.ensures.best h.0 w)

pub returns-then-goes_on : goal.returns-then-goes_on
returns-then-goes_on g c s h =
    let w = h.1.well in
    answers_ambiguous s h.0 _ _ h.1 _ _ _ (c.follow-t.ensures.deepest h.0 w) _ (λ lo. omega (arith, c.else-t-eq0.either)) _ _ c.in-Some.is (c.follow-t.ensures.best h.0 w) c.if-maybe_more.true (c.goes_on.ensures.yes c.if-goes_on.true)

pub returns-else-maybe_more : goal.returns-else-maybe_more
returns-else-maybe_more g c s h =
    let w = h.1.well in
    answers_exact s h.0 _ _ h.1 _ _ _ (c.follow-t.ensures.deepest h.0 w) _ (λ lo. omega (arith, c.else-t-eq0.either)) _ _ c.in-Some.is (c.follow-t.ensures.best h.0 w)
    (λ m. elim c.else-maybe_more.branch [
      | else-maybe_more-via-then-maybe_more+else-goes_on v ↦ v.goes_on.ensures.no v.if-goes_on.false
      | else-maybe_more-via-else-maybe_more v ↦ absurd (both_ways c.args.maybe_more v.if-maybe_more.false m)
    ])
