use Rattle.std.proofs.Common.{None, sym, ap, ◌∙◌, arith}
use Rattle.lines.specs.Numbers.{up_to}
use Rattle.lines.proofs.Numerals.{value_of_none, value_more, value_all, past_stays}
use Rattle.lines.proofs.numbers.number.Goals as goal

-- a byte that is no digit
pub returns-in_err-value : goal.returns-in_err-value
returns-in_err-value c =
    rw c.from_residual.ensures
    (sym (ap (up_to c.args.most) (value_of_none c.args.base _))
    ∙ (value_more c.args.base _ c.loop-b.value c.args.text.now c.loop-b.b-index None (omega arith) c.in_err-value.ensures
    ∙ c.loop-b.invariant.1))

-- a value past the limit
pub returns-then-value-most : goal.returns-then-value-most
returns-then-value-most c =
    sym (past_stays c.args.base c.args.most (omega arith) _ _ c.if-value-most.true)
    ∙ (value_more c.args.base _ c.loop-b.value c.args.text.now c.loop-b.b-index _ (omega arith) c.in_ok-value.ensures
    ∙ c.loop-b.invariant.1)

pub loop-b-preserved : goal.loop-b-preserved
loop-b-preserved c =
    (omega arith, value_more c.args.base _ c.loop-b.value c.args.text.now c.loop-b.b-index _ (omega arith) c.in_ok-value.ensures ∙ c.loop-b.invariant.1)

pub returns : goal.returns
returns c =
    value_all c.args.base c.args.most c.loop-b.value c.args.text.now c.loop-b.b-index (omega arith) (omega arith) ∙ c.loop-b.invariant.1
