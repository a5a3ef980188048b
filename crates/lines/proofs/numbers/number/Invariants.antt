use Rattle.std.proofs.Common.{◌≡◌, ◌≤◌, drop, Some}
use Rattle.lines.specs.Numbers.{up_to, value_from, numeral}
use Rattle.lines.proofs.numbers.number.Given as goal

-- what is left gives what the whole gives
abbrev pub invariant-loop-b : goal.invariant-loop-b
invariant-loop-b l =
    (l.value ≤ l.most) × (up_to l.most (value_from l.base (Some l.value) (drop l.b-index l.text)) ≡ up_to l.most (numeral l.base l.text))
