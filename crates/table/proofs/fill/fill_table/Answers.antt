use Rattle.std.proofs.Common.{◌+◌, get_or, drop, arith}
use Rattle.std.proofs.lemmas.Result.{err_from_is_err_and}
use Rattle.filling.proofs.Fillings.{puts_more, puts_stops, puts_all}
use Rattle.table.specs.declared.rule.Rule.TheVariants.{Letters}
use Rattle.table.specs.Table.{each, entries_of, rules}
use Rattle.table.proofs.Counts.{nine_rules}
use Rattle.table.proofs.Each.{each_more, each_all}
use Rattle.table.proofs.fill.fill_table.Goals as goal

pub returns-in_err-fill_rule-clause-fills : goal.returns-in_err-fill_rule-clause-fills
unfolding rules
returns-in_err-fill_rule-clause-fills c =
    let i = c.loop-rule.rule-index in
    let p = err_from_is_err_and c.from_residual.result c.from_residual.ensures.1 in
    rw (p.1, p.2)
    (puts_stops c.loop-rule.invariant (entries_of (get_or rules i Letters)) (each (drop (i + 1) rules) entries_of) (each_more entries_of rules i Letters (omega (arith, nine_rules))) c.in_err-fill_rule.ensures).fills

pub loop-rule-preserved : goal.loop-rule-preserved
unfolding rules
loop-rule-preserved c =
    let i = c.loop-rule.rule-index in
    puts_more c.loop-rule.invariant (entries_of (get_or rules i Letters)) (each (drop (i + 1) rules) entries_of) (each_more entries_of rules i Letters (omega (arith, nine_rules))) c.in_ok-fill_rule.ensures

pub returns-clause-fills : goal.returns-clause-fills
returns-clause-fills c = (puts_all c.loop-rule.invariant (each_all entries_of rules c.loop-rule.rule-index (omega (arith, nine_rules)))).fills
