use Rattle.std.proofs.Common.{drop}
use Rattle.filling.specs.Filling.{PutsLeft}
use Rattle.table.specs.Table.{each, entries_of, rules, table}
use Rattle.table.proofs.fill.fill_table.Given as goal

-- the rules that are left give, from what the map holds now, what all of them give from what it held
abbrev pub invariant-loop-rule : goal.invariant-loop-rule
invariant-loop-rule l = PutsLeft l.initial.map l.map (each (drop l.rule-index rules) entries_of) table
