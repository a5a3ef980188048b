use Rattle.std.proofs.Common.{drop}
use Rattle.filling.specs.Filling.{PutsLeft}
use Rattle.table.specs.Table.{entries_of}
use Rattle.table.proofs.fill.fill_rule.Given as goal

-- the keys that are left give, from what the map holds now, what all of the rule give from what it held
abbrev pub invariant-loop-place : goal.invariant-loop-place
invariant-loop-place l = PutsLeft l.initial.map l.map (drop l.place (entries_of l.rule)) (entries_of l.rule)
