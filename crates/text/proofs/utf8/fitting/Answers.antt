use Rattle.std.proofs.Common.{rules, tests, ◌∙◌}
use Rattle.std.proofs.lemmas.Iterator.{YieldsList-from_slice, YieldsList-from_take}
use Rattle.std.proofs.lemmas.Iterator.Consumers.{YieldsList-at, YieldsList-from_enumerate, count_from_yields_List}
use Rattle.std.proofs.lemmas.Iterator.Search.{YieldsList-from_take_while}
use Rattle.text.specs.Table.{◌to◌}
use Rattle.text.proofs.Fitting.{stands, fit_count}
use Rattle.text.proofs.utf8.fitting.Goals as goal

pub returns-clause-value : goal.returns-clause-value
returns-clause-value c =
    let row = c.args.row in
    let taken = YieldsList-from_take row.more (YieldsList-at c.take.ensures.source (YieldsList-from_slice c.args.bytes.now c.iter.ensures.rest)) c.take.ensures.count in
    let placed = YieldsList-from_enumerate (YieldsList-at c.enumerate.ensures.source taken) c.enumerate.ensures.count in
    count_from_yields_List _ c.count.result c.count.ensures.ran
    (YieldsList-from_take_while _ (stands (row.low to row.high)) (YieldsList-at c.take_while.ensures.source placed) c.take_while.ensures.closure c.take_while.ensures.done (λ x b q k. search (rules, tests)))
    ∙ fit_count row.more (row.low to row.high) c.args.bytes.now
