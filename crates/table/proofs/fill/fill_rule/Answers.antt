use Rattle.std.proofs.Common.{◌+◌, [], ◌∷◌, get_or, drop, arith}
use Rattle.std.proofs.lemmas.List.{drop_more, drop_all}
use Rattle.std.proofs.lemmas.Result.{err_from_is_err_and}
use Rattle.filling.proofs.Fillings.{puts_more, puts_stops, puts_all}
use Rattle.table.specs.Table.{entries_of}
use Rattle.table.specs.Told.{blank}
use Rattle.table.proofs.Counts.{counted}
use Rattle.table.proofs.fill.fill_rule.Goals as goal

pub returns-in_err-fill_key : goal.returns-in_err-fill_key
returns-in_err-fill_key c =
    let i = c.loop-place.place in
    let es = entries_of c.args.rule in
    let p = err_from_is_err_and c.from_residual.result c.from_residual.ensures.1 in
    rw (p.1, p.2)
    (puts_stops c.loop-place.invariant (get_or es i blank ∷ []) (drop (i + 1) es) (drop_more es i blank (omega (arith, counted c.args.rule))) c.in_err-fill_key.ensures)

pub loop-place-preserved : goal.loop-place-preserved
loop-place-preserved c =
    let i = c.loop-place.place in
    let es = entries_of c.args.rule in
    puts_more c.loop-place.invariant (get_or es i blank ∷ []) (drop (i + 1) es) (drop_more es i blank (omega (arith, counted c.args.rule))) c.in_ok-fill_key.ensures

pub returns : goal.returns
returns c = puts_all c.loop-place.invariant (drop_all c.loop-place.place (entries_of c.args.rule) (omega (arith, counted c.args.rule)))
