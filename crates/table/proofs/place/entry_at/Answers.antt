use Rattle.std.proofs.Common.{length, ap, arith}
use Rattle.keycode.specs.declared.key.KeyEvent.{KeyEvent}
use Rattle.keymap.specs.Stored.{Entry}
use Rattle.std.proofs.lemmas.Bool.Decides.{nat_tests}
use Rattle.table.proofs.Counts.{short_at}
use Rattle.table.proofs.place.entry_at.Goals as goal

pub returns-then-place-count : goal.returns-then-place-count
returns-then-place-count c =
    let short = short_at c.args.rule c.args.place (omega arith) in
    let long = ap (λ (e : Entry KeyEvent). length e.key) c.key_in.ensures in
    record { value = grind (arith, nat_tests); len = omega (arith, long, short) }
