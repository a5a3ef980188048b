-- The table built in an empty map, by the number of its nodes. Assumes nothing.
use Rattle.std.proofs.Common.{◌≡◌, ℕ, true, ltb, [], length, Ok, Err, Result, sym, refl, ap, ◌∙◌, subst, ⊎_elim, arith}
use Rattle.std.proofs.lemmas.Bool.{cases_lt, cond-true, cond-false, lt-ltb, le-ltb}
use Rattle.encode.specs.Sequences.{function_codes}
use Rattle.filling.proofs.Enough.{room_fills, no_room_refuses}
use Rattle.filling.specs.Filling.{Outcome, short, Fills}
use Rattle.keycode.specs.declared.key.KeyEvent.{KeyEvent}
use Rattle.keymap.specs.declared.found.MapFault.{MapFault}
use Rattle.keymap.specs.declared.found.MapFault.TheVariants.{TooFewNodes}
use Rattle.keymap.specs.declared.node.KeyMap.{KeyMap}
use Rattle.keymap.specs.Holding.{Holds}
use Rattle.table.specs.Table.{each, cursor_keys, rxvt_keys, application_keys, numbers, editing_digits, entries_of, rules, table}
use Rattle.writer.specs.Numbers.{digits}
use Rattle.basic.proofs.Facts.{facts}
use Rattle.basic.specs.Built.{Builds}
use Rattle.basic.specs.Facts.{node_count}

-- no key of the table is too long for a map
table_short : short table ≡ true
unfolding short each cursor_keys rxvt_keys application_keys numbers editing_digits entries_of rules function_codes digits
table_short = refl

-- the answer goes by the number of nodes
pub builds : (m after : KeyMap KeyEvent) (r : Result (Unit {0}) MapFault) → Fills m after r table → Builds m after r
builds m after r fills empty =
    let n = length m.nodes.now in
    let f = fills [] empty in
    ⊎_elim
    (λ few.
    let refused : r ≡ Err TooFewNodes = f.0 ∙ no_room_refuses n [] table table_short (omega arith) (omega (arith, facts.nodes)) in
    (refused ∙ sym (cond-true (ltb n node_count) (Err TooFewNodes) (Ok tt) (lt-ltb n node_count few)), λ ok. absurd (let z : ◌≡◌ {A = ℕ} 0 1 = cc in omega arith)))
    (λ enough.
    let whole = room_fills n [] table table_short (omega (arith, facts.nodes)) in (
      f.0 ∙ (ap (λ (o : Outcome KeyEvent). o.said) whole ∙ sym (cond-false (ltb n node_count) (Err TooFewNodes) (Ok tt) (le-ltb n node_count enough))),
      λ ok. (subst (λ (o : Outcome KeyEvent). Holds after o.stored) whole f.1, facts),
    ))
    (cases_lt n node_count)
