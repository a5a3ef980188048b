use Rattle.filling.proofs.Fillings.{insert_fills}
use Rattle.filling.proofs.put.Goals as goal

pub returns-clause-fills : goal.returns-clause-fills
returns-clause-fills g c = insert_fills c.args.map.now c.insert.new.self c.insert.result (record { key = c.args.key.now; value = c.args.value }) c.insert.ensures.answer c.insert.ensures.stored
