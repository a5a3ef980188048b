use Rattle.basic.proofs.Building.{builds}
use Rattle.basic.proofs.build_basic_key_map.Goals as goal

pub returns-clause-built : goal.returns-clause-built
returns-clause-built c = builds c.args.map.now c.fill_table.new.map c.fill_table.result c.fill_table.ensures.fills
