use Rattle.map_port.proofs.Records.{if_some, kinded}
use Rattle.map_port.proofs.script.read_record.Goals as goal

pub returns-in-1 : goal.returns-in-1
returns-in-1 c = if_some c.read_insert.result (λ q s. kinded q.request _ c.args.script.now _ _ _ c.in_ok-kind.ensures.cases.0 s) c.read_insert.ensures

pub returns-in-2 : goal.returns-in-2
returns-in-2 c = if_some c.read_lookup.result (λ q s. kinded q.request _ c.args.script.now _ _ _ c.in_ok-kind.ensures.cases.0 s) c.read_lookup.ensures
