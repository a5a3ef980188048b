use Rattle.map_port.proofs.Records.{valued}
use Rattle.map_port.proofs.script.read_insert.Goals as goal

pub returns : goal.returns
returns c =
    let s = c.in_ok-value.ensures.cases in
    valued c.args.script.now c.in_ok-key.key.now c.in_ok-key.rest.now c.in_ok-value.rest.now c.in_ok-key.ensures s.1 s.2
