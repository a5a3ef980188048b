use Rattle.std.proofs.Common.{rules, tests}
use Rattle.readbuf.proofs.Markers.{parts_found, YieldsList-from_windows}
use Rattle.readbuf.proofs.marker.find_marker.Goals as goal

pub returns-clause-value : goal.returns-clause-value
returns-clause-value c = parts_found c.args.text.now _ _ c.position.result c.position.ensures.ran (YieldsList-from_windows c.args.text.now c.windows.ensures.rest c.windows.ensures.size) (λ x b q k. search (rules, tests))
