use Rattle.std.proofs.Common.{Some, None, ◌∙◌, arith}
use Rattle.readbuf.specs.Held.{held}
use Rattle.readbuf.proofs.Markers.{resumed_held, resumed_finds}
use Rattle.readbuf.proofs.store.ReadBuffer.find_marker_from.Goals as goal

pub returns-in_err-find_marker-clause-back : goal.returns-in_err-find_marker-clause-back
returns-in_err-find_marker-clause-back c = λ e.
    c.from_residual.ensures
    ∙ resumed_held c.args.searched c.min-from.result c.as_slice.result.now (held c.args.self.now) None c.as_slice.ensures.bytes (omega arith) c.in_err-find_marker.ensures.value
    ∙ resumed_finds _ _ e

pub returns-clause-back : goal.returns-clause-back
returns-clause-back c = λ e.
    resumed_held c.args.searched c.min-from.result c.as_slice.result.now (held c.args.self.now) (Some c.in_ok-find_marker.field-0) c.as_slice.ensures.bytes (omega arith) c.in_ok-find_marker.ensures.value
    ∙ resumed_finds _ _ e
