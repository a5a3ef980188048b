use Rattle.std.proofs.Common.{append_assoc, append-nil, arith}
use Rattle.writer.proofs.Digits.{hex_more, hex_all}
use Rattle.linewriter.proofs.output.LineWriter.hex.Goals as goal

pub loop-b-preserved : goal.loop-b-preserved
loop-b-preserved c =
    let e = hex_more c.args.text.now c.loop-b.b-index (omega arith) in
    (grind (arith, e, append_assoc), omega arith)

pub returns : goal.returns
returns c =
    let e = hex_all c.args.text.now c.loop-b.b-index (omega arith) in
    record { bytes = grind (arith, e, append-nil); len = omega arith }
