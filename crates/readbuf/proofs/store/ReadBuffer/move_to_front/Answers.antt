use Rattle.std.proofs.Common.{arith}
use Rattle.std.proofs.lemmas.List.{length-drop, length-take}
use Rattle.readbuf.proofs.Moves.{moved}
use Rattle.readbuf.proofs.store.ReadBuffer.move_to_front.Goals as goal

pub returns : goal.returns
returns c =
    let b = c.args.self.now in
    record {
      same = moved b.bytes c.copy_within.new.self b.start b.end (omega arith) (omega arith) c.copy_within.ensures.after;
      room = simp (length-drop, length-take) (omega arith);
    }
