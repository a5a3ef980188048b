use Rattle.std.proofs.Common.{◌≡◌, ℕ, refl, append_assoc, arith}
use Rattle.std.proofs.lemmas.List.{length-take-le}
use Rattle.events.specs.Told.{paste}
use Rattle.linewriter.specs.Lines.{line_of}
use Rattle.linewriter.specs.Output.{so_far}
use Rattle.linewriter.proofs.Fits.{paste_length, fits, too_long}
use Rattle.linewriter.proofs.output.LineWriter.write_paste.Goals as goal
use Rattle.linewriter.proofs.output.LineWriter.write_paste.Goals.{then-text-room-via-then-text-room, then-text-room-via-else-text-room+then-text-room-2}

pub returns-then-text-room : goal.returns-then-text-room
returns-then-text-room c =
    let w = c.args.self.now in
    let text = c.args.text.now in
    let n = length-take-le w.len w.bytes (omega arith) in
    let m = paste_length text in
    record {
      after = λ z. absurd (let y : ◌≡◌ {A = ℕ} 0 1 = cc in omega arith);
      stays = λ _. (too_long (so_far w) (line_of (paste text)) (elim c.then-text-room.branch [ then-text-room-via-then-text-room v ↦ omega arith | then-text-room-via-else-text-room+then-text-room-2 v ↦ omega arith ]), refl);
    }

pub returns : goal.returns
unfolding line_of
returns c =
    let w = c.args.self.now in
    let text = c.args.text.now in
    let n = length-take-le w.len w.bytes (omega arith) in
    let m = paste_length text in
    record {
      after = λ _. fits (so_far w) (line_of (paste text)) _ (omega arith) (grind (arith, append_assoc));
      stays = λ z. absurd (let y : ◌≡◌ {A = ℕ} 0 1 = cc in omega arith);
    }
