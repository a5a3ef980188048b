use Rattle.std.proofs.Common.{◌≡◌, ◌+◌, ◌*◌, ◌++◌, drop}
use Rattle.writer.specs.Numbers.{hex_of}
use Rattle.linewriter.specs.Output.{so_far}
use Rattle.linewriter.proofs.output.LineWriter.hex.Given as goal

-- what is written and what the rest gives are what the whole gives
abbrev pub invariant-loop-b : goal.invariant-loop-b
invariant-loop-b l =
    (so_far l.self ++ hex_of (drop l.b-index l.text) ≡ so_far l.initial.self ++ hex_of l.text)
    × (l.self.len ≡ l.initial.self.len + 2 * l.b-index)
