-- What a line writer holds. Assumes nothing.
use Rattle.std.specs.Prelude.{ℕ, List, take}
use Rattle.linewriter.specs.declared.output.LineWriter.{LineWriter}

-- the lines so far
abbrev pub so_far : LineWriter → List ℕ
so_far w = take w.len w.bytes
