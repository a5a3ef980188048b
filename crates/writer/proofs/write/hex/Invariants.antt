use Rattle.std.proofs.Common.{◌≡◌, ◌+◌, ◌*◌, ◌++◌, drop}
use Rattle.arrayvec.specs.ArrayVec.{array_vec_len}
use Rattle.writer.specs.Numbers.{hex_of}
use Rattle.writer.proofs.write.hex.Given as goal

-- what is written and what the rest gives are what the whole gives
abbrev pub invariant-loop-b : goal.invariant-loop-b
invariant-loop-b t l =
    (l.out.items ++ hex_of (drop l.b-index l.bytes) ≡ l.initial.out.items ++ hex_of l.bytes)
    × (array_vec_len l.out ≡ array_vec_len l.initial.out + 2 * l.b-index)
