use Rattle.std.proofs.Common.{◌≡◌, ◌≤◌, ◌++◌, drop, reverse}
use Rattle.arrayvec.specs.ArrayVec.{array_vec_len}
use Rattle.writer.specs.Numbers.{in_base}
use Rattle.writer.proofs.write.numeral.Given as goal

-- behind what was held stand the last digits, the last one first; the rest gives the others
abbrev pub invariant-loop-rest : goal.invariant-loop-rest
invariant-loop-rest g l =
    (l.out.items ≡ l.initial.out.items ++ drop (array_vec_len l.initial.out) l.out.items)
    × (in_base l.base l.n ≡ in_base l.base l.rest ++ reverse (drop (array_vec_len l.initial.out) l.out.items))
    × (array_vec_len l.initial.out ≤ array_vec_len l.out)

abbrev pub decreases-loop-rest : goal.decreases-loop-rest
decreases-loop-rest g l = l.rest
