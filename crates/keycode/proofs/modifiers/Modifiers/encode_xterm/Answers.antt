use Rattle.std.proofs.Common.{arith}
use Rattle.keycode.specs.Modifiers.{xterm_sum}
use Rattle.keycode.proofs.modifiers.Modifiers.encode_xterm.Goals as goal

pub returns : goal.returns
unfolding xterm_sum
returns c = record { value = grind arith; most = grind arith }
