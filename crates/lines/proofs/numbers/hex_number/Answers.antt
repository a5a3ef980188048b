use Rattle.std.proofs.Common.{◌∙◌}
use Rattle.lines.proofs.Numerals.{eight_digits_fit}
use Rattle.lines.proofs.numbers.hex_number.Goals as goal

pub returns : goal.returns
returns c = c.number.ensures ∙ eight_digits_fit c.args.text.now c.if-text-gt-HEX_DIGITS.false
