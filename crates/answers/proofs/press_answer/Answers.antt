use Rattle.std.proofs.Common.{ap, ◌∙◌, arith}
use Rattle.answers.specs.Answers.{refused_line}
use Rattle.answers.proofs.Presses.{bytes_answer, refused_answer}
use Rattle.answers.proofs.press_answer.Goals as goal

pub returns-in-Ok-clause-line : goal.returns-in-Ok-clause-line
returns-in-Ok-clause-line c =
    c.bytes_line.ensures.line
    ∙ bytes_answer c.args.event.key c.args.event.modifiers.0 _ c.encode_plain.new.out c.in-Ok.n c.in-Ok.ensures.after

pub returns-in-Err-clause-line : goal.returns-in-Err-clause-line
returns-in-Err-clause-line c =
    c.refused.ensures.line
    ∙ (ap refused_line c.number.ensures
    ∙ refused_answer c.args.event.key c.args.event.modifiers.0 _ c.encode_plain.new.out c.in-Err.fault c.in-Err.ensures.after (c.in-Err.ensures.room (omega arith)))
