use Rattle.std.proofs.Common.{◌∙◌}
use Rattle.keymap.specs.Stored.{value_of}
use Rattle.words.specs.Words.{verb_words, key_words}
use Rattle.answers.proofs.Words.{same_words}
use Rattle.answers.proofs.answer.Goals as goal

pub returns : goal.returns
returns c =
    record {
      any = c.reply.ensures.any;
      words = λ v k.
          c.reply.ensures.any v.0 k.0 v.1.0 k.1.0
          ∙ same_words (value_of v.0) (value_of verb_words) (value_of k.0) (value_of key_words) c.args.line.now v.1.1 k.1.1;
      len = c.reply.ensures.len;
    }
