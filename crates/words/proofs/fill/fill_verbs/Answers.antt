use Rattle.filling.proofs.Enough.{takes_all}
use Rattle.words.specs.Words.{verb_words}
use Rattle.words.proofs.Rows.{verbs_short, verbs_once}
use Rattle.words.proofs.fill.fill_verbs.Goals as goal

pub returns-clause-takes : goal.returns-clause-takes
returns-clause-takes c = takes_all c.args.map.now c.put.new.map c.put.result verb_words verbs_short verbs_once c.put.ensures.fills
