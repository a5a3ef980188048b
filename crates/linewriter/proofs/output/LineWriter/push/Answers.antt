use Rattle.std.proofs.Common.{refl, rules}
use Rattle.std.proofs.lemmas.List.{take_more_set}
use Rattle.linewriter.proofs.output.LineWriter.push.Goals as goal

pub returns : goal.returns
returns c = record { bytes = search (rules, take_more_set); len = refl }
