use Rattle.std.proofs.Common.{refl, rules}
use Rattle.std.proofs.lemmas.Slice.{overwrites}
use Rattle.linewriter.proofs.output.LineWriter.extend.Goals as goal

pub returns : goal.returns
returns c = record { bytes = search (rules, overwrites); len = refl }
