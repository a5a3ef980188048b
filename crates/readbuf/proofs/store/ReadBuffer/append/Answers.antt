use Rattle.std.proofs.Common.{refl, rules}
use Rattle.std.proofs.lemmas.Slice.{overwrites}
use Rattle.std.proofs.lemmas.List.{drop-append-le}
use Rattle.readbuf.proofs.store.ReadBuffer.append.Goals as goal

pub returns : goal.returns
returns c = record { after = search (rules, overwrites, drop-append-le); stays = refl }
