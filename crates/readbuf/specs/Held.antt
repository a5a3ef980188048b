-- What a read buffer holds. Assumes nothing.
use Rattle.std.specs.Prelude.{ℕ, List, take, drop}
use Rattle.readbuf.specs.declared.store.ReadBuffer.{ReadBuffer}

-- the bytes from start to end
abbrev pub held : ReadBuffer → List ℕ
held b = drop b.start (take b.end b.bytes)
