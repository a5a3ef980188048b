-- Where a record's key and the next record stand in a script. Assumes nothing.
use Rattle.std.specs.Prelude.{◌≡◌, ℕ, ◌+◌, ◌≤◌, List, ◌∷◌, length, take, drop}
use Rattle.map_port.specs.declared.record.Request.{Request}
use Rattle.map_port.specs.declared.record.Request.TheVariants.{Insert, Lookup}

-- the bytes of a record before the length of its key: the kind, and of a lookup whether more may come
abbrev pub before : Request → ℕ
before (Insert value) = 1
before (Lookup more) = 2

-- the bytes of a record behind its key: an insert has a value of four
abbrev pub behind : Request → ℕ
behind (Insert value) = 4
behind (Lookup more) = 0

-- behind the first n bytes stand the key's length and the key, and m bytes behind the key the rest starts
abbrev pub Stands : ℕ → ℕ → List ℕ → List ℕ → List ℕ → Type 0
Stands n m script key rest =
    (take (length key + 1) (drop n script) ≡ length key ∷ key) × (rest ≡ drop (n + 1 + length key + m) script)
    × (n + 1 + length key + m ≤ length script)
