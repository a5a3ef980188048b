-- The marker that ends a paste: XTerm Control Sequences, "Bracketed Paste Mode". Assumes nothing.
use Rattle.std.specs.Prelude.{ℕ, ◌+◌, ◌-◌, ◌≤◌, Bool, cond, List, [], ◌∷◌, length, take, drop, Some, None, Option}
use Rattle.std.specs.Option.{option_map}
use Rattle.std.specs.Str.{bytes_eq}

-- ESC [ 2 0 1 ~
abbrev pub marker : List ℕ
marker = 0x1B ∷ 0x5B ∷ 0x32 ∷ 0x30 ∷ 0x31 ∷ 0x7E ∷ []

-- whether a text begins with these bytes
unfoldable pub begins : List ℕ → List ℕ → Bool
begins front text = bytes_eq front (take (length front) text)

-- a place counted from n bytes further in front
abbrev pub later : ℕ → Option ℕ → Option ℕ
later n place = option_map (λ (i : ℕ). n + i) place

-- the first place where the marker stands
unfoldable pub first_marker : List ℕ → Option ℕ
first_marker [] = None
first_marker (b ∷ text) = cond (begins marker (b ∷ text)) (Some 0) (later 1 (first_marker text))

-- the first marker from six bytes before the searched ones end, or from the front where fewer were searched
abbrev pub resumed : ℕ → List ℕ → Option ℕ
resumed searched text = later (searched - 6) (first_marker (drop (searched - 6) text))

-- a marker that was found ends within the text
abbrev pub Within : ℕ → Option ℕ → Type 0
Within all None = Unit {0}
Within all (Some i) = i + 6 ≤ all
