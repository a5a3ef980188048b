-- The fields of a line. Assumes nothing.
use Rattle.std.specs.Prelude.{ℕ, cond, List, [], ◌∷◌, Some, None, Option, ◌==◌}
use Rattle.std.specs.Borrow.{Bor}

-- the bytes before the first tab, byte 9, or all
unfoldable pub first_field : List ℕ → List ℕ
first_field [] = []
first_field (b ∷ bs) = cond (b == 9) [] (b ∷ first_field bs)

-- the fields behind the tabs, one for each tab
unfoldable pub more_fields : List ℕ → List (List ℕ)
more_fields [] = []
more_fields (b ∷ bs) = cond (b == 9) (first_field bs ∷ more_fields bs) (more_fields bs)

-- a text parted at its tabs: one field more than tabs
abbrev pub parted : List ℕ → List (List ℕ)
parted text = first_field text ∷ more_fields text

-- the fields of the text behind a tab, or no more fields
abbrev pub fields_of : Option (Bor (List ℕ)) → List (List ℕ)
fields_of None = []
fields_of (Some text) = parted text.now
