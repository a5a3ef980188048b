-- What the answers of a recogniser keep to. Assumes nothing.
use Rattle.std.specs.Prelude.{◌≡◌, ℕ, suc, ◌≤◌, List, ◌∷◌, ◌++◌, length}
use Rattle.events.specs.declared.event.Report.{Report}
use Rattle.events.specs.declared.event.Seen.{Seen}
use Rattle.events.specs.declared.event.Seen.TheVariants.{NoReport, Found}

-- at bytes that start with ESC, 27: a report found has from 1 to all of the bytes, and stays as bytes follow; so does the
-- answer that there is none
pub record Steady (seen : List ℕ → Seen) : Type 0 where
  pub within : (bs : List ℕ) (n : ℕ) (r : Report) → seen (27 ∷ bs) ≡ Found n r → (1 ≤ n) × (n ≤ suc (length bs))
  pub found_stays : (bs more : List ℕ) (n : ℕ) (r : Report) → seen (27 ∷ bs) ≡ Found n r → seen (27 ∷ (bs ++ more)) ≡ Found n r
  pub none_stays : (bs more : List ℕ) → seen (27 ∷ bs) ≡ NoReport → seen (27 ∷ (bs ++ more)) ≡ NoReport
