-- A text parted at its tabs. Assumes nothing.
use Rattle.std.proofs.Common.{◌≡◌, ℕ, zero, suc, ◌+◌, ◌<◌, Bool, true, false, cond, eqb, List, [], ◌∷◌, length, get_or, take, drop, sym, refl, ap, ◌∙◌, arith}
use Rattle.std.proofs.lemmas.Bool.{eq-eqb, ne_eqb}
use Rattle.lines.specs.Fields.{first_field, more_fields, parted}

-- no tab among the bytes before a place
abbrev pub NoTab : List ℕ → ℕ → Type 0
NoTab text i = (k : ℕ) → k < i → get_or text k 0 ≡ 9 → ⊥

-- a byte before the first of the fields
before : ℕ → List (List ℕ) → List (List ℕ)
before b [] = []
before b (field ∷ fields) = (b ∷ field) ∷ fields

parted_cons : (b : ℕ) (bs : List ℕ) (tab : Bool) → eqb b 9 ≡ tab → parted (b ∷ bs) ≡ cond tab ([] ∷ parted bs) (before b (parted bs))
unfolding first_field more_fields before
parted_cons b bs true e = ap (λ (t : Bool). cond t [] (b ∷ first_field bs) ∷ cond t (parted bs) (more_fields bs)) e
parted_cons b bs false e = ap (λ (t : Bool). cond t [] (b ∷ first_field bs) ∷ cond t (parted bs) (more_fields bs)) e

pub parted_at_tab : (text : List ℕ) (i : ℕ) → i < length text → NoTab text i → get_or text i 0 ≡ 9 → parted text ≡ take i text ∷ parted (drop (i + 1) text)
unfolding before
parted_at_tab [] i lt none e = absurd (omega arith)
parted_at_tab (b ∷ bs) zero lt none e = parted_cons b bs true (eq-eqb b 9 e)
parted_at_tab (b ∷ bs) (suc i) lt none e =
    let s : suc i + 1 ≡ suc (i + 1) = omega arith in
    parted_cons b bs false (ne_eqb b 9 (none 0 (omega arith)))
    ∙ (ap (before b) (parted_at_tab bs i (omega arith) (λ k l. none (suc k) (omega arith)) e)
    ∙ ap (λ (j : ℕ). (b ∷ take i bs) ∷ parted (drop j (b ∷ bs))) (sym s))

pub parted_without : (text : List ℕ) → NoTab text (length text) → parted text ≡ text ∷ []
unfolding first_field more_fields before
parted_without [] none = refl
parted_without (b ∷ bs) none =
    parted_cons b bs false (ne_eqb b 9 (none 0 (omega arith))) ∙ ap (before b) (parted_without bs (λ k l. none (suc k) (omega arith)))
