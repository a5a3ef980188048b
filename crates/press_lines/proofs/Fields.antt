-- A text parted at tabs gives back the fields that were joined. Assumes nothing.
use Rattle.std.proofs.Common.{◌≡◌, ℕ, zero, suc, ◌+◌, Bool, true, not, ◌&&◌, eqb, List, [], ◌∷◌, ◌++◌, length, get_or, drop, sym, refl, ap, ◌∙◌, append_assoc, arith, length-append}
use Rattle.std.proofs.lemmas.List.{take_at, drop_at, get_or_at, get_or_append_left}
use Rattle.std.proofs.lemmas.Bool.{and_parts, and_from, both_ways, eq-eqb}
use Rattle.lines.proofs.Parted.{NoTab, parted_at_tab, parted_without}
use Rattle.lines.specs.Fields.{parted}

-- no tab in a text
unfoldable pub tabless : List ℕ → Bool
tabless [] = true
tabless (b ∷ bs) = not (eqb b 9) && tabless bs

no_tab : (a : List ℕ) → tabless a ≡ true → NoTab a (length a)
unfolding tabless
no_tab [] h k lt e = absurd (omega arith)
no_tab (b ∷ bs) h zero lt e = both_ways (not (eqb b 9)) (ap not (eq-eqb b 9 e)) (and_parts (not (eqb b 9)) (tabless bs) h).0
no_tab (b ∷ bs) h (suc k) lt e = no_tab bs (and_parts (not (eqb b 9)) (tabless bs) h).1 k (omega arith) e

pub parted_alone : (a : List ℕ) → tabless a ≡ true → parted a ≡ a ∷ []
parted_alone a h = parted_without a (no_tab a h)

-- a field before a tab is the first
pub parted_join : (a rest : List ℕ) → tabless a ≡ true → parted (a ++ (9 ∷ rest)) ≡ a ∷ parted rest
parted_join a rest h =
    let text = a ++ (9 ∷ rest) in
    let behind : drop (length a + 1) text ≡ rest =
    ap (drop (length a + 1)) (sym (append_assoc a (9 ∷ []) rest)) ∙ drop_at (a ++ (9 ∷ [])) rest (length a + 1) (length-append a (9 ∷ [])) in
    parted_at_tab text (length a) (omega (arith, length-append a (9 ∷ rest))) (λ k lt e. no_tab a h k lt (sym (get_or_append_left a (9 ∷ rest) 0 k lt) ∙ e)) (get_or_at a 9 rest 0 (length a) refl)
    ∙ (ap (λ (l : List ℕ). l ∷ parted (drop (length a + 1) text)) (take_at a (9 ∷ rest) (length a) refl) ∙ ap (λ (l : List ℕ). a ∷ parted l) behind)

-- no tab in any of some texts
unfoldable pub all_tabless : List (List ℕ) → Bool
all_tabless [] = true
all_tabless (t ∷ ts) = tabless t && all_tabless ts

pub tabless_at : (ts : List (List ℕ)) (i : ℕ) → all_tabless ts ≡ true → tabless (get_or ts i []) ≡ true
unfolding all_tabless tabless
tabless_at [] i h = refl
tabless_at (t ∷ ts) zero h = (and_parts (tabless t) (all_tabless ts) h).0
tabless_at (t ∷ ts) (suc i) h = tabless_at ts i (and_parts (tabless t) (all_tabless ts) h).1

pub tabless_join : (a b : List ℕ) → tabless a ≡ true → tabless b ≡ true → tabless (a ++ b) ≡ true
unfolding tabless
tabless_join [] b h g = g
tabless_join (x ∷ a) b h g =
    let p = and_parts (not (eqb x 9)) (tabless a) h in
    and_from (not (eqb x 9)) (tabless (a ++ b)) p.0 (tabless_join a b p.1 g)
