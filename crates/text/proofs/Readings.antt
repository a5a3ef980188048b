-- The first character by the row of its first byte, and its laws. Assumes nothing.
use Rattle.std.proofs.Common.{◌≡◌, ℕ, suc, ◌+◌, ◌-◌, ◌<◌, ◌≤◌, max, Bool, true, false, cond, eqb, ◌⊎◌, List, [], ◌∷◌, ◌++◌, length, get_or, take, drop, Some, None, Option, sym, refl, ap, ◌∙◌, subst, inl, inr, arith, length-append}
use Rattle.std.proofs.lemmas.List.{take-append-le, take_rest}
use Rattle.std.proofs.lemmas.Bool.{eqb-true, eq-eqb, ne_eqb, cases_eq, cases_lt}
use Rattle.text.specs.declared.kinds.Character.{Character}
use Rattle.text.specs.declared.kinds.Character.TheVariants.{Scalar, IllFormed, Partial, Empty}
use Rattle.text.specs.Rows.{behind}
use Rattle.text.specs.Table.{Range, table, holds, fits}
use Rattle.text.specs.Reading.{carried, reading, character_of, settled, Counted}
use Rattle.text.proofs.Rows.{most, full, by_table}

-- a reading by the ranges behind the first byte
abbrev pub by_first_byte : Option (List Range) → ℕ → List ℕ → Character
by_first_byte row b bytes = reading (full row bytes) (most row bytes) (b ∷ bytes)

pub by_first : (b : ℕ) (bytes : List ℕ) → character_of (b ∷ bytes) ≡ by_first_byte (behind table b) b bytes
unfolding character_of
by_first b bytes = let p = by_table b bytes in rw (p.longest_is, p.whole_is)

-- a first byte of no row
pub reading_of_none : (bytes : List ℕ) → false ≡ eqb (length bytes) 0 → None ≡ behind table (get_or bytes 0 0) → IllFormed 1 ≡ character_of bytes
reading_of_none [] h e = absurd (let z : ◌≡◌ {A = ℕ} 0 1 = cc in omega arith)
reading_of_none (b ∷ bytes) h e =
    let z : reading false 0 (b ∷ bytes) ≡ IllFormed 1 = rw (ne_eqb 0 (suc (length bytes)) (λ f. omega arith)) in
    sym (by_first b bytes ∙ (ap (λ (row : Option (List Range)). by_first_byte row b bytes) (sym e) ∙ z))

-- a first byte of a row, and n bytes behind it that fit
reading_by_row : (bytes : List ℕ) (row : List Range) (n : ℕ) → false ≡ eqb (length bytes) 0 → Some row ≡ behind table (get_or bytes 0 0) → n ≡ fits row (take (length bytes - 1) (drop 1 bytes)) → character_of bytes ≡ reading (eqb n (length row)) (n + 1) bytes
reading_by_row [] row n h e f = absurd (let z : ◌≡◌ {A = ℕ} 0 1 = cc in omega arith)
reading_by_row (b ∷ bytes) row n h e f =
    let z : suc n ≡ n + 1 = omega arith in
    by_first b bytes
    ∙ (ap (λ (o : Option (List Range)). by_first_byte o b bytes) (sym e)
    ∙ (ap (λ (m : ℕ). reading (eqb m (length row)) (suc m) (b ∷ bytes)) (sym (f ∙ ap (fits row) (take_rest (b ∷ bytes) 1))) ∙ ap (λ (m : ℕ). reading (eqb n (length row)) m (b ∷ bytes)) z))

module _ (bytes : List ℕ) (row : List Range) (n : ℕ) (h : false ≡ eqb (length bytes) 0) (e : Some row ≡ behind table (get_or bytes 0 0)) (f : n ≡ fits row (take (length bytes - 1) (drop 1 bytes))) where
  pub reading_whole : n ≡ length row → Scalar (carried (take (n + 1) bytes)) (n + 1) ≡ character_of bytes
  reading_whole q = sym (reading_by_row bytes row n h e f ∙ ap (λ (t : Bool). reading t (n + 1) bytes) (eq-eqb n (length row) q))

  short : (n ≡ length row → ⊥) → character_of bytes ≡ reading false (n + 1) bytes
  short q = reading_by_row bytes row n h e f ∙ ap (λ (t : Bool). reading t (n + 1) bytes) (ne_eqb n (length row) q)

  pub reading_partial : (n ≡ length row → ⊥) → n + 1 ≡ length bytes → Partial ≡ character_of bytes
  reading_partial q k = sym (short q ∙ ap (λ (t : Bool). cond t Partial (IllFormed (max 1 (n + 1)))) (eq-eqb (n + 1) (length bytes) k))

  pub reading_ill_formed : (n ≡ length row → ⊥) → (n + 1 ≡ length bytes → ⊥) → IllFormed (n + 1) ≡ character_of bytes
  reading_ill_formed q k =
      let z : max 1 (n + 1) ≡ n + 1 = omega arith in
      sym (short q ∙ (ap (λ (t : Bool). cond t Partial (IllFormed (max 1 (n + 1)))) (ne_eqb (n + 1) (length bytes) k) ∙ ap (λ (m : ℕ). IllFormed m) z))

-- bytes in the ranges are no more than the bytes
pub fits_length : (row : List Range) (bytes : List ℕ) → fits row bytes ≤ length bytes
unfolding fits
fits_length [] bytes = omega arith
fits_length (range ∷ row) [] = omega arith
fits_length (range ∷ row) (b ∷ bytes) = at (holds range b) (fits_length row bytes)
  where
    at : (t : Bool) → fits row bytes ≤ length bytes → cond t (suc (fits row bytes)) 0 ≤ suc (length bytes)
    at true h = omega arith
    at false h = omega arith

-- where the row ended or a byte was outside, bytes behind do not matter
fits_stays : (row : List Range) (bytes more : List ℕ) → (fits row bytes ≡ length row) ⊎ (fits row bytes < length bytes) → fits row (bytes ++ more) ≡ fits row bytes
unfolding fits
fits_stays [] bytes more h = refl
fits_stays (range ∷ row) [] more (inl e) = absurd (omega arith)
fits_stays (range ∷ row) [] more (inr h) = absurd (omega arith)
fits_stays (range ∷ row) (b ∷ bytes) more h = at (holds range b) h (fits_stays row bytes more)
  where
    at : (t : Bool) → (cond t (suc (fits row bytes)) 0 ≡ suc (length row)) ⊎ (cond t (suc (fits row bytes)) 0 < suc (length bytes)) → ((fits row bytes ≡ length row) ⊎ (fits row bytes < length bytes) → fits row (bytes ++ more) ≡ fits row bytes) → cond t (suc (fits row (bytes ++ more))) 0 ≡ cond t (suc (fits row bytes)) 0
    at true (inl e) ih = ap suc (ih (inl (omega arith)))
    at true (inr h) ih = ap suc (ih (inr (omega arith)))
    at false h ih = refl

reading_stays : (t : Bool) (n : ℕ) (bytes more : List ℕ) → n ≤ length bytes → settled (reading t n bytes) ≡ true → reading t n (bytes ++ more) ≡ reading t n bytes
reading_stays true n bytes more h e = ap (λ (l : List ℕ). Scalar (carried l) n) (take-append-le n bytes more h)
reading_stays false n bytes more h e = at (cases_eq n (length bytes))
  where
    at : (n ≡ length bytes) ⊎ (n ≡ length bytes → ⊥) → reading false n (bytes ++ more) ≡ reading false n bytes
    at (inl q) = absurd (let r : settled (reading false n bytes) ≡ false = rw (eq-eqb n (length bytes) q) in let z : ◌≡◌ {A = ℕ} 0 1 = cc in omega arith)
    at (inr q) = rw (ne_eqb n (length bytes) q, ne_eqb n (length (bytes ++ more)) (λ f. q (omega (arith, length-append bytes more))))

-- a settled reading had the whole row, or a byte outside
settled_fits : (m all row : ℕ) (b : ℕ) (bytes : List ℕ) → all ≡ length bytes → settled (reading (eqb m row) (suc m) (b ∷ bytes)) ≡ true → m ≤ all → (m ≡ row) ⊎ (m < all)
settled_fits m all row b bytes l e h = by (cases_eq m row) (cases_lt m all)
  where
    by : (m ≡ row) ⊎ (m ≡ row → ⊥) → (m < all) ⊎ (all ≤ m) → (m ≡ row) ⊎ (m < all)
    by (inl q) lt = inl q
    by (inr q) (inl lt) = inr lt
    by (inr q) (inr le) = absurd (
        let r : settled (reading (eqb m row) (suc m) (b ∷ bytes)) ≡ false = rw (ne_eqb m row q, eq-eqb (suc m) (suc (length bytes)) (omega arith)) in
        let z : ◌≡◌ {A = ℕ} 0 1 = cc in omega arith)

-- bytes behind do not change a scalar value or an ill-formed subpart
pub reading_settled : (bytes more : List ℕ) → settled (character_of bytes) ≡ true → character_of (bytes ++ more) ≡ character_of bytes
unfolding character_of
reading_settled [] more e = absurd (let z : ◌≡◌ {A = ℕ} 0 1 = cc in omega arith)
reading_settled (b ∷ bytes) more e =
    by_first b (bytes ++ more) ∙ (at (behind table b) (sym (ap settled (by_first b bytes)) ∙ e) ∙ sym (by_first b bytes))
  where
    at : (row : Option (List Range)) → settled (by_first_byte row b bytes) ≡ true → by_first_byte row b (bytes ++ more) ≡ by_first_byte row b bytes
    at None e = reading_stays false 0 (b ∷ bytes) more (omega arith) e
    at (Some row) e =
        let f = fits_stays row bytes more (settled_fits (fits row bytes) (length bytes) (length row) b bytes refl e (fits_length row bytes)) in
        ap (λ (n : ℕ). reading (eqb n (length row)) (suc n) (b ∷ (bytes ++ more))) f
        ∙ reading_stays (eqb (fits row bytes) (length row)) (suc (fits row bytes)) (b ∷ bytes) more (let h = fits_length row bytes in omega arith) e

-- a reading tells a length within the bytes
pub reading_counted : (bytes : List ℕ) → Counted (length bytes) (character_of bytes)
unfolding character_of
reading_counted [] = refl
reading_counted (b ∷ bytes) = let P : Character → Type 0 = λ r. Counted (suc (length bytes)) r in subst P (sym (by_first b bytes)) (at (behind table b))
  where
    told : (t : Bool) (n : ℕ) → n ≤ suc (length bytes) → (t ≡ true → 1 ≤ n) → Counted (suc (length bytes)) (reading t n (b ∷ bytes))
    told true n h one = (one refl, h)
    told false n h one = part (eqb n (suc (length bytes)))
      where
        part : (u : Bool) → Counted (suc (length bytes)) (cond u Partial (IllFormed (max 1 n)))
        part true = omega arith
        part false = (omega arith, omega arith)

    at : (row : Option (List Range)) → Counted (suc (length bytes)) (by_first_byte row b bytes)
    at None = told false 0 (omega arith) (λ e. absurd (let z : ◌≡◌ {A = ℕ} 0 1 = cc in omega arith))
    at (Some row) = told (eqb (fits row bytes) (length row)) (suc (fits row bytes)) (let h = fits_length row bytes in omega arith) (λ e. omega arith)

pub reading_empty : (bytes : List ℕ) → true ≡ eqb (length bytes) 0 → Empty ≡ character_of bytes
unfolding character_of
reading_empty [] h = refl
reading_empty (b ∷ bytes) h = absurd (let e = eqb-true (suc (length bytes)) 0 (sym h) in omega arith)

-- the laws of a reading, for what was read
module _ (bytes : List ℕ) (r : Character) (e : r ≡ character_of bytes) where
  pub counted : Counted (length bytes) r
  counted = let P : Character → Type 0 = λ c. Counted (length bytes) c in subst P (sym e) (reading_counted bytes)

  pub stays : (more : List ℕ) → settled r ≡ true → character_of (bytes ++ more) ≡ r
  stays more h = reading_settled bytes more (sym (ap settled e) ∙ h) ∙ sym e
