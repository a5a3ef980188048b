-- Bytes against the ranges of a row. Assumes nothing.
use Rattle.std.proofs.Common.{◌≡◌, ℕ, zero, suc, ◌+◌, ◌<◌, ◌≤◌, Bool, cond, eqb, ◌==◌, List, [], ◌∷◌, length, get_or, take, drop, replicate, sym, refl, ap, ◌∙◌, arith}
use Rattle.std.specs.List.{prefix_len, enumerate_from}
use Rattle.std.proofs.lemmas.List.{drop_more, drop_all, get_or-replicate, length-replicate}
use Rattle.std.proofs.lemmas.List.Folds.{length-prefix_len}
use Rattle.std.proofs.lemmas.Bool.{ne_eqb}
use Rattle.text.specs.Rows.{ranges_of}
use Rattle.text.specs.Table.{Range, ◌to◌, holds, fits}

-- the range at a place of a row
abbrev placed : Range → ℕ → Range
placed range n = cond (eqb n 0) range (0x80 to 0xBF)

-- whether a byte at a place of a row, told from its first range, may stand there
abbrev pub stands : Range → ℕ × ℕ → Bool
stands range p = holds (cond (p.0 == 0) range (0x80 to 0xBF)) p.1

pub ranges_count : (more : ℕ) (range : Range) → length (ranges_of more range) ≡ more
ranges_count zero range = refl
ranges_count (suc more) range = ap suc (length-replicate more (0x80 to 0xBF))

ranges_read : (more n : ℕ) (range : Range) → n < more → get_or (ranges_of more range) n range ≡ placed range n
ranges_read zero n range h = absurd (omega arith)
ranges_read (suc more) zero range h = refl
ranges_read (suc more) (suc n) range h = get_or-replicate more n (0x80 to 0xBF) range (omega arith) ∙ sym (ap (λ (t : Bool). cond t range (0x80 to 0xBF)) (ne_eqb (suc n) 0 (λ e. omega arith)))

fits_none : (row : List Range) → fits row [] ≡ 0
unfolding fits
fits_none [] = refl
fits_none (range ∷ row) = refl

module _ (more : ℕ) (range : Range) (bytes : List ℕ) (n : ℕ) where
  -- the row has no more ranges
  pub fit_row_ends : more ≤ n → n + fits (drop n (ranges_of more range)) (drop n bytes) ≡ n
  unfolding fits
  fit_row_ends h =
      let e = drop_all n (ranges_of more range) (omega (arith, ranges_count more range)) in
      let z : n + 0 ≡ n = omega arith in
      ap (λ (row : List Range). n + fits row (drop n bytes)) e ∙ z

  -- there are no more bytes
  pub fit_bytes_end : length bytes ≤ n → n + fits (drop n (ranges_of more range)) (drop n bytes) ≡ n
  fit_bytes_end h =
      let z : n + 0 ≡ n = omega arith in
      ap (λ (l : List ℕ). n + fits (drop n (ranges_of more range)) l) (drop_all n bytes h) ∙ (ap (λ (m : ℕ). n + m) (fits_none (drop n (ranges_of more range))) ∙ z)

  -- one byte more
  pub fit_more : n < more → n < length bytes → fits (drop n (ranges_of more range)) (drop n bytes) ≡ cond (holds (placed range n) (get_or bytes n 0)) (suc (fits (drop (n + 1) (ranges_of more range)) (drop (n + 1) bytes))) 0
  unfolding fits
  fit_more h k =
      let r = drop_more (ranges_of more range) n range (omega (arith, ranges_count more range)) in
      let b = drop_more bytes n 0 k in
      ap (λ (row : List Range). fits row (drop n bytes)) r
      ∙ (ap (λ (l : List ℕ). fits (get_or (ranges_of more range) n range ∷ drop (n + 1) (ranges_of more range)) l) b
      ∙ ap (λ (x : Range). cond (holds x (get_or bytes n 0)) (suc (fits (drop (n + 1) (ranges_of more range)) (drop (n + 1) bytes))) 0) (ranges_read more n range h))

stands_later : (range : Range) (n b : ℕ) → stands range (n + 1, b) ≡ holds (0x80 to 0xBF) b
stands_later range n b = ap (λ (t : Bool). holds (cond t range (0x80 to 0xBF)) b) (ne_eqb (n + 1) 0 (λ e. omega arith))

later_fit : (range : Range) (more n : ℕ) (bytes : List ℕ) → prefix_len (stands range) (enumerate_from (n + 1) (take more bytes)) ≡ fits (replicate more (0x80 to 0xBF)) bytes
unfolding fits
later_fit range zero n bytes = refl
later_fit range (suc more) n [] = refl
later_fit range (suc more) n (b ∷ bytes) =
    let z : 1 + prefix_len (stands range) (enumerate_from (n + 1 + 1) (take more bytes)) ≡ suc (fits (replicate more (0x80 to 0xBF)) bytes) = omega (arith, later_fit range more (n + 1) bytes) in
    λ i. cond (stands_later range n b i) (z i) 0

row_fit : (more : ℕ) (range : Range) (bytes : List ℕ) → prefix_len (stands range) (enumerate_from 0 (take more bytes)) ≡ fits (ranges_of more range) bytes
unfolding fits
row_fit zero range bytes = refl
row_fit (suc more) range [] = refl
row_fit (suc more) range (b ∷ bytes) =
    let z : 1 + prefix_len (stands range) (enumerate_from 1 (take more bytes)) ≡ suc (fits (replicate more (0x80 to 0xBF)) bytes) = omega (arith, later_fit range more 0 bytes) in
    ap (λ (k : ℕ). cond (holds range b) k 0) z

-- how many bytes `take_while` gives
pub fit_count : (more : ℕ) (range : Range) (bytes : List ℕ) → length (take (prefix_len (stands range) (enumerate_from 0 (take more bytes))) (enumerate_from 0 (take more bytes))) ≡ fits (ranges_of more range) bytes
fit_count more range bytes = length-prefix_len (stands range) (enumerate_from 0 (take more bytes)) ∙ row_fit more range bytes
