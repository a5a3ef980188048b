-- A first byte stands in one row of the table at most, so that its row alone counts. Assumes nothing.
use Rattle.std.proofs.Common.{◌≡◌, ℕ, suc, ◌<◌, ◌≤◌, Bool, true, false, cond, ◌&&◌, ◌||◌, eqb, leb, ◌⊎◌, List, [], ◌∷◌, length, Some, None, Option, sym, refl, ap, ◌∙◌, inl, inr, arith}
use Rattle.std.proofs.lemmas.Bool.{and_parts, and_left, leb-true, lt-leb, eq-eqb, ne_eqb, cases_eq}
use Rattle.text.specs.Rows.{behind}
use Rattle.text.specs.Table.{Range, table, holds, fits, whole, longest}

-- the first bytes of the rows ascend from n on
unfoldable ascend : ℕ → List (List Range) → Bool
ascend n [] = true
ascend n ([] ∷ rows) = false
ascend n ((range ∷ row) ∷ rows) = leb n range.first && (leb range.first range.last && ascend (suc range.last) rows)

-- the same for one row and those behind it
record Ascends (n : ℕ) (range : Range) (rows : List (List Range)) : Type 0 where
  from : n ≤ range.first
  to : range.first ≤ range.last
  rest : ascend (suc range.last) rows ≡ true

ascends : (n : ℕ) (range : Range) (row : List Range) (rows : List (List Range)) → ascend n ((range ∷ row) ∷ rows) ≡ true → Ascends n range rows
unfolding ascend
ascends n range row rows a =
    let p = and_parts (leb n range.first) (leb range.first range.last && ascend (suc range.last) rows) a in
    let q = and_parts (leb range.first range.last) (ascend (suc range.last) rows) p.1 in
    record { from = leb-true n range.first p.0; to = leb-true range.first range.last q.0; rest = q.1 }

-- how many bytes begin a character, and whether they are one, by the ranges behind the first byte
abbrev pub most : Option (List Range) → List ℕ → ℕ
most None bytes = 0
most (Some row) bytes = suc (fits row bytes)

abbrev pub full : Option (List Range) → List ℕ → Bool
full None bytes = false
full (Some row) bytes = eqb (fits row bytes) (length row)

-- a byte before all rows is in none
none_before : (n b : ℕ) (rows : List (List Range)) → ascend n rows ≡ true → b < n → behind rows b ≡ None
unfolding ascend
none_before n b [] a h = refl
none_before n b ([] ∷ rows) a h = absurd (let z : ◌≡◌ {A = ℕ} 0 1 = cc in omega arith)
none_before n b ((range ∷ row) ∷ rows) a h =
    let p = ascends n range row rows a in
    let out : holds range b ≡ false = and_left (leb range.first b) (leb b range.last) (lt-leb range.first b (omega arith)) in
    ap (λ (t : Bool). cond t (Some row) (behind rows b)) out ∙ none_before (suc range.last) b rows p.rest (omega arith)

suc_eqb : (m n : ℕ) → eqb (suc m) (suc n) ≡ eqb m n
suc_eqb m n = by (cases_eq m n)
  where
    by : (m ≡ n) ⊎ (m ≡ n → ⊥) → eqb (suc m) (suc n) ≡ eqb m n
    by (inl e) = eq-eqb (suc m) (suc n) (omega arith) ∙ sym (eq-eqb m n e)
    by (inr e) = ne_eqb (suc m) (suc n) (λ f. e (omega arith)) ∙ sym (ne_eqb m n e)

or_false : (t : Bool) → (t || false) ≡ t
or_false true = refl
or_false false = refl

-- what the rows say of bytes, as the row of the first byte says it
pub record ByRow (rows : List (List Range)) (b : ℕ) (bytes : List ℕ) (row : Option (List Range)) : Type 0 where
  pub longest_is : longest rows (b ∷ bytes) ≡ most row bytes
  pub whole_is : whole rows (b ∷ bytes) ≡ full row bytes

by_row : (n : ℕ) (rows : List (List Range)) → ascend n rows ≡ true → (b : ℕ) (bytes : List ℕ) → ByRow rows b bytes (behind rows b)
unfolding ascend longest whole fits
by_row n [] a b bytes = record { longest_is = refl; whole_is = refl }
by_row n ([] ∷ rows) a b bytes = absurd (let z : ◌≡◌ {A = ℕ} 0 1 = cc in omega arith)
by_row n ((range ∷ row) ∷ rows) a b bytes =
    let p = ascends n range row rows a in
    at (holds range b) refl (behind rows b) refl (by_row (suc range.last) rows p.rest b bytes)
  where
    later : holds range b ≡ true → behind rows b ≡ None
    later e =
        let p = ascends n range row rows a in
        let le = leb-true b range.last (and_parts (leb range.first b) (leb b range.last) e).1 in
        none_before (suc range.last) b rows p.rest (omega arith)

    at : (t : Bool) → holds range b ≡ t → (o : Option (List Range)) → behind rows b ≡ o → ByRow rows b bytes o → ByRow ((range ∷ row) ∷ rows) b bytes (cond t (Some row) o)
    at true e None q ih = record {
      longest_is = rw (e, ih.longest_is) (omega arith);
      whole_is = rw (e, ih.whole_is) (or_false (eqb (suc (fits row bytes)) (suc (length row))) ∙ suc_eqb (fits row bytes) (length row));
    }
    at true e (Some other) q ih = absurd (let l = later e in let z : ◌≡◌ {A = ℕ} 0 1 = cc in omega arith)
    at false e o q ih = record {
      longest_is = rw (e, ih.longest_is) (omega arith);
      whole_is = rw (e, ih.whole_is, ne_eqb 0 (suc (length row)) (λ f. omega arith));
    }

pub by_table : (b : ℕ) (bytes : List ℕ) → ByRow table b bytes (behind table b)
unfolding ascend
by_table b bytes = by_row 0 table refl b bytes
