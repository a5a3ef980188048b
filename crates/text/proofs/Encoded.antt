-- A scalar value written in UTF-8 is read back. Assumes nothing.
use Rattle.std.proofs.Common.{◌≡◌, ℕ, suc, ◌+◌, ◌/◌, ◌<◌, ◌≤◌, Bool, true, cond, eqb, ltb, leb, ◌⊎◌, List, [], ◌∷◌, ◌++◌, length, Some, Option, sym, refl, ap, ◌∙◌, subst, inl, inr, arith}
use Rattle.std.proofs.lemmas.List.{take_at}
use Rattle.std.proofs.lemmas.Bool.{eq-eqb, and_from, and_parts, or_cases, le-leb, leb-true, ltb-true, lt-ltb, le-ltb, cases_lt, cond-true, cond-false}
use Rattle.std.proofs.lemmas.Bool.Decides.{nat_tests}
use Rattle.character.specs.Characters.{scalar, within}
use Rattle.writer.specs.Numbers.{utf8_of, trail}
use Rattle.text.specs.declared.kinds.Character.TheVariants.{Scalar}
use Rattle.text.specs.Rows.{behind}
use Rattle.text.specs.Table.{Range, ◌to◌, table, holds, fits}
use Rattle.text.specs.Reading.{carried, reading, character_of}
use Rattle.text.proofs.Readings.{by_first_byte, by_first}

in_range : (first last b : ℕ) → first ≤ b → b ≤ last → holds (first to last) b ≡ true
in_range first last b h k = and_from (leb first b) (leb b last) (le-leb first b h) (le-leb b last k)

fits_one : (range : Range) (row : List Range) (b : ℕ) (bytes : List ℕ) → holds range b ≡ true → fits (range ∷ row) (b ∷ bytes) ≡ suc (fits row bytes)
unfolding fits
fits_one range row b bytes e = ap (λ (t : Bool). cond t (suc (fits row bytes)) 0) e

-- bytes that fit a whole row are a character, whatever stands behind
whole_row : (a : ℕ) (bytes rest : List ℕ) (row : List Range) → Some row ≡ behind table a → fits row (bytes ++ rest) ≡ length row → length bytes ≡ length row → character_of (a ∷ (bytes ++ rest)) ≡ Scalar (carried (a ∷ bytes)) (suc (length bytes))
whole_row a bytes rest row e f l =
    by_first a (bytes ++ rest)
    ∙ (ap (λ (o : Option (List Range)). by_first_byte o a (bytes ++ rest)) (sym e)
    ∙ (ap (λ (n : ℕ). reading (eqb n (length row)) (suc n) (a ∷ (bytes ++ rest))) (f ∙ sym l)
    ∙ (ap (λ (t : Bool). reading t (suc (length bytes)) (a ∷ (bytes ++ rest))) (eq-eqb (length bytes) (length row) l)
    ∙ ap (λ (front : List ℕ). Scalar (carried (a ∷ front)) (suc (length bytes))) (take_at bytes rest (length bytes) refl))))

abbrev pub behind_two : Range
behind_two = 0x80 to 0xBF

one : (a : ℕ) (rest : List ℕ) → Some [] ≡ behind table a → character_of (a ∷ rest) ≡ Scalar a 1
unfolding fits
one a rest e = whole_row a [] rest [] e refl refl

two : (a b : ℕ) (rest : List ℕ) → Some (behind_two ∷ []) ≡ behind table a → holds behind_two b ≡ true → character_of (a ∷ b ∷ rest) ≡ Scalar (carried (a ∷ b ∷ [])) 2
unfolding fits
two a b rest e p = whole_row a (b ∷ []) rest (behind_two ∷ []) e (fits_one behind_two [] b rest p) refl

three : (a b d : ℕ) (rest : List ℕ) (range : Range) → Some (range ∷ behind_two ∷ []) ≡ behind table a → holds range b ≡ true → holds behind_two d ≡ true → character_of (a ∷ b ∷ d ∷ rest) ≡ Scalar (carried (a ∷ b ∷ d ∷ [])) 3
unfolding fits
three a b d rest range e p q =
    whole_row a (b ∷ d ∷ []) rest (range ∷ behind_two ∷ []) e (fits_one range (behind_two ∷ []) b (d ∷ rest) p ∙ ap suc (fits_one behind_two [] d rest q)) refl

four : (a b d f : ℕ) (rest : List ℕ) (range : Range) → Some (range ∷ behind_two ∷ behind_two ∷ []) ≡ behind table a → holds range b ≡ true → holds behind_two d ≡ true → holds behind_two f ≡ true → character_of (a ∷ b ∷ d ∷ f ∷ rest) ≡ Scalar (carried (a ∷ b ∷ d ∷ f ∷ [])) 4
unfolding fits
four a b d f rest range e p q r =
    whole_row a (b ∷ d ∷ f ∷ []) rest (range ∷ behind_two ∷ behind_two ∷ []) e
    (fits_one range (behind_two ∷ behind_two ∷ []) b (d ∷ (f ∷ rest)) p ∙ ap suc (fits_one behind_two (behind_two ∷ []) d (f ∷ rest) q ∙ ap suc (fits_one behind_two [] f rest r))) refl

trail_fits : (c : ℕ) → holds behind_two (trail c) ≡ true
trail_fits c = in_range 0x80 0xBF (trail c) (omega arith) (omega arith)

-- UTF-8 by the number of bytes
module _ (c : ℕ) where
  pub utf8_one : c < 128 → utf8_of c ≡ c ∷ []
  utf8_one h = cond-true _ _ _ (lt-ltb c 128 h)

  pub utf8_two : 128 ≤ c → c < 2048 → utf8_of c ≡ (192 + c / 64) ∷ trail c ∷ []
  utf8_two h k = cond-false _ _ _ (le-ltb c 128 h) ∙ cond-true _ _ _ (lt-ltb c 2048 k)

  pub utf8_three : 2048 ≤ c → c < 65536 → utf8_of c ≡ (224 + c / 4096) ∷ trail (c / 64) ∷ trail c ∷ []
  utf8_three h k = cond-false _ _ _ (le-ltb c 128 (omega arith)) ∙ (cond-false _ _ _ (le-ltb c 2048 h) ∙ cond-true _ _ _ (lt-ltb c 65536 k))

  pub utf8_four : 65536 ≤ c → utf8_of c ≡ (240 + c / 262144) ∷ trail (c / 4096) ∷ trail (c / 64) ∷ trail c ∷ []
  utf8_four h = cond-false _ _ _ (le-ltb c 128 (omega arith)) ∙ (cond-false _ _ _ (le-ltb c 2048 (omega arith)) ∙ cond-false _ _ _ (le-ltb c 65536 h))

module _ (c : ℕ) (rest : List ℕ) where
  back_one : c < 128 → character_of (c ∷ rest) ≡ Scalar c 1
  back_one h = one c rest (grind (arith, nat_tests))

  back_two : 128 ≤ c → c < 2048 → character_of ((192 + c / 64) ∷ trail c ∷ rest) ≡ Scalar c 2
  back_two h k =
      let a = 192 + c / 64 in
      let lo : 194 ≤ a = omega arith in
      let hi : a ≤ 223 = omega arith in
      let v : carried (a ∷ trail c ∷ []) ≡ c = omega arith in
      two a (trail c) rest (grind (arith, nat_tests)) (trail_fits c) ∙ ap (λ (n : ℕ). Scalar n 2) v

  back_three : 2048 ≤ c → c < 65536 → (c < 55296) ⊎ (57344 ≤ c) → character_of ((224 + c / 4096) ∷ trail (c / 64) ∷ trail c ∷ rest) ≡ Scalar c 3
  back_three h k s = by (cases_lt c 4096) (cases_lt c 53248) s ∙ ap (λ (n : ℕ). Scalar n 3) v
    where
      v : carried ((224 + c / 4096) ∷ trail (c / 64) ∷ trail c ∷ []) ≡ c
      v = omega arith

      row : (range : Range) → Some (range ∷ behind_two ∷ []) ≡ behind table (224 + c / 4096) → holds range (trail (c / 64)) ≡ true → character_of ((224 + c / 4096) ∷ trail (c / 64) ∷ trail c ∷ rest) ≡ Scalar (carried ((224 + c / 4096) ∷ trail (c / 64) ∷ trail c ∷ [])) 3
      row range e p = three (224 + c / 4096) (trail (c / 64)) (trail c) rest range e p (trail_fits c)

      by : (c < 4096) ⊎ (4096 ≤ c) → (c < 53248) ⊎ (53248 ≤ c) → (c < 55296) ⊎ (57344 ≤ c) → character_of ((224 + c / 4096) ∷ trail (c / 64) ∷ trail c ∷ rest) ≡ Scalar (carried ((224 + c / 4096) ∷ trail (c / 64) ∷ trail c ∷ [])) 3
      by (inl p) q s =
          let e : 224 + c / 4096 ≡ 224 = omega arith in
          row (0xA0 to 0xBF) (sym (ap (behind table) e)) (in_range 0xA0 0xBF (trail (c / 64)) (omega arith) (omega arith))
      by (inr p) (inl q) s =
          let lo : 225 ≤ 224 + c / 4096 = omega arith in
          let hi : 224 + c / 4096 ≤ 236 = omega arith in
          row behind_two (grind (arith, nat_tests)) (trail_fits (c / 64))
      by (inr p) (inr q) (inl s) =
          let e : 224 + c / 4096 ≡ 237 = omega arith in
          row (0x80 to 0x9F) (sym (ap (behind table) e)) (in_range 0x80 0x9F (trail (c / 64)) (omega arith) (omega arith))
      by (inr p) (inr q) (inr s) =
          let lo : 238 ≤ 224 + c / 4096 = omega arith in
          let hi : 224 + c / 4096 ≤ 239 = omega arith in
          row behind_two (grind (arith, nat_tests)) (trail_fits (c / 64))

  back_four : 65536 ≤ c → c < 1114112 → character_of ((240 + c / 262144) ∷ trail (c / 4096) ∷ trail (c / 64) ∷ trail c ∷ rest) ≡ Scalar c 4
  back_four h k = by (cases_lt c 262144) (cases_lt c 1048576) ∙ ap (λ (n : ℕ). Scalar n 4) v
    where
      v : carried ((240 + c / 262144) ∷ trail (c / 4096) ∷ trail (c / 64) ∷ trail c ∷ []) ≡ c
      v = omega arith

      row : (range : Range) → Some (range ∷ behind_two ∷ behind_two ∷ []) ≡ behind table (240 + c / 262144) → holds range (trail (c / 4096)) ≡ true → character_of ((240 + c / 262144) ∷ trail (c / 4096) ∷ trail (c / 64) ∷ trail c ∷ rest) ≡ Scalar (carried ((240 + c / 262144) ∷ trail (c / 4096) ∷ trail (c / 64) ∷ trail c ∷ [])) 4
      row range e p = four (240 + c / 262144) (trail (c / 4096)) (trail (c / 64)) (trail c) rest range e p (trail_fits (c / 64)) (trail_fits c)

      by : (c < 262144) ⊎ (262144 ≤ c) → (c < 1048576) ⊎ (1048576 ≤ c) → character_of ((240 + c / 262144) ∷ trail (c / 4096) ∷ trail (c / 64) ∷ trail c ∷ rest) ≡ Scalar (carried ((240 + c / 262144) ∷ trail (c / 4096) ∷ trail (c / 64) ∷ trail c ∷ [])) 4
      by (inl p) q =
          let e : 240 + c / 262144 ≡ 240 = omega arith in
          row (0x90 to 0xBF) (sym (ap (behind table) e)) (in_range 0x90 0xBF (trail (c / 4096)) (omega arith) (omega arith))
      by (inr p) (inl q) =
          let lo : 241 ≤ 240 + c / 262144 = omega arith in
          let hi : 240 + c / 262144 ≤ 243 = omega arith in
          row behind_two (grind (arith, nat_tests)) (trail_fits (c / 4096))
      by (inr p) (inr q) =
          let e : 240 + c / 262144 ≡ 244 = omega arith in
          row (0x80 to 0x8F) (sym (ap (behind table) e)) (in_range 0x80 0x8F (trail (c / 4096)) (omega arith) (omega arith))

scalar_cases : (c : ℕ) → scalar c ≡ true → (c < 55296) ⊎ ((57344 ≤ c) × (c < 1114112))
scalar_cases c e = by (or_cases (ltb c 55296) (within 57344 1114111 c) e)
  where
    by : (ltb c 55296 ≡ true) ⊎ (within 57344 1114111 c ≡ true) → (c < 55296) ⊎ ((57344 ≤ c) × (c < 1114112))
    by (inl p) = inl (ltb-true c 55296 p)
    by (inr p) =
        let q = and_parts (leb 57344 c) (leb c 1114111) p in
        let hi = leb-true c 1114111 q.1 in
        inr (leb-true 57344 c q.0, omega arith)

-- a scalar value in UTF-8, with anything behind it, is read as that value
pub read_back : (c : ℕ) (rest : List ℕ) → scalar c ≡ true → character_of (utf8_of c ++ rest) ≡ Scalar c (length (utf8_of c))
read_back c rest e = by (scalar_cases c e) (cases_lt c 128) (cases_lt c 2048) (cases_lt c 65536)
  where
    at : (bytes : List ℕ) → utf8_of c ≡ bytes → character_of (bytes ++ rest) ≡ Scalar c (length bytes) → character_of (utf8_of c ++ rest) ≡ Scalar c (length (utf8_of c))
    at bytes q p = let P : List ℕ → Type 0 = λ l. character_of (l ++ rest) ≡ Scalar c (length l) in subst P (sym q) p

    by : (c < 55296) ⊎ ((57344 ≤ c) × (c < 1114112)) → (c < 128) ⊎ (128 ≤ c) → (c < 2048) ⊎ (2048 ≤ c) → (c < 65536) ⊎ (65536 ≤ c) → character_of (utf8_of c ++ rest) ≡ Scalar c (length (utf8_of c))
    by s (inl h) q r = at (c ∷ []) (utf8_one c h) (back_one c rest h)
    by s (inr h) (inl q) r = at ((192 + c / 64) ∷ trail c ∷ []) (utf8_two c h q) (back_two c rest h q)
    by s (inr h) (inr q) (inl r) = at ((224 + c / 4096) ∷ trail (c / 64) ∷ trail c ∷ []) (utf8_three c q r) (back_three c rest q r (gap s))
      where
        gap : (c < 55296) ⊎ ((57344 ≤ c) × (c < 1114112)) → (c < 55296) ⊎ (57344 ≤ c)
        gap (inl s) = inl s
        gap (inr s) = inr s.0
    by (inl s) (inr h) (inr q) (inr r) = absurd (omega arith)
    by (inr s) (inr h) (inr q) (inr r) =
        at ((240 + c / 262144) ∷ trail (c / 4096) ∷ trail (c / 64) ∷ trail c ∷ []) (utf8_four c r) (back_four c rest r s.1)
