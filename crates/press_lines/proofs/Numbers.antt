-- Numbers written in a base are read back. Assumes nothing.
use Rattle.std.proofs.Common.{◌≡◌, ℕ, zero, suc, ◌/◌, ◌%◌, ◌<◌, ◌≤◌, Bool, true, false, not, ◌&&◌, eqb, ◌⊎◌, List, [], ◌∷◌, ◌++◌, length, Some, Option, refl, ap, ◌∙◌, inl, inr, mod-lt, div-add-mod', le-div_iff_mul-le, arith, lit<, lit≤}
use native.Mathlib.Nat.{div-lt_self}
use Rattle.std.proofs.lemmas.Bool.{ne_eqb, le-leb, cases_lt, cond-true}
use Rattle.std.proofs.lemmas.Bool.Decides.{nat_tests}
use Rattle.lines.specs.Numbers.{up_to, digit_in, behind, value_from, plain, numeral, hex_number, dec_number}
use Rattle.writer.specs.Numbers.{in_base, dec, hex_num, hex_digit}
use Rattle.writer.proofs.Digits.{base_one, base_more, dec_in_base, hex_short}
use Rattle.press_lines.proofs.Fields.{tabless, tabless_join}

value_push : (base : ℕ) (n : Option ℕ) (ds : List ℕ) (d : ℕ) → value_from base n (ds ++ (d ∷ [])) ≡ behind base (value_from base n ds) (digit_in base d)
unfolding value_from
value_push base n [] d = refl
value_push base n (x ∷ ds) d = value_push base (behind base n (digit_in base x)) ds d

-- at least one byte, and the first not 0
abbrev leads : List ℕ → Bool
leads [] = false
leads (b ∷ bs) = not (eqb b 48)

leads_join : (a b : List ℕ) → leads a ≡ true → leads (a ++ b) ≡ true
leads_join [] b h = absurd (let z : ◌≡◌ {A = ℕ} 0 1 = cc in omega arith)
leads_join (x ∷ a) b h = h

leads_plain : (a : List ℕ) → leads a ≡ true → plain a ≡ true
leads_plain [] h = h
leads_plain (x ∷ []) h = refl
leads_plain (x ∷ y ∷ a) h = h

digit_tabless : (d : ℕ) → tabless (hex_digit d ∷ []) ≡ true
unfolding tabless
digit_tabless d = let ne = ne_eqb (hex_digit d) 9 (λ e. grind (arith, nat_tests, e)) in ap (λ (t : Bool). not t && true) ne

module _ (base : ℕ) (big : 1 < base) (most : base ≤ 16) where
  digit_back : (d : ℕ) → d < base → digit_in base (hex_digit d) ≡ Some d
  digit_back d h = grind (arith, nat_tests)

  digit_leads : (d : ℕ) → d < base → 0 < d → leads (hex_digit d ∷ []) ≡ true
  digit_leads d h g = grind (arith, nat_tests)

  value_one : (n : ℕ) → n < base → value_from base (Some 0) (in_base base n) ≡ Some n
  unfolding value_from
  value_one n s =
      ap (value_from base (Some 0)) (base_one base big n s)
      ∙ ap (behind base (Some 0)) (digit_back n s)
      ∙ ap Some (omega arith)

  value_more : (n : ℕ) → base ≤ n → value_from base (Some 0) (in_base base (n / base)) ≡ Some (n / base) → value_from base (Some 0) (in_base base n) ≡ Some n
  value_more n s rest =
      ap (value_from base (Some 0)) (base_more base big n s)
      ∙ (value_push base (Some 0) (in_base base (n / base)) (hex_digit (n % base))
      ∙ (ap (λ (o : Option ℕ). behind base o (digit_in base (hex_digit (n % base)))) rest
      ∙ (ap (behind base (Some (n / base))) (digit_back (n % base) (mod-lt n (omega arith)))
      ∙ ap Some (div-add-mod' n base))))

  -- what holds of one digit, and of a number where it holds of all but its last digit, holds of all numbers
  by_digits : (P : ℕ → Type 0) → ((n : ℕ) → n < base → P n) → ((n : ℕ) → base ≤ n → P (n / base) → P n) → (k n : ℕ) → n < k → P n
  by_digits P one more zero n h = absurd (omega arith)
  by_digits P one more (suc k) n h =
      by (λ s. by_digits P one more k (n / base) (let l = div-lt_self {n = n} {k = base} (omega arith) big in omega arith)) (cases_lt n base)
    where
      by : (base ≤ n → P (n / base)) → (n < base) ⊎ (base ≤ n) → P n
      by rest (inl s) = one n s
      by rest (inr s) = more n s (rest s)

  value_in : (n : ℕ) → value_from base (Some 0) (in_base base n) ≡ Some n
  value_in n = by_digits (λ n. value_from base (Some 0) (in_base base n) ≡ Some n) value_one value_more (suc n) n (omega arith)

  leads_in : (n : ℕ) → 0 < n → leads (in_base base n) ≡ true
  leads_in n =
      by_digits (λ n. 0 < n → leads (in_base base n) ≡ true)
      (λ n s g. ap leads (base_one base big n s) ∙ digit_leads n s g)
      (λ n s rest g. ap leads (base_more base big n s) ∙ leads_join (in_base base (n / base)) (hex_digit (n % base) ∷ []) (rest ((le-div_iff_mul-le (omega arith)).1 (omega arith))))
      (suc n) n (omega arith)

  plain_in : (n : ℕ) → plain (in_base base n) ≡ true
  plain_in n = by (cases_lt 0 n)
    where
      by : (0 < n) ⊎ (n ≤ 0) → plain (in_base base n) ≡ true
      by (inl s) = leads_plain (in_base base n) (leads_in n s)
      by (inr s) = ap plain (base_one base big n (omega arith))

  -- a number is read as it was written
  pub numeral_in : (n : ℕ) → numeral base (in_base base n) ≡ Some n
  numeral_in n = cond-true _ _ _ (plain_in n) ∙ value_in n

  pub tabless_in : (n : ℕ) → tabless (in_base base n) ≡ true
  tabless_in n =
      by_digits (λ n. tabless (in_base base n) ≡ true)
      (λ n s. ap tabless (base_one base big n s) ∙ digit_tabless n)
      (λ n s rest. ap tabless (base_more base big n s) ∙ tabless_join (in_base base (n / base)) (hex_digit (n % base) ∷ []) rest (digit_tabless (n % base)))
      (suc n) n (omega arith)

pub hex_back : (c : ℕ) → c < 4294967296 → hex_number (hex_num c) ≡ Some c
hex_back c h = cond-true _ _ _ (le-leb (length (hex_num c)) 8 (hex_short 7 c h)) ∙ numeral_in 16 (lit< tt) (lit≤ tt) c

pub dec_back : (n : ℕ) → n < 256 → dec_number (dec n) ≡ Some n
dec_back n h =
    ap dec_number (dec_in_base n) ∙ (ap (up_to 255) (numeral_in 10 (lit< tt) (lit≤ tt) n) ∙ cond-true _ _ _ (le-leb n 255 (omega arith)))

pub hex_tabless : (c : ℕ) → tabless (hex_num c) ≡ true
hex_tabless c = tabless_in 16 (lit< tt) (lit≤ tt) c

pub dec_tabless : (n : ℕ) → tabless (dec n) ≡ true
dec_tabless n = ap tabless (dec_in_base n) ∙ tabless_in 10 (lit< tt) (lit≤ tt) n
