-- The value of digits, one digit at a time. Assumes nothing.
use Rattle.std.proofs.Common.{◌≡◌, ℕ, zero, suc, ◌+◌, ◌*◌, ◌^◌, ◌<◌, ◌≤◌, Bool, true, false, cond, List, [], ◌∷◌, length, get_or, drop, Some, None, Option, sym, refl, ap, ◌∙◌, mul-le-mul_right, mul_assoc, add-mul, le-mul_of_pos_right, arith, lit≤}
use Rattle.std.proofs.Math.Nat.{pow-succ', one-le-pow}
use Rattle.std.proofs.lemmas.List.{at_drop_more, at_drop_all}
use Rattle.std.proofs.lemmas.Bool.Decides.{nat_tests}
use Rattle.std.proofs.lemmas.Bool.{lt-leb, le-leb, cond-true, cond-false}
use Rattle.lines.specs.Numbers.{up_to, digit_in, behind, value_from, plain, numeral, hex_number}

pub value_of_none : (base : ℕ) (bs : List ℕ) → value_from base None bs ≡ None
unfolding value_from
value_of_none base [] = refl
value_of_none base (b ∷ bs) = value_of_none base bs

-- the next digit, read as o
pub value_more : (base most v : ℕ) (text : List ℕ) (i : ℕ) (o : Option ℕ) → i < length text → o ≡ digit_in base (get_or text i 0) → up_to most (value_from base (behind base (Some v) o) (drop (i + 1) text)) ≡ up_to most (value_from base (Some v) (drop i text))
unfolding value_from
value_more base most v text i o h e =
    ap (λ (p : Option ℕ). up_to most (value_from base (behind base (Some v) p) (drop (i + 1) text))) e
    ∙ sym (at_drop_more (λ (bs : List ℕ). up_to most (value_from base (Some v) bs)) text i 0 h)

pub value_all : (base most v : ℕ) (text : List ℕ) (i : ℕ) → length text ≤ i → v ≤ most → Some v ≡ up_to most (value_from base (Some v) (drop i text))
unfolding value_from
value_all base most v text i h le =
    sym (at_drop_all (λ (bs : List ℕ). up_to most (value_from base (Some v) bs)) text i h ∙ cond-true _ _ _ (le-leb v most le))

-- digits never make a value less
pub past_stays : (base most : ℕ) → 1 ≤ base → (v : ℕ) (bs : List ℕ) → most < v → up_to most (value_from base (Some v) bs) ≡ None
unfolding value_from
past_stays base most one v [] h = cond-false _ _ _ (lt-leb v most h)
past_stays base most one v (b ∷ bs) h = by (digit_in base b)
    (λ d. past_stays base most one (v * base + d) bs (omega (arith, le-mul_of_pos_right v one)))
  where
    by : (o : Option ℕ) → ((d : ℕ) → up_to most (value_from base (Some (v * base + d)) bs) ≡ None) → up_to most (value_from base (behind base (Some v) o) bs) ≡ None
    by None f = ap (up_to most) (value_of_none base bs)
    by (Some d) f = f d

digit_below : (base b d : ℕ) → digit_in base b ≡ Some d → d < base
digit_below base b d e = grind (arith, nat_tests)

-- a value with k places or fewer behind it fits a limit that holds them all
pub places_fit : (base most : ℕ) → 1 ≤ base → (k v : ℕ) (bs : List ℕ) → length bs ≤ k → (v + 1) * base ^ k ≤ most + 1 → up_to most (value_from base (Some v) bs) ≡ value_from base (Some v) bs
unfolding value_from
places_fit base most one k v [] le h =
    let p : v + 1 ≤ (v + 1) * base ^ k = le-mul_of_pos_right (v + 1) (one-le-pow k base one) in
    cond-true _ _ _ (le-leb v most (omega arith))
places_fit base most one zero v (b ∷ bs) le h = absurd (omega arith)
places_fit base most one (suc k) v (b ∷ bs) le h = by (digit_in base b) refl
    (λ d lt. places_fit base most one k (v * base + d) bs (omega arith) (room d lt))
  where
    room : (d : ℕ) → d < base → (v * base + d + 1) * base ^ k ≤ most + 1
    room d lt =
        let step : v * base + d + 1 ≤ (v + 1) * base = omega (arith, add-mul v 1 base) in
        omega (arith, mul-le-mul_right (base ^ k) step, mul_assoc (v + 1) base (base ^ k), ap (λ (x : ℕ). (v + 1) * x) (pow-succ' base k))

    by : (o : Option ℕ) → digit_in base b ≡ o → ((d : ℕ) → d < base → up_to most (value_from base (Some (v * base + d)) bs) ≡ value_from base (Some (v * base + d)) bs) → up_to most (value_from base (behind base (Some v) o) bs) ≡ value_from base (behind base (Some v) o) bs
    by None e f = ap (up_to most) (value_of_none base bs) ∙ sym (value_of_none base bs)
    by (Some d) e f = f d (digit_below base b d e)

kept_where : (most : ℕ) (b : Bool) (o : Option ℕ) → up_to most o ≡ o → up_to most (cond b o None) ≡ cond b o None
kept_where most true o e = e
kept_where most false o e = refl

-- eight digits write at most FFFFFFFF
pub eight_digits_fit : (text : List ℕ) → length text ≤ 8 → up_to 4294967295 (numeral 16 text) ≡ hex_number text
eight_digits_fit text le =
    kept_where 4294967295 (plain text) (value_from 16 (Some 0) text) (places_fit 16 4294967295 (omega arith) 8 0 text le (lit≤ tt))
    ∙ sym (cond-true _ _ _ (le-leb (length text) 8 le))
