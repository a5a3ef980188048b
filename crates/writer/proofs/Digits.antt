-- Digits of numbers and bytes, step by step. Assumes nothing.
use Rattle.std.proofs.Common.{◌≡◌, ℕ, zero, suc, ◌+◌, ◌*◌, ◌/◌, ◌%◌, ◌^◌, ◌<◌, ◌≤◌, cond, ◌⊎◌, List, [], ◌∷◌, ◌++◌, length, get_or, drop, sym, refl, ap, ◌∙◌, inl, inr, div-lt_iff_lt-mul, pow-suc, arith, lit<, length-append, append_assoc, append-nil, reverse, take}
use native.Mathlib.Nat.{pow-zero, div-lt_self}
use Rattle.std.proofs.lemmas.List.{at_drop_more, at_drop_all, drop-append-le, drop_all, reverse-append, take-append-le, take_all, take_at}
use Rattle.std.specs.List.{refill}
use Rattle.std.proofs.lemmas.Bool.{lt-ltb, le-ltb, cases_lt, cond-true, cond-false}
use Rattle.writer.specs.Numbers.{digits, dec, digits_in, in_base, hex_num, hex_digit, hex_of}

module _ (base : ℕ) (big : 1 < base) where
  first : (k n : ℕ) → n < base → digits_in base (suc k) n ≡ hex_digit n ∷ []
  unfolding digits_in
  first k n h = ap (λ b. cond b (hex_digit n ∷ []) (digits_in base k (n / base) ++ (hex_digit (n % base) ∷ []))) (lt-ltb n base h)

  further : (k n : ℕ) → base ≤ n → digits_in base (suc k) n ≡ digits_in base k (n / base) ++ (hex_digit (n % base) ∷ [])
  unfolding digits_in
  further k n h = ap (λ b. cond b (hex_digit n ∷ []) (digits_in base k (n / base) ++ (hex_digit (n % base) ∷ []))) (le-ltb n base h)

  pub less : (n : ℕ) → base ≤ n → n / base < n
  less n h = div-lt_self (omega arith) big

  -- any two numbers of steps that suffice give the same digits
  suffice : (j k n : ℕ) → n < j → n < k → digits_in base j n ≡ digits_in base k n
  suffice zero k n h g = absurd (omega arith)
  suffice (suc j) zero n h g = absurd (omega arith)
  suffice (suc j) (suc k) n h g =
      by (λ s. suffice j k (n / base) (omega (arith, less n s)) (omega (arith, less n s))) (cases_lt n base)
    where
      by : (base ≤ n → digits_in base j (n / base) ≡ digits_in base k (n / base)) → (n < base) ⊎ (base ≤ n) → digits_in base (suc j) n ≡ digits_in base (suc k) n
      by rest (inl s) = first j n s ∙ sym (first k n s)
      by rest (inr s) = further j n s ∙ (ap (λ (l : List ℕ). l ++ (hex_digit (n % base) ∷ [])) (rest s) ∙ sym (further k n s))

  pub base_one : (n : ℕ) → n < base → in_base base n ≡ hex_digit n ∷ []
  base_one n h = first n n h

  pub base_more : (n : ℕ) → base ≤ n → in_base base n ≡ in_base base (n / base) ++ (hex_digit (n % base) ∷ [])
  base_more n h =
      further n n h
      ∙ ap (λ (l : List ℕ). l ++ (hex_digit (n % base) ∷ [])) (suffice n (suc (n / base)) (n / base) (less n h) (omega arith))

  pub base_more_length : (n : ℕ) → base ≤ n → length (in_base base n) ≡ length (in_base base (n / base)) + 1
  base_more_length n h = ap length (base_more n h) ∙ length-append (in_base base (n / base)) (hex_digit (n % base) ∷ [])

  -- a number below base ^ (k + 1) has at most k + 1 digits
  pub base_short : (k n : ℕ) → n < base ^ suc k → length (in_base base n) ≤ suc k
  base_short zero n h = omega (arith, ap length (base_one n (omega (arith, pow-suc base 0, ap (λ (x : ℕ). x * base) (pow-zero base), h))))
  base_short (suc k) n h =
      by (λ s. base_short k (n / base) ((div-lt_iff_lt-mul (omega arith)).1 (omega (arith, pow-suc base (suc k), h)))) (cases_lt n base)
    where
      by : (base ≤ n → length (in_base base (n / base)) ≤ suc k) → (n < base) ⊎ (base ≤ n) → length (in_base base n) ≤ suc (suc k)
      by rest (inl s) = omega (arith, ap length (base_one n s))
      by rest (inr s) = omega (arith, base_more_length n s, rest s)

pub digit_ten : (d : ℕ) → d < 10 → hex_digit d ≡ 48 + d
digit_ten d h = cond-true _ _ _ (lt-ltb d 10 h)

digits_ten : (k n : ℕ) → digits k n ≡ digits_in 10 k n
unfolding digits digits_in
digits_ten zero n = refl
digits_ten (suc k) n = by (digits_ten k (n / 10)) (cases_lt n 10)
  where
    by : digits k (n / 10) ≡ digits_in 10 k (n / 10) → (n < 10) ⊎ (10 ≤ n) → digits (suc k) n ≡ digits_in 10 (suc k) n
    by rest (inl s) = cond-true _ _ _ (lt-ltb n 10 s) ∙ (ap (λ (d : ℕ). d ∷ []) (sym (digit_ten n s)) ∙ sym (first 10 (lit< tt) k n s))
    by rest (inr s) =
        cond-false _ _ _ (le-ltb n 10 s)
        ∙ (ap (λ (l : List ℕ). l ++ ((48 + n % 10) ∷ [])) rest
        ∙ (ap (λ (d : ℕ). digits_in 10 k (n / 10) ++ (d ∷ [])) (sym (digit_ten (n % 10) (omega arith)))
        ∙ sym (further 10 (lit< tt) k n s)))

one : (k n : ℕ) → n < 10 → digits (suc k) n ≡ (48 + n) ∷ []
one k n h = digits_ten (suc k) n ∙ (first 10 (lit< tt) k n h ∙ ap (λ (d : ℕ). d ∷ []) (digit_ten n h))

more : (k n : ℕ) → 10 ≤ n → digits (suc k) n ≡ digits k (n / 10) ++ ((48 + n % 10) ∷ [])
more k n h =
    digits_ten (suc k) n
    ∙ (further 10 (lit< tt) k n h
    ∙ (ap (λ (d : ℕ). digits_in 10 k (n / 10) ++ (d ∷ [])) (digit_ten (n % 10) (omega arith))
    ∙ ap (λ (l : List ℕ). l ++ ((48 + n % 10) ∷ [])) (sym (digits_ten k (n / 10)))))

-- any two numbers of steps that suffice give the same digits
enough : (j k n : ℕ) → n < j → n < k → digits j n ≡ digits k n
enough j k n h g = digits_ten j n ∙ (suffice 10 (lit< tt) j k n h g ∙ sym (digits_ten k n))

-- decimal is the base ten
pub dec_in_base : (n : ℕ) → dec n ≡ in_base 10 n
dec_in_base n = digits_ten (suc n) n

pub dec_one : (n : ℕ) → n < 10 → dec n ≡ (48 + n) ∷ []
dec_one n h = one n n h

pub dec_more : (n : ℕ) → 10 ≤ n → dec n ≡ dec (n / 10) ++ ((48 + n % 10) ∷ [])
dec_more n h = more n n h ∙ ap (λ (l : List ℕ). l ++ ((48 + n % 10) ∷ [])) (enough n (suc (n / 10)) (n / 10) (omega arith) (omega arith))

pub dec_more_length : (n : ℕ) → 10 ≤ n → length (dec n) ≡ length (dec (n / 10)) + 1
dec_more_length n h = ap length (dec_more n h) ∙ length-append (dec (n / 10)) ((48 + n % 10) ∷ [])

pub dec_short : (k n : ℕ) → n < 10 ^ suc k → length (dec n) ≤ suc k
dec_short k n h = omega (arith, ap length (dec_in_base n), base_short 10 (lit< tt) k n h)

-- one digit
pub dec_digit : (n : ℕ) → n < 10 → length (dec n) ≡ 1
dec_digit n h = ap length (dec_one n h)

-- at most two digits
pub dec_two : (n : ℕ) → n < 100 → length (dec n) ≤ 2
dec_two n h = dec_short 1 n (omega (arith, h))

-- a byte has at most three digits
pub dec_byte : (b : ℕ) → b < 256 → length (dec b) ≤ 3
dec_byte b h = dec_short 2 b (omega (arith, h))

-- a number up to 65,536 has at most five digits, and at most three up to 256
pub dec_most : (n : ℕ) → n ≤ 65536 → (length (dec n) ≤ 5) × (n ≤ 256 → length (dec n) ≤ 3)
dec_most n h = (dec_short 4 n (omega (arith, h)), λ g. dec_short 2 n (omega (arith, g)))

-- a number of 16 bits has at most five digits
pub dec_half : (n : ℕ) → n < 65536 → length (dec n) ≤ 5
dec_half n h = dec_short 4 n (omega (arith, h))

-- the number of a character has at most seven digits
pub dec_scalar : (c : ℕ) → c < 1114112 → length (dec c) ≤ 7
dec_scalar c h = dec_short 6 c (omega (arith, h))

pub hex_short : (k n : ℕ) → n < 16 ^ suc k → length (hex_num n) ≤ suc k
hex_short k n h = base_short 16 (lit< tt) k n h

-- a number of 32 bits has at most eight hexadecimal digits
pub hex_word : (n : ℕ) → n < 4294967296 → length (hex_num n) ≤ 8
hex_word n h = hex_short 7 n (omega (arith, h))

module _ (bytes : List ℕ) (i : ℕ) where
  -- one byte's digits, then those of the rest
  pub hex_more : i < length bytes → hex_of (drop i bytes) ≡ hex_digit (get_or bytes i 0 / 16) ∷ (hex_digit (get_or bytes i 0 % 16) ∷ hex_of (drop (i + 1) bytes))
  unfolding hex_of
  hex_more h = at_drop_more hex_of bytes i 0 h

  pub hex_all : length bytes ≤ i → hex_of (drop i bytes) ≡ []
  unfolding hex_of
  hex_all h = at_drop_all hex_of bytes i h

-- two digits for each byte
pub hex_length : (bytes : List ℕ) → length (hex_of bytes) ≡ 2 * length bytes
unfolding hex_of
hex_length [] = refl
hex_length (b ∷ bytes) = omega (arith, hex_length bytes)

-- a digit goes from the rest of a number to those that are turned round behind it
pub turned_more : (base : ℕ) (big : 1 < base) (whole low : List ℕ) (rest : ℕ) → base ≤ rest → whole ≡ in_base base rest ++ reverse low → whole ≡ in_base base (rest / base) ++ reverse (low ++ (hex_digit (rest % base) ∷ []))
turned_more base big whole low rest h e =
    let d = hex_digit (rest % base) in
    e
    ∙ (ap (λ (l : List ℕ). l ++ reverse low) (base_more base big rest h)
    ∙ (append_assoc (in_base base (rest / base)) (d ∷ []) (reverse low)
    ∙ ap (λ (l : List ℕ). in_base base (rest / base) ++ l) (sym (reverse-append low (d ∷ [])))))

-- the last one
pub turned_all : (base : ℕ) (big : 1 < base) (whole low : List ℕ) (rest : ℕ) → rest < base → whole ≡ in_base base rest ++ reverse low → reverse (low ++ (hex_digit rest ∷ [])) ≡ whole
turned_all base big whole low rest h e =
    reverse-append low (hex_digit rest ∷ [])
    ∙ sym (e ∙ ap (λ (l : List ℕ). l ++ reverse low) (base_one base big rest h))

-- behind the bytes that were there
pub turned_behind : (base : ℕ) (big : 1 < base) (was out whole : List ℕ) (rest : ℕ) → rest < base → out ≡ was ++ drop (length was) out → whole ≡ in_base base rest ++ reverse (drop (length was) out) → length was ≤ length out → take (length was) (out ++ (hex_digit rest ∷ [])) ++ reverse (drop (length was) (out ++ (hex_digit rest ∷ []))) ≡ was ++ whole
turned_behind base big was out whole rest h e f le =
    let d = hex_digit rest ∷ [] in
    let front = take-append-le (length was) out d le ∙ (ap (take (length was)) e ∙ take_at was (drop (length was) out) (length was) refl) in
    let behind = ap reverse (drop-append-le (length was) out d le) ∙ turned_all base big whole (drop (length was) out) rest h f in
    ap (λ (l : List ℕ). l ++ reverse (drop (length was) (out ++ d))) front ∙ ap (λ (l : List ℕ). was ++ l) behind

-- as many elements in place of others are these
pub refilled : (n : ℕ) (xs ws : List ℕ) → length ws ≡ length xs → n ≡ length xs → refill n xs ws ≡ ws
refilled n xs ws h e =
    ap (λ (l : List ℕ). take n (ws ++ l)) (drop_all (length ws) xs (omega arith)) ∙ (ap (take n) (append-nil ws) ∙ take_all n ws (omega arith))
