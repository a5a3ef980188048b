-- Lists made of rows, all of one length. Assumes nothing.
use Rattle.std.proofs.Common.{◌≡◌, ℕ, zero, suc, ◌+◌, ◌-◌, ◌*◌, ◌<◌, ◌≤◌, List, [], ◌∷◌, ◌++◌, map, length, get_or, drop, ap, ◌∙◌, arith}
use Rattle.std.proofs.lemmas.List.{get_or_append_left, get_or-append-add, get_or-map, at_drop_more, at_drop_all}
use Rattle.std.proofs.lemmas.List.FromFn.{get_or-range_with_len}
use Rattle.std.specs.List.{range_with_len}
use Rattle.table.specs.Table.{each}

module _ {A B : Type 0} (f : A → List B) where
  -- the j-th of the i-th row
  pub in_row : (k : ℕ) → ((x : A) → length (f x) ≡ k) → (xs : List A) (i j : ℕ) (x : A) (d : B) → i < length xs → j < k → get_or (each xs f) (i * k + j) d ≡ get_or (f (get_or xs i x)) j d
  unfolding each
  in_row k long [] i j x d h g = absurd (omega arith)
  in_row k long (y ∷ ys) zero j x d h g =
      let e : zero * k + j ≡ j = omega arith in
      ap (λ (n : ℕ). get_or (f y ++ each ys f) n d) e ∙ get_or_append_left (f y) (each ys f) d j (omega (arith, long y))
  in_row k long (y ∷ ys) (suc i) j x d h g =
      let e : suc i * k + j ≡ length (f y) + (i * k + j) = omega (arith, long y) in
      ap (λ (n : ℕ). get_or (f y ++ each ys f) n d) e
      ∙ (get_or-append-add (f y) (each ys f) (i * k + j) d ∙ in_row k long ys i j x d (omega arith) g)

  -- the rows from the i-th on: that row, then the rest
  pub each_more : (xs : List A) (i : ℕ) (d : A) → i < length xs → each (drop i xs) f ≡ f (get_or xs i d) ++ each (drop (i + 1) xs) f
  unfolding each
  each_more xs i d h = at_drop_more (λ (l : List A). each l f) xs i d h

  pub each_all : (xs : List A) (i : ℕ) → length xs ≤ i → each (drop i xs) f ≡ []
  unfolding each
  each_all xs i h = at_drop_all (λ (l : List A). each l f) xs i h

-- the same, where the rows go by a number
pub in_counted_row : {B : Type 0} (f : ℕ → List B) (k : ℕ) → ((x : ℕ) → length (f x) ≡ k) → (a n i j x : ℕ) (d : B) → length (range_with_len a n) ≡ n → i < n → j < k → a + i ≡ x → get_or (each (range_with_len a n) f) (i * k + j) d ≡ get_or (f x) j d
in_counted_row f k long a n i j x d count h g e =
    in_row f k long (range_with_len a n) i j 0 d (omega (arith, count)) g ∙ ap (λ (y : ℕ). get_or (f y) j d) (get_or-range_with_len a n i 0 h ∙ e)

module _ {B : Type 0} where
  -- the i-th of what f gives over numbers from a on
  pub in_forms : (f : ℕ → B) (a n i x : ℕ) (d : B) → length (range_with_len a n) ≡ n → i < n → a + i ≡ x → get_or (map f (range_with_len a n)) i d ≡ f x
  in_forms f a n i x d count h e = get_or-map f (range_with_len a n) i 0 d (omega (arith, count)) ∙ ap f (get_or-range_with_len a n i 0 h ∙ e)

  -- past the first
  pub behind : (x : B) (xs : List B) (i : ℕ) (d : B) → 0 < i → get_or (x ∷ xs) i d ≡ get_or xs (i - 1) d
  behind x xs zero d h = absurd (omega arith)
  behind x xs (suc i) d h = ap (λ (n : ℕ). get_or xs n d) (let e : i ≡ suc i - 1 = omega arith in e)
