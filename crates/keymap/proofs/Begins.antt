-- Beginnings of keys. Assumes nothing.
use Rattle.std.proofs.Common.{◌≡◌, ℕ, ◌≤◌, Bool, true, false, eqb, List, [], ◌∷◌, ◌++◌, length, take, drop, sym, refl, ap, ◌∙◌, subst, append_assoc}
use Rattle.std.proofs.lemmas.List.Prefix.{front_fits}
use Rattle.std.proofs.lemmas.List.{take_at, take-take, take-append-drop}
use Rattle.std.proofs.lemmas.Bool.{both_ways, and_from, and_parts, eq-eqb, eqb-true}
use Rattle.keymap.specs.Stored.{Stored, some_key, begins_with, begun}
use Rattle.keymap.proofs.Entries.{stored_key_passes, passing_key_is_stored}

pub begins_with_front : (p t : List ℕ) → begins_with p (p ++ t) ≡ true
unfolding begins_with
begins_with_front [] t = refl
begins_with_front (b ∷ p) t = and_from (eqb b b) (begins_with p (p ++ t)) (eq-eqb b b refl) (begins_with_front p t)

cons_equal : (b c : ℕ) (p q : List ℕ) → b ≡ c → p ≡ q → ◌≡◌ {A = List ℕ} (b ∷ p) (c ∷ q)
cons_equal b c p q e f = cc

pub begins_with_splits : (p k : List ℕ) → begins_with p k ≡ true → k ≡ p ++ drop (length p) k
unfolding begins_with
begins_with_splits [] k h = refl
begins_with_splits (b ∷ p) [] h = absurd (both_ways false refl h)
begins_with_splits (b ∷ p) (c ∷ k) h =
    let m = and_parts (eqb b c) (begins_with p k) h in
    cons_equal c b k (p ++ drop (length p) k) (sym (eqb-true b c m.0)) (begins_with_splits p k m.1)

pub begins_with_fits : (p k : List ℕ) → begins_with p k ≡ true → length p ≤ length k
begins_with_fits p k h = front_fits k p (drop (length p) k) (begins_with_splits p k h)

-- a key that begins with p has p as its first bytes
pub begins_with_takes : (p k : List ℕ) → begins_with p k ≡ true → take (length p) k ≡ p
begins_with_takes p k h = ap (take (length p)) (begins_with_splits p k h) ∙ take_at p (drop (length p) k) (length p) refl

pub begins_with_take : (n : ℕ) (k : List ℕ) → begins_with (take n k) k ≡ true
begins_with_take n k = subst (λ (l : List ℕ). begins_with (take n k) l ≡ true) (take-append-drop n k) (begins_with_front (take n k) (drop n k))

pub begins_with_shorter : (p q k : List ℕ) → begins_with (p ++ q) k ≡ true → begins_with p k ≡ true
begins_with_shorter p q k h =
    let t : List ℕ = drop (length (p ++ q)) k in
    subst (λ (l : List ℕ). begins_with p l ≡ true) (sym (begins_with_splits (p ++ q) k h ∙ append_assoc p q t)) (begins_with_front p (q ++ t))

pub begins_with_fewer : (m n : ℕ) (r k : List ℕ) → m ≤ n → begins_with (take n r) k ≡ true → begins_with (take m r) k ≡ true
begins_with_fewer m n r k le h =
    begins_with_shorter (take m r) (drop m (take n r)) k
    (subst (λ (l : List ℕ). begins_with l k ≡ true) (sym (take-append-drop m (take n r)) ∙ ap (λ (l : List ℕ). l ++ drop m (take n r)) (take-take m n r le)) h)

pub some_key_weaker : {V : Type 0} (f g : List ℕ → Bool) → ((k : List ℕ) → f k ≡ true → g k ≡ true) → (s : Stored V) → some_key f s ≡ true → some_key g s ≡ true
some_key_weaker f g w s h =
    let m = passing_key_is_stored s f h in stored_key_passes s g m.0 m.1 m.2 (w m.0 m.3)

pub begun_with_fewer : {V : Type 0} (m n : ℕ) (r : List ℕ) (s : Stored V) → m ≤ n → begun s (take n r) ≡ true → begun s (take m r) ≡ true
begun_with_fewer m n r s le = some_key_weaker (begins_with (take n r)) (begins_with (take m r)) (λ k. begins_with_fewer m n r k le) s
