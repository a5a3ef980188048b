-- The number of nodes that the stored keys take, as keys are put in. Assumes nothing.
use Rattle.std.proofs.Common.{◌≡◌, ℕ, zero, suc, ◌+◌, ◌-◌, ◌<◌, ◌≤◌, Bool, true, false, cond, ◌||◌, List, [], ◌∷◌, ◌++◌, length, take, is_some, Some, None, Option, sym, refl, ap, ◌∙◌, subst, ⊎_elim, arith}
use Rattle.std.proofs.lemmas.List.{length-take-le}
use Rattle.std.proofs.lemmas.Bool.{both_ways, cases_eq, cond-true, or_cases, or_left, or_right}
use Rattle.std.proofs.lemmas.Bool.Decides.{same_from_decides}
use Rattle.std.specs.Str.{bytes_eq}
use Rattle.keymap.specs.Room.{fronts, beginnings, listed, different, nodes_of, shared_to, need}
use Rattle.keymap.specs.Stored.{Stored, value_of, some_key, begins_with, begun, replaced, put}
use Rattle.keymap.proofs.Begins.{begins_with_fits, begins_with_takes, begins_with_take, begun_with_fewer}
use Rattle.keymap.proofs.Entries.{none_is_not_some, same_is_equal, equal_is_same, stored_key_passes}

or_assoc : (a b c : Bool) → (a || (b || c)) ≡ ((a || b) || c)
or_assoc true b c = refl
or_assoc false b c = refl

listed_in_either : (p : List ℕ) (ps qs : List (List ℕ)) → listed p (ps ++ qs) ≡ (listed p ps || listed p qs)
unfolding listed
listed_in_either p [] qs = refl
listed_in_either p (q ∷ ps) qs =
    ap (λ (b : Bool). bytes_eq p q || b) (listed_in_either p ps qs) ∙ or_assoc (bytes_eq p q) (listed p ps) (listed p qs)

-- the listed beginnings of a key are its beginnings
listed_front_begins : (p k : List ℕ) (n : ℕ) → listed p (fronts k n) ≡ true → begins_with p k ≡ true
unfolding listed fronts
listed_front_begins p k zero h = absurd (both_ways false refl h)
listed_front_begins p k (suc n) h =
    ⊎_elim
    (λ t. subst (λ (l : List ℕ). begins_with l k ≡ true) (sym (same_is_equal p (take (suc n) k) t)) (begins_with_take (suc n) k))
    (listed_front_begins p k n)
    (or_cases (bytes_eq p (take (suc n) k)) (listed p (fronts k n)) h)

front_is_listed : (p k : List ℕ) (n m : ℕ) → p ≡ take m k → 0 < m → m ≤ n → listed p (fronts k n) ≡ true
unfolding listed fronts
front_is_listed p k zero m e lo hi = absurd (omega arith)
front_is_listed p k (suc n) m e lo hi =
    ⊎_elim
    (λ z. or_left (bytes_eq p (take (suc n) k)) (listed p (fronts k n)) (equal_is_same p (take (suc n) k) (e ∙ ap (λ (i : ℕ). take i k) z)))
    (λ nz. or_right (bytes_eq p (take (suc n) k)) (listed p (fronts k n)) (front_is_listed p k n m e lo (omega arith)))
    (cases_eq m (suc n))

listed_in_fronts : (p k : List ℕ) → 0 < length p → listed p (fronts k (length k)) ≡ begins_with p k
listed_in_fronts p k lo =
    same_from_decides {P = begins_with p k ≡ true} (listed p (fronts k (length k))) (begins_with p k)
    (listed_front_begins p k (length k), λ h. front_is_listed p k (length k) (length p) (sym (begins_with_takes p k h)) lo (begins_with_fits p k h))
    (λ h. h, λ h. h)

listed_in_beginnings : {V : Type 0} (p : List ℕ) → 0 < length p → (s : Stored V) → listed p (beginnings s) ≡ begun s p
unfolding beginnings listed some_key
listed_in_beginnings p lo [] = refl
listed_in_beginnings p lo (e ∷ s) =
    listed_in_either p (fronts e.key (length e.key)) (beginnings s)
    ∙ ap (λ (b : Bool). b || listed p (beginnings s)) (listed_in_fronts p e.key lo)
    ∙ ap (λ (b : Bool). begins_with p e.key || b) (listed_in_beginnings p lo s)

-- a longer beginning is none of the shorter ones
longer_front_is_new : (k : List ℕ) (m n : ℕ) → n < m → m ≤ length k → listed (take m k) (fronts k n) ≡ false
unfolding listed fronts
longer_front_is_new k m zero lo hi = refl
longer_front_is_new k m (suc n) lo hi = by (bytes_eq (take m k) (take (suc n) k)) refl (longer_front_is_new k m n (omega arith) hi)
  where
    by : (b : Bool) → bytes_eq (take m k) (take (suc n) k) ≡ b → listed (take m k) (fronts k n) ≡ false → (b || listed (take m k) (fronts k n)) ≡ false
    by true p f =
        absurd (omega (arith, ap length (same_is_equal (take m k) (take (suc n) k) p), length-take-le m k hi, length-take-le (suc n) k (omega arith)))
    by false p f = f

module _ {V : Type 0} (s : Stored V) (k : List ℕ) where
  shared_fits : (n : ℕ) → shared_to s k n ≤ n
  unfolding shared_to
  shared_fits zero = omega arith
  shared_fits (suc n) = by (begun s (take (suc n) k)) (shared_fits n)
    where
      by : (b : Bool) → shared_to s k n ≤ n → cond b (suc n) (shared_to s k n) ≤ suc n
      by true le = omega arith
      by false le = omega arith

  -- a beginning that begins a stored key is shared whole
  pub shared_whole : (n : ℕ) → begun s (take n k) ≡ true → shared_to s k n ≡ n
  unfolding shared_to
  shared_whole zero h = refl
  shared_whole (suc n) h = cond-true (begun s (take (suc n) k)) (suc n) (shared_to s k n) h

  -- the beginnings of k that begin no stored key are those longer than the shared one
  new_fronts : (n : ℕ) → n ≤ length k → different (fronts k n ++ beginnings s) ≡ different (beginnings s) + (n - shared_to s k n)
  unfolding different fronts shared_to
  new_fronts zero le = omega arith
  new_fronts (suc n) le =
      by (begun s (take (suc n) k)) refl (new_fronts n (omega arith))
    where
      known : (b : Bool) → begun s (take (suc n) k) ≡ b → listed (take (suc n) k) (fronts k n ++ beginnings s) ≡ b
      known b e =
          listed_in_either (take (suc n) k) (fronts k n) (beginnings s)
          ∙ ap (λ (c : Bool). c || listed (take (suc n) k) (beginnings s)) (longer_front_is_new k (suc n) n (omega arith) le)
          ∙ listed_in_beginnings (take (suc n) k) (omega (arith, length-take-le (suc n) k le)) s
          ∙ e

      count : (b : Bool) → begun s (take (suc n) k) ≡ b → ◌≡◌ {A = ℕ} (cond (listed (take (suc n) k) (fronts k n ++ beginnings s)) 0 1) (cond b 0 1)
      count b e = ap (λ (c : Bool). cond c 0 1) (known b e)

      by : (b : Bool) → begun s (take (suc n) k) ≡ b → different (fronts k n ++ beginnings s) ≡ different (beginnings s) + (n - shared_to s k n) → cond (listed (take (suc n) k) (fronts k n ++ beginnings s)) 0 1 + different (fronts k n ++ beginnings s) ≡ different (beginnings s) + (suc n - cond b (suc n) (shared_to s k n))
      by true e f = omega (arith, count true e, shared_whole n (begun_with_fewer n (suc n) k s (omega arith) e))
      by false e f = omega (arith, count false e, shared_fits n)

-- a key that is not stored yet
module _ {V : Type 0} (k : List ℕ) (v : V) where
  by_new_fronts : (s : Stored V) → different (fronts k (length k) ++ beginnings s) ≡ different (beginnings s) + (length k - shared_to s k (length k)) → nodes_of (record { key = k; value = v } ∷ s) ≡ nodes_of s + need s k
  unfolding beginnings different
  by_new_fronts [] e = omega arith
  by_new_fronts (x ∷ s) e = omega arith

  replaced_keeps_beginnings : (s : Stored V) → beginnings (replaced k v s) ≡ beginnings s
  unfolding beginnings replaced
  replaced_keeps_beginnings [] = refl
  replaced_keeps_beginnings (e ∷ s) = ap (λ (ps : List (List ℕ)). fronts e.key (length e.key) ++ ps) (replaced_keeps_beginnings s)

  replaced_keeps_nodes : (s : Stored V) → nodes_of (replaced k v s) ≡ nodes_of s
  unfolding beginnings replaced
  replaced_keeps_nodes [] = refl
  replaced_keeps_nodes (e ∷ s) = ap (λ (ps : List (List ℕ)). 1 + different ps) (replaced_keeps_beginnings (e ∷ s))

  -- a stored key needs no node
  pub stored_key_needs_none : (s : Stored V) (x : V) → value_of s k ≡ Some x → need s k ≡ 0
  unfolding value_of
  stored_key_needs_none [] x h = absurd (none_is_not_some None x refl h)
  stored_key_needs_none (e ∷ s) x h =
      let whole : begun (e ∷ s) (take (length k) k) ≡ true = stored_key_passes (e ∷ s) (begins_with (take (length k) k)) k x h (begins_with_take (length k) k) in
      omega (arith, shared_whole (e ∷ s) k (length k) whole)

  -- put takes as many nodes as the key needs
  pub put_nodes : (s : Stored V) → nodes_of (put k v s) ≡ nodes_of s + need s k
  put_nodes s = by (value_of s k) refl
    where
      by : (o : Option V) → value_of s k ≡ o → nodes_of (cond (is_some o) (replaced k v s) (record { key = k; value = v } ∷ s)) ≡ nodes_of s + need s k
      by (Some x) p = omega (arith, replaced_keeps_nodes s, stored_key_needs_none s x p)
      by None p = by_new_fronts s (new_fronts s k (length k) (omega arith))
