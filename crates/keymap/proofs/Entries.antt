-- Stored keys and their values: what put changes and what it leaves. Assumes nothing.
use Rattle.std.proofs.Common.{◌≡◌, ℕ, Bool, true, false, cond, ◌||◌, List, [], ◌∷◌, is_some, Some, None, Option, sym, refl, ap, ◌∙◌, subst, ⊎_elim, arith}
use Rattle.std.proofs.lemmas.Slice.Eq.{bytes_eq-Decides}
use Rattle.std.proofs.lemmas.Bool.{both_ways, cases_Bool, cond-true, cond-false, or_cases, or_left, or_right}
use Rattle.std.specs.Str.{bytes_eq}
use Rattle.keymap.specs.Stored.{Stored, Once, value_of, some_key, replaced, put}

pub none_is_not_some : {V : Type 0} (o : Option V) (v : V) → o ≡ None → o ≡ Some v → ⊥
none_is_not_some o v p q = let z : ◌≡◌ {A = ℕ} 0 1 = cc in omega arith

pub same_is_equal : (a b : List ℕ) → bytes_eq a b ≡ true → a ≡ b
same_is_equal a b = (bytes_eq-Decides a b).0

pub equal_is_same : (a b : List ℕ) → a ≡ b → bytes_eq a b ≡ true
equal_is_same a b = (bytes_eq-Decides a b).1

pub other_is_not_same : (a b : List ℕ) → (a ≡ b → ⊥) → bytes_eq a b ≡ false
other_is_not_same a b ne = ⊎_elim (λ t. absurd (ne (same_is_equal a b t))) (λ f. f) (cases_Bool (bytes_eq a b))

-- a stored key that passes a test
pub stored_key_passes : {V : Type 0} (s : Stored V) (test : List ℕ → Bool) (k : List ℕ) (v : V) → value_of s k ≡ Some v → test k ≡ true → some_key test s ≡ true
unfolding value_of some_key
stored_key_passes [] test k v h t = absurd (none_is_not_some None v refl h)
stored_key_passes (e ∷ s) test k v h t = by (bytes_eq e.key k) refl h (λ p. stored_key_passes s test k v p t)
  where
    by : (b : Bool) → bytes_eq e.key k ≡ b → cond b (Some e.value) (value_of s k) ≡ Some v → (value_of s k ≡ Some v → some_key test s ≡ true) → (test e.key || some_key test s) ≡ true
    by true q p f = or_left (test e.key) (some_key test s) (ap test (same_is_equal e.key k q) ∙ t)
    by false q p f = or_right (test e.key) (some_key test s) (f p)

-- a key that passes a test is stored, with some value
pub passing_key_is_stored : {V : Type 0} (s : Stored V) (test : List ℕ → Bool) → some_key test s ≡ true → (k : List ℕ) × (v : V) × (value_of s k ≡ Some v) × (test k ≡ true)
unfolding value_of some_key
passing_key_is_stored [] test h = absurd (both_ways false refl h)
passing_key_is_stored {V} (e ∷ s) test h =
    ⊎_elim
    (λ t. (e.key, e.value, cond-true (bytes_eq e.key e.key) (Some e.value) (value_of s e.key) (equal_is_same e.key e.key refl), t))
    (λ t. let m = passing_key_is_stored s test t in by m.0 m.1 m.2 m.3 (bytes_eq e.key m.0) refl)
    (or_cases (test e.key) (some_key test s) h)
  where
    by : (k : List ℕ) (v : V) → value_of s k ≡ Some v → test k ≡ true → (b : Bool) → bytes_eq e.key k ≡ b → (k : List ℕ) × (v : V) × (cond (bytes_eq e.key k) (Some e.value) (value_of s k) ≡ Some v) × (test k ≡ true)
    by k v p t true q = (k, e.value, cond-true (bytes_eq e.key k) (Some e.value) (value_of s k) q, t)
    by k v p t false q = (k, v, cond-false (bytes_eq e.key k) (Some e.value) (value_of s k) q ∙ p, t)

module _ {V : Type 0} (k : List ℕ) (v : V) where
  replaced_leaves_others : (s : Stored V) (j : List ℕ) → bytes_eq k j ≡ false → value_of (replaced k v s) j ≡ value_of s j
  unfolding value_of replaced
  replaced_leaves_others [] j n = refl
  replaced_leaves_others (e ∷ s) j n = by (bytes_eq e.key j) refl (bytes_eq e.key k) refl (replaced_leaves_others s j n)
    where
      by : (b : Bool) → bytes_eq e.key j ≡ b → (c : Bool) → bytes_eq e.key k ≡ c → value_of (replaced k v s) j ≡ value_of s j → cond b (Some (cond c v e.value)) (value_of (replaced k v s) j) ≡ cond b (Some e.value) (value_of s j)
      by true p true q f = absurd (both_ways (bytes_eq k j) n (equal_is_same k j (sym (same_is_equal e.key k q) ∙ same_is_equal e.key j p)))
      by true p false q f = refl
      by false p c q f = f

  replaced_has_value : (s : Stored V) → is_some (value_of s k) ≡ true → value_of (replaced k v s) k ≡ Some v
  unfolding value_of replaced
  replaced_has_value [] h = absurd (both_ways false refl h)
  replaced_has_value (e ∷ s) h = by (bytes_eq e.key k) h (replaced_has_value s)
    where
      by : (b : Bool) → is_some (cond b (Some e.value) (value_of s k)) ≡ true → (is_some (value_of s k) ≡ true → value_of (replaced k v s) k ≡ Some v) → cond b (Some (cond b v e.value)) (value_of (replaced k v s) k) ≡ Some v
      by true h f = refl
      by false h f = f h

  -- put stores the value under the key, and leaves every other key its value
  pub put_values : (s : Stored V) (j : List ℕ) → value_of (put k v s) j ≡ cond (bytes_eq k j) (Some v) (value_of s j)
  unfolding value_of
  put_values s j = by (is_some (value_of s k)) refl (bytes_eq k j) refl
    where
      by : (b : Bool) → is_some (value_of s k) ≡ b → (c : Bool) → bytes_eq k j ≡ c → value_of (cond b (replaced k v s) (record { key = k; value = v } ∷ s)) j ≡ cond c (Some v) (value_of s j)
      by true p true q = subst (λ (i : List ℕ). value_of (replaced k v s) i ≡ Some v) (same_is_equal k j q) (replaced_has_value s p)
      by true p false q = replaced_leaves_others s j q
      by false p true q = cond-true (bytes_eq k j) (Some v) (value_of s j) q
      by false p false q = cond-false (bytes_eq k j) (Some v) (value_of s j) q

  pub put_has_value : (s : Stored V) → value_of (put k v s) k ≡ Some v
  put_has_value s = put_values s k ∙ cond-true (bytes_eq k k) (Some v) (value_of s k) (equal_is_same k k refl)

  pub put_leaves_others : (s : Stored V) (j : List ℕ) → (k ≡ j → ⊥) → value_of (put k v s) j ≡ value_of s j
  put_leaves_others s j ne = put_values s j ∙ cond-false (bytes_eq k j) (Some v) (value_of s j) (other_is_not_same k j ne)

  replaced_keeps_keys : (test : List ℕ → Bool) (s : Stored V) → some_key test (replaced k v s) ≡ some_key test s
  unfolding some_key replaced
  replaced_keeps_keys test [] = refl
  replaced_keeps_keys test (e ∷ s) = ap (λ (b : Bool). test e.key || b) (replaced_keeps_keys test s)

  -- the keys after put: the key itself, and those that were stored
  pub put_keys : (test : List ℕ → Bool) (s : Stored V) → some_key test (put k v s) ≡ (test k || some_key test s)
  unfolding some_key
  put_keys test s = by (value_of s k) refl
    where
      also : (b : Bool) → test k ≡ b → (b ≡ true → some_key test s ≡ true) → some_key test s ≡ (b || some_key test s)
      also true p f = f refl
      also false p f = refl

      by : (o : Option V) → value_of s k ≡ o → some_key test (cond (is_some o) (replaced k v s) (record { key = k; value = v } ∷ s)) ≡ (test k || some_key test s)
      by (Some x) p = replaced_keeps_keys test s ∙ also (test k) refl (stored_key_passes s test k x p)
      by None p = refl

-- put keeps each key once
module _ {V : Type 0} (k : List ℕ) (v : V) where
  replaced_adds_none : (s : Stored V) (j : List ℕ) → value_of s j ≡ None → value_of (replaced k v s) j ≡ None
  unfolding value_of replaced
  replaced_adds_none [] j h = refl
  replaced_adds_none (e ∷ s) j h = by (bytes_eq e.key j) h (replaced_adds_none s j)
    where
      by : (b : Bool) → cond b (Some e.value) (value_of s j) ≡ None → (value_of s j ≡ None → value_of (replaced k v s) j ≡ None) → cond b (Some (cond (bytes_eq e.key k) v e.value)) (value_of (replaced k v s) j) ≡ None
      by true p f = absurd (none_is_not_some (Some e.value) e.value p refl)
      by false p f = f p

  replaced_keeps_once : (s : Stored V) → Once s → Once (replaced k v s)
  unfolding replaced
  replaced_keeps_once [] o = tt
  replaced_keeps_once (e ∷ s) o = (replaced_adds_none s e.key o.0, replaced_keeps_once s o.1)

  pub put_keeps_once : (s : Stored V) → Once s → Once (put k v s)
  put_keeps_once s o = by (value_of s k) refl
    where
      by : (w : Option V) → value_of s k ≡ w → Once (cond (is_some w) (replaced k v s) (record { key = k; value = v } ∷ s))
      by (Some x) p = replaced_keeps_once s o
      by None p = (p, o)
