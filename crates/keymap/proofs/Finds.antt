-- The definitions over what is stored say what the relation of keys and values says. Assumes nothing.
use Rattle.std.proofs.Common.{◌≡◌, ℕ, zero, suc, ◌+◌, ◌<◌, ◌≤◌, min, Bool, true, false, not, ◌&&◌, ltb, List, [], ◌++◌, length, take, drop, Some, None, Option, sym, refl, ap, ◌∙◌, subst, ⊎_elim, arith}
use Rattle.std.proofs.lemmas.List.{length-append, length-drop, length-take-le}
use Rattle.std.proofs.lemmas.Bool.{cases_Bool, cases_eq, cond-true, cond-false, and_from, and_parts, lt-ltb, ltb-true, not_from_true, not_from_false}
use Rattle.keymap.specs.declared.found.Found.TheVariants.{None as NoKey, Exact, Ambiguous}
use Rattle.keymap.specs.Finding.{Front, or_shorter, longest_to, longest, longer, foreign, judged, found}
use Rattle.keymap.specs.Room.{shared_to}
use Rattle.keymap.specs.Stored.{Stored, value_of, begins_with, begun}
use Rattle.keymap.proofs.Begins.{begins_with_front, begins_with_splits, begins_with_fits}
use Rattle.keymap.proofs.Entries.{stored_key_passes, passing_key_is_stored}
use Rattle.keymap.proofs.Relations.{Begun, Longest, Longer, Shared}

no_value : {V : Type 0} (o : Option V) → ((v : V) → o ≡ Some v → ⊥) → o ≡ None
no_value None f = refl
no_value (Some v) f = absurd (f v refl)

-- the cases of a lookup, each from its conditions
module _ {V : Type 0} (s : Stored V) (r : List ℕ) where
  pub foreign_is : 0 < length r → begun s (take 1 r) ≡ false → foreign s r ≡ true
  foreign_is h b = and_from (ltb 0 (length r)) (not (begun s (take 1 r))) (lt-ltb 0 (length r) h) (not_from_false (begun s (take 1 r)) b)

  pub known_is : (0 < length r → begun s (take 1 r) ≡ true) → foreign s r ≡ false
  known_is f = by (ltb 0 (length r)) refl
    where
      by : (b : Bool) → ltb 0 (length r) ≡ b → (b && not (begun s (take 1 r))) ≡ false
      by true e = not_from_true (begun s (take 1 r)) (f (ltb-true 0 (length r) e))
      by false e = refl

  pub found_none : (more : Bool) → foreign s r ≡ true → found s r more ≡ NoKey
  unfolding found
  found_none more h = cond-true (foreign s r) NoKey (judged s r more (longest s r)) h

  pub found_judged : (more : Bool) (o : Option (Front V)) → foreign s r ≡ false → longest s r ≡ o → found s r more ≡ judged s r more o
  unfolding found
  found_judged more o h e = cond-false (foreign s r) NoKey (judged s r more (longest s r)) h ∙ ap (judged s r more) e

  pub judged_ambiguous : (more : Bool) (k : Front V) → more ≡ true → longer s r k.len ≡ true → judged s r more (Some k) ≡ Ambiguous k.len k.value
  judged_ambiguous more k m l = cond-true (more && longer s r k.len) (Ambiguous k.len k.value) (Exact k.len k.value) (and_from more (longer s r k.len) m l)

  pub judged_exact : (more : Bool) (k : Front V) → (more ≡ true → longer s r k.len ≡ false) → judged s r more (Some k) ≡ Exact k.len k.value
  judged_exact true k f = cond-false (longer s r k.len) (Ambiguous k.len k.value) (Exact k.len k.value) (f refl)
  judged_exact false k f = refl

  none_to : (n : ℕ) → ((e : ℕ) (x : V) → e ≤ n → value_of s (take e r) ≡ Some x → ⊥) → longest_to s r n ≡ None
  unfolding longest_to
  none_to zero f = ap (λ (o : Option V). or_shorter 0 o None) (no_value (value_of s []) (λ x. f 0 x (omega arith)))
  none_to (suc n) f =
      ap (λ (o : Option V). or_shorter (suc n) o (longest_to s r n)) (no_value (value_of s (take (suc n) r)) (λ x. f (suc n) x (omega arith)))
      ∙ none_to n (λ e x le. f e x (omega arith))

  longest_at : (d : ℕ) (v : V) → value_of s (take d r) ≡ Some v → longest_to s r d ≡ Some (record { len = d; value = v })
  unfolding longest_to
  longest_at zero v e = ap (λ (o : Option V). or_shorter 0 o None) e
  longest_at (suc d) v e = ap (λ (o : Option V). or_shorter (suc d) o (longest_to s r d)) e

  longest_below : (n d : ℕ) (v : V) → d ≤ n → value_of s (take d r) ≡ Some v → ((e : ℕ) (x : V) → d < e → e ≤ n → value_of s (take e r) ≡ Some x → ⊥) → longest_to s r n ≡ Some (record { len = d; value = v })
  unfolding longest_to
  longest_below zero d v le e f = let z : d ≡ 0 = omega arith in subst (λ (i : ℕ). value_of s (take i r) ≡ Some v → longest_to s r 0 ≡ Some (record { len = i; value = v })) (sym z) (longest_at 0 v) e
  longest_below (suc n) d v le e f =
      ⊎_elim
      (λ z. subst (λ (i : ℕ). value_of s (take i r) ≡ Some v → longest_to s r (suc n) ≡ Some (record { len = i; value = v })) (sym z) (longest_at (suc n) v) e)
      (λ nz.
      ap (λ (o : Option V). or_shorter (suc n) o (longest_to s r n)) (no_value (value_of s (take (suc n) r)) (λ x. f (suc n) x (omega arith) (omega arith)))
      ∙ longest_below n d v (omega arith) e (λ i x lo hi. f i x lo (omega arith)))
      (cases_eq d (suc n))

-- a relation that is exactly what is stored
module _ {V : Type 0} (s : Stored V) (Has : List ℕ → V → Type 0) (there : (k : List ℕ) (v : V) → value_of s k ≡ Some v → Has k v) (only : (k : List ℕ) (v : V) → Has k v → value_of s k ≡ Some v) where
  pub begun_from : (p : List ℕ) → Begun Has p → begun s p ≡ true
  begun_from p m = stored_key_passes s (begins_with p) (p ++ m.0) m.1 (only (p ++ m.0) m.1 m.2) (begins_with_front p m.0)

  begun_to : (p : List ℕ) → begun s p ≡ true → Begun Has p
  begun_to p h =
      let m = passing_key_is_stored s (begins_with p) h in
      (drop (length p) m.0, m.1, subst (λ (k : List ℕ). Has k m.1) (begins_with_splits p m.0 m.3) (there m.0 m.1 m.2))

  pub not_begun_from : (p : List ℕ) → (Begun Has p → ⊥) → begun s p ≡ false
  not_begun_from p f = ⊎_elim (λ t. absurd (f (begun_to p t))) (λ e. e) (cases_Bool (begun s p))

  module _ (r : List ℕ) where
    pub longest_from : (d : ℕ) (v : V) → Longest Has r d v → longest s r ≡ Some (record { len = d; value = v })
    longest_from d v l =
        longest_below s r (length r) d v l.within (only (take d r) v l.stored) (λ e x lo hi h. l.longest e x lo hi (there (take e r) x h))

    pub no_longest_from : ((e : ℕ) (x : V) → e ≤ length r → Has (take e r) x → ⊥) → longest s r ≡ None
    no_longest_from f = none_to s r (length r) (λ e x le h. f e x le (there (take e r) x h))

    module _ (d : ℕ) where
      first : List ℕ
      first = take (min (length r) (d + 1)) r

      first_length : length first ≡ min (length r) (d + 1)
      unfolding first
      first_length = length-take-le (min (length r) (d + 1)) r (omega arith)

      pub longer_from : Longer Has r d → longer s r d ≡ true
      unfolding first
      longer_from m =
          stored_key_passes s (λ k. begins_with first k && ltb d (length k)) (first ++ m.0) m.1 (only (first ++ m.0) m.1 m.2)
          (and_from (begins_with first (first ++ m.0)) (ltb d (length (first ++ m.0))) (begins_with_front first m.0) (lt-ltb d (length (first ++ m.0)) (omega (arith, length-append first m.0, first_length, m.3))))

      longer_to : longer s r d ≡ true → Longer Has r d
      unfolding first
      longer_to h =
          let m = passing_key_is_stored s (λ k. begins_with first k && ltb d (length k)) h in
          let t = and_parts (begins_with first m.0) (ltb d (length m.0)) m.3 in (
            drop (length first) m.0,
            m.1,
            subst (λ (k : List ℕ). Has k m.1) (begins_with_splits first m.0 t.0) (there m.0 m.1 m.2),
            omega (arith, ltb-true d (length m.0) t.1, length-drop (length first) m.0, first_length, begins_with_fits first m.0 t.0),
          )

      pub not_longer_from : (Longer Has r d → ⊥) → longer s r d ≡ false
      not_longer_from f = ⊎_elim (λ t. absurd (f (longer_to t))) (λ e. e) (cases_Bool (longer s r d))

  shared_below : (k : List ℕ) (n d : ℕ) → d ≤ n → (0 < d → begun s (take d k) ≡ true) → ((e : ℕ) → d < e → e ≤ n → begun s (take e k) ≡ false) → shared_to s k n ≡ d
  unfolding shared_to
  shared_below k zero d le b f = omega arith
  shared_below k (suc n) d le b f =
      ⊎_elim
      (λ z. cond-true (begun s (take (suc n) k)) (suc n) (shared_to s k n) (subst (λ (i : ℕ). begun s (take i k) ≡ true) z (b (omega arith))) ∙ sym z)
      (λ nz. cond-false (begun s (take (suc n) k)) (suc n) (shared_to s k n) (f (suc n) (omega arith) (omega arith)) ∙ shared_below k n d (omega arith) b (λ e lo hi. f e lo (omega arith)))
      (cases_eq d (suc n))

  pub shared_from : (k : List ℕ) (d : ℕ) → Shared Has k d → shared_to s k (length k) ≡ d
  shared_from k d h =
      shared_below k (length k) d h.within (λ lo. begun_from (take d k) (h.begins lo)) (λ e lo hi. not_begun_from (take e k) (h.most e lo hi))
