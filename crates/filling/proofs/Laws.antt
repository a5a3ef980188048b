-- Laws of lookup: what an answer says, and which answers stay as the input grows. Assumes nothing.
use Rattle.std.proofs.Common.{◌≡◌, ℕ, zero, suc, ◌+◌, ◌<◌, ◌≤◌, min, Bool, true, false, cond, not, ◌&&◌, ltb, ◌⊎◌, List, [], ◌++◌, length, take, Some, None, Option, sym, refl, ap, ◌∙◌, subst, inl, inr, ⊎_elim, arith}
use Rattle.std.proofs.lemmas.List.{length-append, length-take-le, take_all, take-append-le, take-take}
use Rattle.std.proofs.lemmas.Bool.Decides.{same_from_decides}
use Rattle.std.proofs.lemmas.Bool.{both_ways, cases_Bool, cases_eq, and_from, and_parts, lt-ltb, ltb-true, not-true}
use Rattle.keymap.specs.declared.found.Found.{Found}
use Rattle.keymap.specs.declared.found.Found.TheVariants.{None as NoKey, Exact, Ambiguous, NeedData}
use Rattle.keymap.specs.Finding.{Front, or_shorter, longest_to, longest, longer, foreign, judged, found}
use Rattle.keymap.specs.Stored.{Stored, value_of, some_key, begins_with, begun}
use Rattle.keymap.proofs.Begins.{begins_with_take, begins_with_fewer, some_key_weaker}
use Rattle.keymap.proofs.Entries.{none_is_not_some, stored_key_passes, passing_key_is_stored}
use Rattle.keymap.proofs.Finds.{foreign_is, known_is, found_none, found_judged, judged_exact, longest_from}
use Rattle.keymap.proofs.Relations.{Longest}

-- the value v is stored under k
abbrev pub Stores : {V : Type 0} → Stored V → List ℕ → V → Type 0
Stores s k v = value_of s k ≡ Some v

-- what makes an answer exact
pub record ExactBy {V : Type 0} (s : Stored V) (r : List ℕ) (more : Bool) (d : ℕ) (v : V) : Type 0 where
  pub known : foreign s r ≡ false
  pub front : longest s r ≡ Some (record { len = d; value = v })
  pub ends : more ≡ true → longer s r d ≡ false

module _ {V : Type 0} (s : Stored V) (r : List ℕ) where
  -- the longest stored key up to n bytes is stored, and no longer one is
  record LongestTo (n : ℕ) (k : Front V) : Type 0 where
    within : k.len ≤ n
    stored : value_of s (take k.len r) ≡ Some k.value
    past : (e : ℕ) (x : V) → k.len < e → e ≤ n → value_of s (take e r) ≡ Some x → ⊥

  longest_to_means : (n : ℕ) (k : Front V) → longest_to s r n ≡ Some k → LongestTo n k
  unfolding longest_to
  longest_to_means zero k h = by (value_of s []) refl h
    where
      by : (o : Option V) → value_of s [] ≡ o → or_shorter 0 o None ≡ Some k → LongestTo 0 k
      by (Some v) p e =
          let l : k.len ≡ 0 = cc in
          let w : v ≡ k.value = cc in
          record {
            within = omega arith;
            stored = subst (λ (i : ℕ). value_of s (take i r) ≡ Some k.value) (sym l) (p ∙ ap Some w);
            past = λ i x lo hi. absurd (omega arith);
          }
      by None p e = absurd (none_is_not_some None k refl e)
  longest_to_means (suc n) k h = by (value_of s (take (suc n) r)) refl h (longest_to_means n k)
    where
      by : (o : Option V) → value_of s (take (suc n) r) ≡ o → or_shorter (suc n) o (longest_to s r n) ≡ Some k → (longest_to s r n ≡ Some k → LongestTo n k) → LongestTo (suc n) k
      by (Some v) p e f =
          let l : k.len ≡ suc n = cc in
          let w : v ≡ k.value = cc in
          record {
            within = omega arith;
            stored = subst (λ (i : ℕ). value_of s (take i r) ≡ Some k.value) (sym l) (p ∙ ap Some w);
            past = λ i x lo hi. absurd (omega arith);
          }
      by None p e f =
          let m = f e in
          record {
            within = omega (arith, m.within);
            stored = m.stored;
            past = λ i x lo hi q.
                ⊎_elim (λ z. none_is_not_some (value_of s (take i r)) x (ap (λ (j : ℕ). value_of s (take j r)) z ∙ p) q) (λ nz. m.past i x lo (omega arith) q) (cases_eq i (suc n));
          }

  pub longest_means : (k : Front V) → longest s r ≡ Some k → Longest (Stores s) r k.len k.value
  longest_means k h = let m = longest_to_means (length r) k h in record { within = m.within; stored = m.stored; longest = m.past }

  pub foreign_means : foreign s r ≡ true → (0 < length r) × (begun s (take 1 r) ≡ false)
  foreign_means h =
      let m = and_parts (ltb 0 (length r)) (not (begun s (take 1 r))) h in
      (ltb-true 0 (length r) m.0, not-true (begun s (take 1 r)) m.1)

  pub known_means : foreign s r ≡ false → 0 < length r → begun s (take 1 r) ≡ true
  known_means h lo = ⊎_elim (λ t. t) (λ f. absurd (both_ways (foreign s r) h (foreign_is s r lo f))) (cases_Bool (begun s (take 1 r)))

  pub none_means : (more : Bool) → found s r more ≡ NoKey → foreign s r ≡ true
  unfolding found
  none_means more h = by (foreign s r) refl (longest s r) h
    where
      never : (b : Bool) (k : Front V) → cond b (Ambiguous k.len k.value) (Exact k.len k.value) ≡ NoKey → ⊥
      never true k e = let z : ◌≡◌ {A = ℕ} 0 1 = cc in omega arith
      never false k e = let z : ◌≡◌ {A = ℕ} 0 1 = cc in omega arith

      by : (b : Bool) → foreign s r ≡ b → (o : Option (Front V)) → cond b NoKey (judged s r more o) ≡ NoKey → foreign s r ≡ true
      by true p o e = p
      by false p None e = absurd (let z : ◌≡◌ {A = ℕ} 0 1 = cc in omega arith)
      by false p (Some k) e = absurd (never (more && longer s r k.len) k e)

  pub exact_means : (more : Bool) (d : ℕ) (v : V) → found s r more ≡ Exact d v → ExactBy s r more d v
  unfolding found
  exact_means more d v h = by (foreign s r) refl (longest s r) refl h
    where
      never : {A : Type 0} → NoKey ≡ Exact d v → A
      never e = absurd (let z : ◌≡◌ {A = ℕ} 0 1 = cc in omega arith)

      needs : {A : Type 0} → NeedData ≡ Exact d v → A
      needs e = absurd (let z : ◌≡◌ {A = ℕ} 0 1 = cc in omega arith)

      front : (k : Front V) → (c : Bool) → cond c (Ambiguous k.len k.value) (Exact k.len k.value) ≡ Exact d v → (c ≡ false) × (k.len ≡ d) × (k.value ≡ v)
      front k true e = absurd (let z : ◌≡◌ {A = ℕ} 0 1 = cc in omega arith)
      front k false e = (refl, cc, cc)

      same : (k : Front V) → k.len ≡ d → k.value ≡ v → k ≡ record { len = d; value = v }
      same k p q =
          let front_of : ℕ → V → Front V = λ i x. record { len = i; value = x } in ap (λ (i : ℕ). front_of i k.value) p ∙ ap (front_of d) q

      at : (k : Front V) → (more && longer s r k.len) ≡ false → k.len ≡ d → more ≡ true → longer s r d ≡ false
      at k e l m = subst (λ (i : ℕ). longer s r i ≡ false) l (subst (λ (b : Bool). (b && longer s r k.len) ≡ false) m e)

      by : (b : Bool) → foreign s r ≡ b → (o : Option (Front V)) → longest s r ≡ o → cond b NoKey (judged s r more o) ≡ Exact d v → ExactBy s r more d v
      by true p o q e = never e
      by false p None q e = needs e
      by false p (Some k) q e =
          let m = front k (more && longer s r k.len) e in
          record { known = p; front = q ∙ ap Some (same k m.1 m.2); ends = at k m.0 m.1 }

-- an input that grows by t
module _ {V : Type 0} (s : Stored V) (r t : List ℕ) where
  first_stays : 0 < length r → take 1 (r ++ t) ≡ take 1 r
  first_stays lo = take-append-le 1 r t lo

  foreign_stays : foreign s r ≡ true → foreign s (r ++ t) ≡ true
  foreign_stays h =
      let m = foreign_means s r h in
      foreign_is s (r ++ t) (omega (arith, length-append r t, m.0)) (ap (begun s) (first_stays m.0) ∙ m.1)

  known_stays : 0 < length r → foreign s r ≡ false → foreign s (r ++ t) ≡ false
  known_stays lo h = known_is s (r ++ t) (λ _. ap (begun s) (first_stays lo) ∙ known_means s r h lo)

  -- None stays, whatever comes behind
  pub none_stays : (more after : Bool) → found s r more ≡ NoKey → found s (r ++ t) after ≡ NoKey
  none_stays more after h = found_none s (r ++ t) after (foreign_stays (none_means s r more h))

  module _ (d : ℕ) where
    seen : ℕ
    seen = min (length r) (d + 1)

    seen_stays : take seen (r ++ t) ≡ take seen r
    unfolding seen
    seen_stays = take-append-le (min (length r) (d + 1)) r t (omega arith)

    -- a longer stored key that the grown input begins with was in sight before
    longer_front_seen : (e : ℕ) (x : V) → d < e → e ≤ length (r ++ t) → value_of s (take e (r ++ t)) ≡ Some x → longer s r d ≡ true
    unfolding seen
    longer_front_seen e x lo hi h =
        let k : List ℕ = take e (r ++ t) in
        let shorter : take seen k ≡ take seen r = take-take seen e (r ++ t) (omega arith) ∙ seen_stays in
        stored_key_passes s (λ j. begins_with (take seen r) j && ltb d (length j)) k x h
        (and_from (begins_with (take seen r) k) (ltb d (length k)) (subst (λ (p : List ℕ). begins_with p k ≡ true) shorter (begins_with_take seen k)) (lt-ltb d (length k) (omega (arith, length-take-le e (r ++ t) hi))))

    -- a longer stored key in sight of the grown input was in sight before
    longer_seen : longer s (r ++ t) d ≡ true → longer s r d ≡ true
    unfolding seen
    longer_seen =
        some_key_weaker (λ k. begins_with (take (min (length (r ++ t)) (d + 1)) (r ++ t)) k && ltb d (length k)) (λ k. begins_with (take seen r) k && ltb d (length k))
        (λ k h.
        let m = and_parts (begins_with (take (min (length (r ++ t)) (d + 1)) (r ++ t)) k) (ltb d (length k)) h in
        and_from (begins_with (take seen r) k) (ltb d (length k))
        (subst (λ (p : List ℕ). begins_with p k ≡ true) seen_stays (begins_with_fewer seen (min (length (r ++ t)) (d + 1)) (r ++ t) k (omega (arith, length-append r t)) m.0))
        m.1)
        s

  -- Exact on an open input stays, whatever comes behind, open or closed; the input is not empty
  pub open_exact_stays : (d : ℕ) (v : V) (after : Bool) → 0 < length r → found s r true ≡ Exact d v → found s (r ++ t) after ≡ Exact d v
  open_exact_stays d v after lo h =
      let m = exact_means s r true d v h in
      let l = longest_means s r (record { len = d; value = v }) m.front in
      let k : Front V = record { len = d; value = v } in
      let grown : Longest (Stores s) (r ++ t) d v =
      record {
        within = omega (arith, length-append r t, l.within);
        stored = ap (value_of s) (take-append-le d r t l.within) ∙ l.stored;
        longest = λ e x lt le q. both_ways (longer s r d) (m.ends refl) (longer_front_seen d e x lt le q);
      } in
      let ends : longer s (r ++ t) d ≡ false =
      ⊎_elim (λ q. absurd (both_ways (longer s r d) (m.ends refl) (longer_seen d q))) (λ f. f) (cases_Bool (longer s (r ++ t) d)) in
      found_judged s (r ++ t) after (Some k) (known_stays lo m.known) (longest_from s (Stores s) (λ j x q. q) (λ j x q. q) (r ++ t) d v grown)
      ∙ judged_exact s (r ++ t) after k (λ _. ends)

-- closed answers: the longest stored key, or none
module _ {V : Type 0} (s : Stored V) (r : List ℕ) where
  pub closed_exact_is_longest : (d : ℕ) (v : V) → found s r false ≡ Exact d v → longest s r ≡ Some (record { len = d; value = v })
  closed_exact_is_longest d v h = (exact_means s r false d v h).front

  pub closed_longest_is_exact : (k : Front V) → longest s r ≡ Some k → 0 < k.len → found s r false ≡ Exact k.len k.value
  closed_longest_is_exact k h lo =
      let l = longest_means s r k h in
      let begins : begun s (take 1 r) ≡ true =
      stored_key_passes s (begins_with (take 1 r)) (take k.len r) k.value l.stored
      (subst (λ (p : List ℕ). begins_with p (take k.len r) ≡ true) (take-take 1 k.len r lo) (begins_with_take 1 (take k.len r))) in
      found_judged s r false (Some k) (known_is s r (λ _. begins)) h

  pub closed_without_longest : longest s r ≡ None → (found s r false ≡ NoKey) ⊎ (found s r false ≡ NeedData)
  closed_without_longest h =
      ⊎_elim (λ t. inl (found_none s r false t)) (λ f. inr (found_judged s r false None f h)) (cases_Bool (foreign s r))

  pub closed_is_not_ambiguous : (d : ℕ) (v : V) → found s r false ≡ Ambiguous d v → ⊥
  unfolding found
  closed_is_not_ambiguous d v h = by (foreign s r) (longest s r) h
    where
      by : (b : Bool) (o : Option (Front V)) → cond b NoKey (judged s r false o) ≡ Ambiguous d v → ⊥
      by true o e = let z : ◌≡◌ {A = ℕ} 0 1 = cc in omega arith
      by false None e = let z : ◌≡◌ {A = ℕ} 0 1 = cc in omega arith
      by false (Some k) e = let z : ◌≡◌ {A = ℕ} 0 1 = cc in omega arith

-- a stored key that no stored key goes on behind is found, whatever comes behind it
pub whole_key_found : {V : Type 0} (s : Stored V) (k : List ℕ) (v : V) → value_of s k ≡ Some v → 0 < length k → longer s k (length k) ≡ false → (t : List ℕ) (more : Bool) → found s (k ++ t) more ≡ Exact (length k) v
whole_key_found {V} s k v h lo ends t more =
    let f : Front V = record { len = length k; value = v } in
    let whole : Longest (Stores s) k (length k) v =
    record { within = omega arith; stored = ap (value_of s) (take_all (length k) k (omega arith)) ∙ h; longest = λ e x lt le. absurd (omega arith) } in
    let begins : begun s (take 1 k) ≡ true = stored_key_passes s (begins_with (take 1 k)) k v h (begins_with_take 1 k) in
    open_exact_stays s k t (length k) v more lo
    (found_judged s k true (Some f) (known_is s k (λ _. begins)) (longest_from s (Stores s) (λ j x q. q) (λ j x q. q) k (length k) v whole)
    ∙ judged_exact s k true f (λ _. ends))

-- the values of the keys decide every answer
module _ {V : Type 0} (s t : Stored V) (same : (k : List ℕ) → value_of s k ≡ value_of t k) where
  same_keys : (test : List ℕ → Bool) → some_key test s ≡ some_key test t
  same_keys test =
      same_from_decides {P = some_key test t ≡ true} (some_key test s) (some_key test t) (
        λ h. let m = passing_key_is_stored s test h in stored_key_passes t test m.0 m.1 (sym (same m.0) ∙ m.2) m.3,
        λ h. let m = passing_key_is_stored t test h in stored_key_passes s test m.0 m.1 (same m.0 ∙ m.2) m.3,
      )
      (λ h. h, λ h. h)

  same_longest_to : (r : List ℕ) (n : ℕ) → longest_to s r n ≡ longest_to t r n
  unfolding longest_to
  same_longest_to r zero = ap (λ (o : Option V). or_shorter 0 o None) (same [])
  same_longest_to r (suc n) =
      ap (λ (o : Option V). or_shorter (suc n) o (longest_to s r n)) (same (take (suc n) r))
      ∙ ap (or_shorter (suc n) (value_of t (take (suc n) r))) (same_longest_to r n)

  same_judged : (r : List ℕ) (more : Bool) (o : Option (Front V)) → judged s r more o ≡ judged t r more o
  same_judged r more None = refl
  same_judged r more (Some k) =
      ap (λ (b : Bool). cond (more && b) (Ambiguous k.len k.value) (Exact k.len k.value))
      (same_keys (λ j. begins_with (take (min (length r) (k.len + 1)) r) j && ltb k.len (length j)))

  pub values_decide_found : (r : List ℕ) (more : Bool) → found s r more ≡ found t r more
  unfolding found
  values_decide_found r more =
      ap (λ (b : Bool). cond (ltb 0 (length r) && not b) NoKey (judged s r more (longest s r))) (same_keys (begins_with (take 1 r)))
      ∙ ap (λ (f : Found V). cond (foreign t r) NoKey f) (same_judged r more (longest s r) ∙ ap (judged t r more) (same_longest_to r (length r)))
