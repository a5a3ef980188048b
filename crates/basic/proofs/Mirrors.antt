-- A tree that mirrors what is stored. Assumes nothing.
use Rattle.std.proofs.Common.{◌≡◌, ℕ, zero, suc, ◌+◌, ◌<◌, ◌≤◌, Bool, true, false, cond, ◌||◌, leb, List, [], ◌∷◌, length, take, is_some, Some, None, Option, sym, refl, ap, ◌∙◌, arith}
use Rattle.std.proofs.lemmas.List.{length-take-le}
use Rattle.std.proofs.lemmas.Bool.{both_ways, leb-true, leb-false}
use Rattle.std.specs.Str.{bytes_eq}
use Rattle.keymap.specs.Room.{nodes_of, root_need, shared_to}
use Rattle.keymap.specs.Stored.{Entry, Stored, value_of, some_key, begins_with, begun, replaced, put}
use Rattle.keymap.proofs.Counts.{put_nodes}
use Rattle.keymap.proofs.Entries.{put_has_value, put_leaves_others, put_keys, same_is_equal, equal_is_same}
use Rattle.filling.specs.Filling.{put_all}
use Rattle.filling.proofs.Enough.{rooted}
use Rattle.basic.proofs.Trees.{Root, empty, plant, get, there, depth, whole, one, valued, nodes_grow, values_grow, get_same, get_other, there_grows, there_to_depth, depth_fits}

module _ {V : Type 0} where
  -- the same values, the same beginnings, as many nodes and as many keys
  pub record Mirrors (r : Root V) (s : Stored V) : Type 0 where
    pub values : (k : List ℕ) → get k r ≡ value_of s k
    pub fronts : (p : List ℕ) → 0 < length p → there p r ≡ begun s p
    pub nodes : whole one r ≡ nodes_of s + root_need s
    pub keys : whole valued r ≡ length s

  replaced_length : (k : List ℕ) (v : V) (s : Stored V) → length (replaced k v s) ≡ length s
  unfolding replaced
  replaced_length k v [] = refl
  replaced_length k v (e ∷ s) = ap suc (replaced_length k v s)

  module _ (r : Root V) (s : Stored V) (m : Mirrors r s) (k : List ℕ) (v : V) where
    -- as many bytes are shared with a stored key as lead somewhere
    shared : (n : ℕ) → n ≤ length k → (n ≤ depth r k → shared_to s k n ≡ n) × (depth r k ≤ n → shared_to s k n ≡ depth r k)
    unfolding shared_to
    shared zero le = (λ h. refl, λ h. omega arith)
    shared (suc n) le = by (begun s (take (suc n) k)) (sym (m.fronts (take (suc n) k) (omega (arith, length-take-le (suc n) k le))) ∙ there_to_depth k (suc n) r le) (shared n (omega arith))
      where
        by : (b : Bool) → b ≡ leb (suc n) (depth r k) → (n ≤ depth r k → shared_to s k n ≡ n) × (depth r k ≤ n → shared_to s k n ≡ depth r k) → (suc n ≤ depth r k → cond b (suc n) (shared_to s k n) ≡ suc n) × (depth r k ≤ suc n → cond b (suc n) (shared_to s k n) ≡ depth r k)
        by true e ih = let le = leb-true (suc n) (depth r k) (sym e) in (λ h. refl, λ h. omega arith)
        by false e ih = let gt = leb-false (suc n) (depth r k) (sym e) in (λ h. absurd (omega arith), λ h. ih.1 (omega arith))

    same_nodes : whole one (plant k v r) ≡ nodes_of (put k v s) + root_need (put k v s)
    same_nodes = omega (arith, nodes_grow k v r, m.nodes, put_nodes k v s, rooted s k v, (shared (length k) (omega arith)).1 (depth_fits k r), depth_fits k r)

    more_keys : length (put k v s) + valued (value_of s k) ≡ length s + 1
    more_keys = by (value_of s k)
      where
        by : (o : Option V) → length (cond (is_some o) (replaced k v s) (record { key = k; value = v } ∷ s)) + valued o ≡ length s + 1
        by None = omega arith
        by (Some x) = omega (arith, replaced_length k v s)

    same_values : (j : List ℕ) → get j (plant k v r) ≡ value_of (put k v s) j
    same_values j = by (bytes_eq k j) refl
      where
        by : (b : Bool) → bytes_eq k j ≡ b → get j (plant k v r) ≡ value_of (put k v s) j
        by true e =
            let q = same_is_equal k j e in
            ap (λ (i : List ℕ). get i (plant k v r)) (sym q) ∙ (get_same k v r ∙ (sym (put_has_value k v s) ∙ ap (value_of (put k v s)) q))
        by false e =
            let ne : k ≡ j → ⊥ = λ q. both_ways (bytes_eq k j) e (equal_is_same k j q) in
            get_other k j v r ne ∙ (m.values j ∙ sym (put_leaves_others k v s j ne))

    -- what is put into both is in both
    pub put_mirrors : Mirrors (plant k v r) (put k v s)
    put_mirrors =
        record {
          values = same_values;
          fronts = λ p h. there_grows p k v r ∙ (ap (λ (b : Bool). begins_with p k || b) (m.fronts p h) ∙ sym (put_keys k v (begins_with p) s));
          nodes = same_nodes;
          keys = omega (arith, values_grow k v r, ap valued (m.values k), m.keys, more_keys);
        }

  -- the entries, put one after the other
  abbrev pub grow : List (Entry V) → Root V → Root V
  grow [] r = r
  grow (e ∷ es) r = grow es (plant e.key e.value r)

  pub grown_mirrors : (es : List (Entry V)) (r : Root V) (s : Stored V) → Mirrors r s → Mirrors (grow es r) (put_all s es)
  unfolding put_all
  grown_mirrors [] r s m = m
  grown_mirrors (e ∷ es) r s m = grown_mirrors es (plant e.key e.value r) (put e.key e.value s) (put_mirrors r s m e.key e.value)

  -- nothing
  pub nothing_mirrors : Mirrors empty []
  unfolding value_of some_key
  nothing_mirrors = record { values = none; fronts = nowhere; nodes = refl; keys = refl }
    where
      none : (k : List ℕ) → get {V = V} k empty ≡ None
      none [] = refl
      none (b ∷ k) = refl

      nowhere : (p : List ℕ) → 0 < length p → there {V = V} p empty ≡ false
      nowhere [] h = absurd (omega arith)
      nowhere (b ∷ p) h = refl
