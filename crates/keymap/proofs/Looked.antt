-- The answer at the end of the way of an input is the definition's. Assumes nothing.
use Rattle.std.proofs.Common.{◌≡◌, ℕ, ◌<◌, ◌≤◌, Bool, true, false, ◌⊎◌, List, length, take, Some, None, Option, sym, ◌∙◌}
use Rattle.keymap.specs.declared.found.Found.TheVariants.{None as NoKey, Exact, Ambiguous, NeedData}
use Rattle.keymap.specs.declared.node.Node.{Node}
use Rattle.keymap.specs.Finding.{foreign, found}
use Rattle.keymap.specs.Held.{HeldBy}
use Rattle.keymap.specs.Stored.{Stored}
use Rattle.keymap.specs.declared.trace.Best.{Best}
use Rattle.keymap.specs.Tree.{kid, Has, Deepest, LastValue}
use Rattle.keymap.proofs.Finds.{foreign_is, known_is, found_none, found_judged, judged_ambiguous, judged_exact, begun_from, not_begun_from, longest_from, no_longest_from, longer_from, not_longer_from}
use Rattle.keymap.proofs.Lookups.{nothing, some_first, no_key_at, longest_at, is_longer, not_longer}

module _ {V : Type 0} (s : Stored V) (up : ℕ → ℕ) (xs : List (Node V)) (u : ℕ) (h : HeldBy up xs u s) (r : List ℕ) (at d : ℕ) (dp : Deepest up xs u r at d) (more : Bool) where
  pub answers_none : d ≡ 0 → 0 < length r → NoKey ≡ found s r more
  answers_none z lo =
      sym (found_none s r more (foreign_is s r lo (not_begun_from s (Has up xs u) h.there h.only (take 1 r) (nothing up xs u h.well h.live r at d dp z lo))))

  known : (0 < length r → 0 < d) → foreign s r ≡ false
  known f = known_is s r (λ lo. begun_from s (Has up xs u) h.there h.only (take 1 r) (some_first up xs u h.well h.live r at d dp f lo))

  pub answers_need_data : (0 < length r → 0 < d) → (o : Option (Best V)) → o ≡ None → LastValue up xs u r d o → NeedData ≡ found s r more
  answers_need_data f o e last =
      sym (found_judged s r more None (known f) (no_longest_from s (Has up xs u) h.there h.only r (no_key_at up xs u h.well h.live r at d dp o e last)))

  module _ (f : 0 < length r → 0 < d) (o : Option (Best V)) (b : Best V) (e : o ≡ Some b) (last : LastValue up xs u r d o) where
    pub answers_ambiguous : more ≡ true → (b.len < d) ⊎ ((length r ≤ d) × (0 < kid xs at)) → Ambiguous b.len b.value ≡ found s r more
    answers_ambiguous m on =
        sym (found_judged s r more (Some (record { len = b.len; value = b.value })) (known f) (longest_from s (Has up xs u) h.there h.only r b.len b.value (longest_at up xs u h.well h.live r at d dp o b e last))
        ∙ judged_ambiguous s r more (record { len = b.len; value = b.value }) m (longer_from s (Has up xs u) h.there h.only r b.len (is_longer up xs u h.well h.live r at d dp o b e last on)))

    pub answers_exact : (more ≡ true → (d ≤ b.len) × ((d < length r) ⊎ ((length r ≤ d) × (kid xs at ≡ 0)))) → Exact b.len b.value ≡ found s r more
    answers_exact ends =
        sym (found_judged s r more (Some (record { len = b.len; value = b.value })) (known f) (longest_from s (Has up xs u) h.there h.only r b.len b.value (longest_at up xs u h.well h.live r at d dp o b e last))
        ∙ judged_exact s r more (record { len = b.len; value = b.value }) (λ m. not_longer_from s (Has up xs u) h.there h.only r b.len (not_longer up xs u h.well h.live r at d dp o b e last (ends m))))
