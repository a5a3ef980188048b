-- What the end of the way of an input says of the keys on the nodes. Assumes nothing.
use Rattle.std.proofs.Common.{◌≡◌, ℕ, zero, suc, ◌+◌, ◌<◌, ◌≤◌, min, ◌⊎◌, List, [], ◌∷◌, ◌++◌, reverse, length, get_or, take, drop, Some, None, Option, sym, refl, ap, ◌∙◌, subst, inl, inr, ⊎_elim, append_assoc, arith}
use mathlib.Core.List.{reverse-append}
use Rattle.std.proofs.lemmas.List.{take-take, take-append-drop, reverse-reverse}
use Rattle.std.proofs.lemmas.Bool.{cases_eq, cases_lt}
use Rattle.keymap.specs.declared.node.Node.{Node}
use Rattle.keymap.specs.declared.trace.Best.{Best}
use Rattle.keymap.specs.Tree.{lab, val, kid, Well, At, Has, Live, Deepest, LastValue}
use Rattle.keymap.proofs.Relations.{Shared, Begun, Longest, Longer}
use Rattle.keymap.proofs.Entries.{none_is_not_some}
use Rattle.keymap.proofs.Ways.{rev_more, at_in}
use Rattle.keymap.proofs.Values.{unique}

module _ {V : Type 0} (up : ℕ → ℕ) (xs : List (Node V)) (u : ℕ) (w : Well up xs u) where
  -- the way of a key passes the nodes of its beginnings
  front : (s q : List ℕ) (j : ℕ) → At up xs u (s ++ q) j → (i : ℕ) × At up xs u q i
  front [] q j a = (j, a)
  front (b ∷ s) q j a = front s q (up j) a.3

  begun_node : (p t : List ℕ) (j : ℕ) → At up xs u (reverse (p ++ t)) j → (i : ℕ) × At up xs u (reverse p) i
  begun_node p t j a = front (reverse t) (reverse p) j (subst (λ (l : List ℕ). At up xs u l j) (reverse-append p t) a)

  shorter : (r : List ℕ) (e d j : ℕ) → e ≤ d → At up xs u (reverse (take d r)) j → (i : ℕ) × At up xs u (reverse (take e r)) i
  shorter r e d j le a =
      begun_node (take e r) (drop e (take d r)) j
      (subst (λ (l : List ℕ). At up xs u (reverse l) j) (sym (take-append-drop e (take d r)) ∙ ap (λ (l : List ℕ). l ++ drop e (take d r)) (take-take e d r le)) a)

  module _ (live : Live xs u) where
    -- some key with a value goes on behind a way
    Alive : List ℕ → Type 0
    Alive q = (s : List ℕ) × (j : ℕ) × (v : V) × At up xs u (s ++ q) j × (val xs j ≡ Some v)

    next_alive : (q : List ℕ) (i : ℕ) (o : Option V) → val xs i ≡ o → At up xs u q i → ((c : ℕ) → i < c → At up xs u (lab xs c ∷ q) c → Alive (lab xs c ∷ q)) → Alive q
    unfolding Alive
    next_alive q i (Some v) e a rec = ([], i, v, a, e)
    next_alive q i None e a rec =
        let lt : i < u = at_in up xs u w q i a in
        let k : 0 < kid xs i = ⊎_elim (λ z. absurd (live i lt z e)) (λ nz. omega arith) (cases_eq (kid xs i) 0) in
        let d = w.down i lt k in
        let c : ℕ = kid xs i in
        let m = rec c (omega (arith, w.above c k d.0, d.1)) (k, d.0, refl, subst (λ (n : ℕ). At up xs u q n) (sym d.1) a) in
        (m.0 ++ (lab xs c ∷ []), m.1, m.2, subst (λ (l : List ℕ). At up xs u l m.1) (sym (append_assoc m.0 (lab xs c ∷ []) q)) m.3, m.4)

    alive : (f : ℕ) (q : List ℕ) (i : ℕ) → u ≤ i + f → At up xs u q i → Alive q
    alive zero q i h a = absurd (omega (arith, at_in up xs u w q i a))
    alive (suc f) q i h a = next_alive q i (val xs i) refl a (λ c lt b. alive f (lab xs c ∷ q) c (omega arith) b)

    pub begun : (p : List ℕ) (i : ℕ) → At up xs u (reverse p) i → Begun (Has up xs u) p
    unfolding Alive
    begun p i a =
        let m = alive u (reverse p) i (omega arith) a in
        (reverse m.0, m.2, (m.1, subst (λ (l : List ℕ). At up xs u l m.1) (ap (λ (l : List ℕ). l ++ reverse p) (sym (reverse-reverse m.0)) ∙ sym (reverse-append p (reverse m.0))) m.3, m.4))

    module _ (r : List ℕ) (at d : ℕ) (dp : Deepest up xs u r at d) where
      -- no node is deeper on the way of r
      beyond : d < length r → (j : ℕ) → At up xs u (reverse (take (d + 1) r)) j → ⊥
      beyond h j a =
          let b : At up xs u (get_or r d 0 ∷ reverse (take d r)) j = subst (λ (l : List ℕ). At up xs u l j) (rev_more r d h) a in
          dp.ends h j b.0 b.1 (unique up xs u w (reverse (take d r)) (up j) at b.3 dp.way) b.2

      past : (e j : ℕ) → d < e → e ≤ length r → At up xs u (reverse (take e r)) j → ⊥
      past e j lt le a = let i = shorter r (d + 1) e j (omega arith) a in beyond (omega arith) i.0 i.1

      pub nothing : d ≡ 0 → 0 < length r → Begun (Has up xs u) (take 1 r) → ⊥
      nothing z h m = let i = begun_node (take 1 r) m.0 m.2.0 m.2.1 in past 1 i.0 (omega arith) (omega arith) i.1

      pub shared : Shared (Has up xs u) r d
      shared =
          record {
            within = dp.short;
            begins = λ _. begun (take d r) at dp.way;
            most = λ e lt le m. let i = begun_node (take e r) m.0 m.2.0 m.2.1 in past e i.0 lt le i.1;
          }

      pub some_first : (0 < length r → 0 < d) → 0 < length r → Begun (Has up xs u) (take 1 r)
      some_first f h = let i = shorter r 1 d at (f h) dp.way in begun (take 1 r) i.0 i.1

      pub no_key : LastValue up xs u r d None → (e : ℕ) (x : V) → e ≤ length r → Has up xs u (take e r) x → ⊥
      no_key f e x le m =
          ⊎_elim (λ lt. past e m.0 lt le m.1) (λ ge. none_is_not_some (val xs m.0) x (f e m.0 ge m.1) m.2) (cases_lt d e)

      pub longest : (b : Best V) → LastValue up xs u r d (Some b) → Longest (Has up xs u) r b.len b.value
      longest b f =
          record {
            within = omega (arith, f.0, dp.short);
            stored = f.1;
            longest = λ e x lo le m. ⊎_elim (λ lt. past e m.0 lt le m.1) (λ ge. none_is_not_some (val xs m.0) x (f.2 e m.0 lo ge m.1) m.2) (cases_lt d e);
          }

      pub longer_below : (len : ℕ) → len < d → Longer (Has up xs u) r len
      longer_below len lt =
          let z : min (length r) (len + 1) ≡ len + 1 = omega (arith, dp.short) in
          let i = shorter r (len + 1) d at (omega arith) dp.way in
          let m = begun (take (len + 1) r) i.0 i.1 in
          (m.0, m.1, subst (λ (n : ℕ). Has up xs u (take n r ++ m.0) m.1) (sym z) m.2, omega (arith, z))

      pub longer_end : (len : ℕ) → len ≡ d → length r ≤ d → 0 < kid xs at → Longer (Has up xs u) r len
      longer_end len e le k =
          let z : min (length r) (len + 1) ≡ d = omega (arith, dp.short) in
          let c : ℕ = kid xs at in
          let lt = at_in up xs u w (reverse (take d r)) at dp.way in
          let dn = w.down at lt k in
          let a : At up xs u (lab xs c ∷ reverse (take d r)) c = (k, dn.0, refl, subst (λ (n : ℕ). At up xs u (reverse (take d r)) n) (sym dn.1) dp.way) in
          let m = begun (take d r ++ (lab xs c ∷ [])) c (subst (λ (l : List ℕ). At up xs u l c) (sym (reverse-append (take d r) (lab xs c ∷ []))) a) in
          let h : Has up xs u (take d r ++ (lab xs c ∷ m.0)) m.1 = subst (λ (l : List ℕ). Has up xs u l m.1) (append_assoc (take d r) (lab xs c ∷ []) m.0) m.2 in
          (lab xs c ∷ m.0, m.1, subst (λ (n : ℕ). Has up xs u (take n r ++ (lab xs c ∷ m.0)) m.1) (sym z) h, omega (arith, z))

      pub no_longer : (len : ℕ) → len ≡ d → d < length r → Longer (Has up xs u) r len → ⊥
      no_longer len e lt m =
          let z : min (length r) (len + 1) ≡ d + 1 = omega arith in
          let h : Has up xs u (take (d + 1) r ++ m.0) m.1 = subst (λ (n : ℕ). Has up xs u (take n r ++ m.0) m.1) z m.2 in
          let i = begun_node (take (d + 1) r) m.0 h.0 h.1 in
          beyond lt i.0 i.1

      no_child : kid xs at ≡ 0 → (t : List ℕ) (j : ℕ) → 0 < length t → At up xs u (reverse (take d r ++ t)) j → ⊥
      no_child k [] j h a = omega arith
      no_child k (b ∷ t) j h a =
          let i = begun_node (take d r ++ (b ∷ [])) t j (subst (λ (l : List ℕ). At up xs u (reverse l) j) (sym (append_assoc (take d r) (b ∷ []) t)) a) in
          let q : At up xs u (b ∷ reverse (take d r)) i.0 = subst (λ (l : List ℕ). At up xs u l i.0) (reverse-append (take d r) (b ∷ [])) i.1 in
          let e = unique up xs u w (reverse (take d r)) (up i.0) at q.3 dp.way in
          omega (arith, (w.first i.0 q.0 q.1).0, ap (λ (n : ℕ). kid xs n) e)

      pub no_longer_end : (len : ℕ) → len ≡ d → length r ≤ d → kid xs at ≡ 0 → Longer (Has up xs u) r len → ⊥
      no_longer_end len e le k m =
          let z : min (length r) (len + 1) ≡ d = omega (arith, dp.short) in
          let h : Has up xs u (take d r ++ m.0) m.1 = subst (λ (n : ℕ). Has up xs u (take n r ++ m.0) m.1) z m.2 in
          no_child k m.0 h.0 (omega (arith, m.3, z)) h.1

      pub no_key_at : (o : Option (Best V)) → o ≡ None → LastValue up xs u r d o → (e : ℕ) (x : V) → e ≤ length r → Has up xs u (take e r) x → ⊥
      no_key_at o z f = no_key (subst (λ (y : Option (Best V)). LastValue up xs u r d y) z f)

      module _ (o : Option (Best V)) (b : Best V) (z : o ≡ Some b) (f : LastValue up xs u r d o) where
        some : LastValue up xs u r d (Some b)
        some = subst (λ (y : Option (Best V)). LastValue up xs u r d y) z f

        pub longest_at : Longest (Has up xs u) r b.len b.value
        longest_at = longest b some

        len_in : b.len ≤ d
        len_in = some.0

        pub is_longer : (b.len < d) ⊎ ((length r ≤ d) × (0 < kid xs at)) → Longer (Has up xs u) r b.len
        is_longer s =
            let le : b.len ≤ d = some.0 in
            ⊎_elim (λ lt. longer_below b.len lt) (λ gt. ⊎_elim (λ k. longer_end b.len (omega arith) k.0 k.1) (λ k. longer_below b.len k) (⊎_elim (λ k. inr k) (λ k. inl k) s)) (cases_lt b.len d)

        pub not_longer : (d ≤ b.len) × ((d < length r) ⊎ ((length r ≤ d) × (kid xs at ≡ 0))) → Longer (Has up xs u) r b.len → ⊥
        not_longer s =
            let e : b.len ≡ d = omega (arith, some.0, s.0) in
            ⊎_elim (λ lt. no_longer b.len e lt) (λ k. no_longer_end b.len e k.0 k.1) s.1
