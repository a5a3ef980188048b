-- A tree of keys that can be computed with, by first child and next sibling, and what it holds after an entry is put into it.
-- Assumes nothing.
use Rattle.std.proofs.Common.{◌≡◌, ℕ, zero, suc, ◌+◌, ◌≤◌, Bool, true, false, ◌&&◌, ◌||◌, eqb, leb, List, [], ◌∷◌, ◌++◌, length, take, is_some, Some, None, Option, sym, refl, ap, ◌∙◌, arith}
use Rattle.std.proofs.lemmas.Bool.{both_ways, eqb-true, eq-eqb, ne_eqb, le-leb, lt-leb}
use Rattle.keymap.specs.Stored.{begins_with}

module _ (V : Type 0) where
  pub data Trie : Type 0 where
    nil : Trie
    node : ℕ → Option V → Trie → Trie → Trie

  pub record Root : Type 0 where
    pub value : Option V
    pub kids : Trie

module _ {V : Type 0} where
  abbrev pub root : Option V → Trie V → Root V
  root o k = record { value = o; kids = k }

  -- no key
  abbrev pub empty : Root V
  empty = root None nil

  -- the tree below the label b, changed by f
  abbrev pub at : ℕ → (Root V → Root V) → Trie V → Trie V
  at b f nil = let r = f empty in node b r.value r.kids nil
  at b f (node l o k s) = elim (eqb b l) [ true ↦ (let r = f (root o k) in node l r.value r.kids s) | false ↦ node l o k (at b f s) ]

  -- v under the key
  abbrev pub plant : List ℕ → V → Root V → Root V
  plant [] v r = root (Some v) r.kids
  plant (b ∷ bs) v r = root r.value (at b (plant bs v) r.kids)

  abbrev pub below : ℕ → Trie V → Option (Root V)
  below b nil = None
  below b (node l o k s) = elim (eqb b l) [ true ↦ Some (root o k) | false ↦ below b s ]

  -- the tree behind the bytes
  abbrev pub find : List ℕ → Root V → Option (Root V)
  find [] r = Some r
  find (b ∷ bs) r = elim (below b r.kids) [ None ↦ None | Some q ↦ find bs q ]

  -- the value under a key
  abbrev pub got : Option (Root V) → Option V
  got None = None
  got (Some r) = r.value

  abbrev pub get : List ℕ → Root V → Option V
  get k r = got (find k r)

  -- whether some key begins with the bytes
  abbrev pub there : List ℕ → Root V → Bool
  there p r = is_some (find p r)

  -- how many bytes of k lead somewhere
  abbrev pub depth : Root V → List ℕ → ℕ
  depth r [] = 0
  depth r (b ∷ bs) = elim (below b r.kids) [ None ↦ 0 | Some q ↦ 1 + depth q bs ]

  abbrev pub weigh : (Option V → ℕ) → Trie V → ℕ
  weigh w nil = 0
  weigh w (node l o k s) = w o + weigh w k + weigh w s

  abbrev pub whole : (Option V → ℕ) → Root V → ℕ
  whole w r = w r.value + weigh w r.kids

  -- each node counts
  abbrev pub one : Option V → ℕ
  one o = 1

  -- each value counts
  abbrev pub valued : Option V → ℕ
  valued None = 0
  valued (Some v) = 1

  -- what is stored under the bytes, where no longer key is
  abbrev pub sole : Option (Root V) → Option V
  sole None = None
  sole (Some r) = elim r.kids [ nil ↦ r.value | node l o k s ↦ None ]

  abbrev or_new : Option (Root V) → Root V
  or_new None = empty
  or_new (Some r) = r

  hit : (b l : ℕ) (o : Option V) (k s : Trie V) → eqb b l ≡ true → below b (node l o k s) ≡ Some (root o k)
  hit b l o k s e = ap (λ (t : Bool). elim t as (λ _. Option (Root V)) [ true ↦ Some (root o k) | false ↦ below b s ]) e

  miss : (b l : ℕ) (o : Option V) (k s : Trie V) → eqb b l ≡ false → below b (node l o k s) ≡ below b s
  miss b l o k s e = ap (λ (t : Bool). elim t as (λ _. Option (Root V)) [ true ↦ Some (root o k) | false ↦ below b s ]) e

  module _ (b : ℕ) (f : Root V → Root V) where
    at_hit : (l : ℕ) (o : Option V) (k s : Trie V) → eqb b l ≡ true → at b f (node l o k s) ≡ node l (f (root o k)).value (f (root o k)).kids s
    at_hit l o k s e = ap (λ (t : Bool). elim t as (λ _. Trie V) [ true ↦ node l (f (root o k)).value (f (root o k)).kids s | false ↦ node l o k (at b f s) ]) e

    at_miss : (l : ℕ) (o : Option V) (k s : Trie V) → eqb b l ≡ false → at b f (node l o k s) ≡ node l o k (at b f s)
    at_miss l o k s e = ap (λ (t : Bool). elim t as (λ _. Trie V) [ true ↦ node l (f (root o k)).value (f (root o k)).kids s | false ↦ node l o k (at b f s) ]) e

    -- below the label that was changed
    below_same : (t : Trie V) → below b (at b f t) ≡ Some (f (or_new (below b t)))
    below_same nil = hit b b _ _ nil (eq-eqb b b refl)
    below_same (node l o k s) = by (eqb b l) refl (below_same s)
      where
        by : (t : Bool) → eqb b l ≡ t → below b (at b f s) ≡ Some (f (or_new (below b s))) → below b (at b f (node l o k s)) ≡ Some (f (or_new (below b (node l o k s))))
        by true e ih = ap (below b) (at_hit l o k s e) ∙ (hit b l _ _ s e ∙ ap (λ (q : Option (Root V)). Some (f (or_new q))) (sym (hit b l o k s e)))
        by false e ih = ap (below b) (at_miss l o k s e) ∙ (miss b l o k _ e ∙ (ih ∙ ap (λ (q : Option (Root V)). Some (f (or_new q))) (sym (miss b l o k s e))))

    -- below any other label
    below_other : (c : ℕ) → (c ≡ b → ⊥) → (t : Trie V) → below c (at b f t) ≡ below c t
    below_other c ne nil = miss c b _ _ nil (ne_eqb c b ne)
    below_other c ne (node l o k s) = by (eqb b l) refl (eqb c l) refl (below_other c ne s)
      where
        by : (t : Bool) → eqb b l ≡ t → (u : Bool) → eqb c l ≡ u → below c (at b f s) ≡ below c s → below c (at b f (node l o k s)) ≡ below c (node l o k s)
        by true e true d ih = absurd (ne (eqb-true c l d ∙ sym (eqb-true b l e)))
        by true e false d ih = ap (below c) (at_hit l o k s e) ∙ (miss c l _ _ s d ∙ sym (miss c l o k s d))
        by false e true d ih = ap (below c) (at_miss l o k s e) ∙ (hit c l o k _ d ∙ sym (hit c l o k s d))
        by false e false d ih = ap (below c) (at_miss l o k s e) ∙ (miss c l o k _ d ∙ (ih ∙ sym (miss c l o k s d)))

    abbrev before : (Option V → ℕ) → Option (Root V) → ℕ
    before w None = 0
    before w (Some q) = whole w q

    -- the weight changes by what was below the label
    weigh_at : (w : Option V → ℕ) (t : Trie V) → weigh w (at b f t) + before w (below b t) ≡ weigh w t + whole w (f (or_new (below b t)))
    weigh_at w nil = omega arith
    weigh_at w (node l o k s) = by (eqb b l) refl (weigh_at w s)
      where
        by : (t : Bool) → eqb b l ≡ t → weigh w (at b f s) + before w (below b s) ≡ weigh w s + whole w (f (or_new (below b s))) → weigh w (at b f (node l o k s)) + before w (below b (node l o k s)) ≡ weigh w (node l o k s) + whole w (f (or_new (below b (node l o k s))))
        by true e ih =
            let p = ap (weigh w) (at_hit l o k s e) in
            let q = ap (before w) (hit b l o k s e) in
            let r = ap (λ (x : Option (Root V)). whole w (f (or_new x))) (hit b l o k s e) in
            omega (arith, p, q, r)
        by false e ih =
            let p = ap (weigh w) (at_miss l o k s e) in
            let q = ap (before w) (miss b l o k s e) in
            let r = ap (λ (x : Option (Root V)). whole w (f (or_new x))) (miss b l o k s e) in
            omega (arith, p, q, r, ih)

  -- the number of nodes grows by the bytes that led nowhere
  pub nodes_grow : (k : List ℕ) (v : V) (r : Root V) → whole one (plant k v r) + depth r k ≡ whole one r + length k
  nodes_grow [] v r = omega arith
  nodes_grow (b ∷ bs) v r = by (below b r.kids) refl (weigh_at b (plant bs v) one r.kids) (nodes_grow bs v)
    where
      new : (bs : List ℕ) → depth empty bs ≡ 0
      new [] = refl
      new (b ∷ bs) = refl

      by : (o : Option (Root V)) → below b r.kids ≡ o → weigh one (at b (plant bs v) r.kids) + before b (plant bs v) one (below b r.kids) ≡ weigh one r.kids + whole one (plant bs v (or_new (below b r.kids))) → ((q : Root V) → whole one (plant bs v q) + depth q bs ≡ whole one q + length bs) → whole one (plant (b ∷ bs) v r) + depth r (b ∷ bs) ≡ whole one r + length (b ∷ bs)
      by None e h ih =
          let d = ap (λ (o : Option (Root V)). elim o as (λ _. ℕ) [ None ↦ 0 | Some q ↦ 1 + depth q bs ]) e in
          let p = ap (before b (plant bs v) one) e in
          let q = ap (λ (o : Option (Root V)). whole one (plant bs v (or_new o))) e in
          omega (arith, h, d, p, q, ih empty, new bs)
      by (Some x) e h ih =
          let d = ap (λ (o : Option (Root V)). elim o as (λ _. ℕ) [ None ↦ 0 | Some q ↦ 1 + depth q bs ]) e in
          let p = ap (before b (plant bs v) one) e in
          let q = ap (λ (o : Option (Root V)). whole one (plant bs v (or_new o))) e in
          omega (arith, h, d, p, q, ih x)

  -- the number of values grows by one, where there was none
  pub values_grow : (k : List ℕ) (v : V) (r : Root V) → whole valued (plant k v r) + valued (get k r) ≡ whole valued r + 1
  values_grow [] v r = omega arith
  values_grow (b ∷ bs) v r = by (below b r.kids) refl (weigh_at b (plant bs v) valued r.kids) (values_grow bs v)
    where
      new : (bs : List ℕ) → get bs empty ≡ None
      new [] = refl
      new (b ∷ bs) = refl

      by : (o : Option (Root V)) → below b r.kids ≡ o → weigh valued (at b (plant bs v) r.kids) + before b (plant bs v) valued (below b r.kids) ≡ weigh valued r.kids + whole valued (plant bs v (or_new (below b r.kids))) → ((q : Root V) → whole valued (plant bs v q) + valued (get bs q) ≡ whole valued q + 1) → whole valued (plant (b ∷ bs) v r) + valued (get (b ∷ bs) r) ≡ whole valued r + 1
      by None e h ih =
          let d = ap (λ (o : Option (Root V)). valued (got (elim o as (λ _. Option (Root V)) [ None ↦ None | Some q ↦ find bs q ]))) e in
          let p = ap (before b (plant bs v) valued) e in
          let q = ap (λ (o : Option (Root V)). whole valued (plant bs v (or_new o))) e in
          omega (arith, h, d, p, q, ih empty, ap valued (new bs))
      by (Some x) e h ih =
          let d = ap (λ (o : Option (Root V)). valued (got (elim o as (λ _. Option (Root V)) [ None ↦ None | Some q ↦ find bs q ]))) e in
          let p = ap (before b (plant bs v) valued) e in
          let q = ap (λ (o : Option (Root V)). whole valued (plant bs v (or_new o))) e in
          omega (arith, h, d, p, q, ih x)

  abbrev past_get : List ℕ → Option (Root V) → Option V
  past_get bs q = got (elim q as (λ _. Option (Root V)) [ None ↦ None | Some r ↦ find bs r ])

  abbrev past_there : List ℕ → Option (Root V) → Bool
  past_there bs q = is_some (elim q as (λ _. Option (Root V)) [ None ↦ None | Some r ↦ find bs r ])

  -- the value that was put under a key
  pub get_same : (k : List ℕ) (v : V) (r : Root V) → get k (plant k v r) ≡ Some v
  get_same [] v r = refl
  get_same (b ∷ bs) v r = ap (past_get bs) (below_same b (plant bs v) r.kids) ∙ get_same bs v (or_new (below b r.kids))

  get_new : (bs : List ℕ) (q : Option (Root V)) → get bs (or_new q) ≡ past_get bs q
  get_new [] None = refl
  get_new (b ∷ bs) None = refl
  get_new [] (Some r) = refl
  get_new (b ∷ bs) (Some r) = refl

  -- any other key keeps its value
  pub get_other : (k j : List ℕ) (v : V) (r : Root V) → (k ≡ j → ⊥) → get j (plant k v r) ≡ get j r
  get_other [] [] v r ne = absurd (ne refl)
  get_other [] (y ∷ ys) v r ne = refl
  get_other (x ∷ xs) [] v r ne = refl
  get_other (x ∷ xs) (y ∷ ys) v r ne = by (eqb y x) refl (get_other xs ys v (or_new (below x r.kids)))
    where
      by : (t : Bool) → eqb y x ≡ t → ((xs ≡ ys → ⊥) → get ys (plant xs v (or_new (below x r.kids))) ≡ get ys (or_new (below x r.kids))) → get (y ∷ ys) (plant (x ∷ xs) v r) ≡ get (y ∷ ys) r
      by false e ih = ap (past_get ys) (below_other x (plant xs v) y (λ q. both_ways (eqb y x) e (eq-eqb y x q)) r.kids)
      by true e ih =
          let q = eqb-true y x e in
          let d : xs ≡ ys → ⊥ = λ s. ne ((λ i. sym q i ∷ s i)) in
          ap (λ (z : ℕ). past_get ys (below z (at x (plant xs v) r.kids))) q
          ∙ (ap (past_get ys) (below_same x (plant xs v) r.kids)
          ∙ (ih d ∙ (get_new ys (below x r.kids) ∙ ap (λ (z : ℕ). past_get ys (below z r.kids)) (sym q))))

  there_new : (xs bs : List ℕ) (q : Option (Root V)) → (begins_with xs bs || there xs (or_new q)) ≡ (begins_with xs bs || past_there xs q)
  unfolding begins_with
  there_new [] bs q = refl
  there_new (x ∷ xs) bs None = refl
  there_new (x ∷ xs) bs (Some r) = refl

  -- the beginnings of the key are there, and those that were
  pub there_grows : (p k : List ℕ) (v : V) (r : Root V) → there p (plant k v r) ≡ (begins_with p k || there p r)
  unfolding begins_with
  there_grows [] k v r = refl
  there_grows (x ∷ xs) [] v r = refl
  there_grows (x ∷ xs) (b ∷ bs) v r = by (eqb x b) refl (there_grows xs bs v (or_new (below b r.kids)))
    where
      by : (t : Bool) → eqb x b ≡ t → there xs (plant bs v (or_new (below b r.kids))) ≡ (begins_with xs bs || there xs (or_new (below b r.kids))) → there (x ∷ xs) (plant (b ∷ bs) v r) ≡ ((t && begins_with xs bs) || there (x ∷ xs) r)
      by false e ih = ap (past_there xs) (below_other b (plant bs v) x (λ q. both_ways (eqb x b) e (eq-eqb x b q)) r.kids)
      by true e ih =
          let q = eqb-true x b e in
          ap (λ (z : ℕ). past_there xs (below z (at b (plant bs v) r.kids))) q
          ∙ (ap (past_there xs) (below_same b (plant bs v) r.kids)
          ∙ (ih ∙ (there_new xs bs (below b r.kids) ∙ ap (λ (z : ℕ). begins_with xs bs || past_there xs (below z r.kids)) (sym q))))

  -- as many bytes of a key lead somewhere as its depth says
  pub there_to_depth : (k : List ℕ) (n : ℕ) (r : Root V) → n ≤ length k → there (take n k) r ≡ leb n (depth r k)
  there_to_depth k zero r h = sym (le-leb zero (depth r k) (omega arith))
  there_to_depth [] (suc n) r h = absurd (omega arith)
  there_to_depth (b ∷ bs) (suc n) r h = by (below b r.kids) (there_to_depth bs n)
    where
      by : (o : Option (Root V)) → ((q : Root V) → n ≤ length bs → there (take n bs) q ≡ leb n (depth q bs)) → past_there (take n bs) o ≡ leb (suc n) (elim o as (λ _. ℕ) [ None ↦ 0 | Some q ↦ 1 + depth q bs ])
      by None ih = sym (lt-leb (suc n) zero (omega arith))
      by (Some q) ih = ih q (omega arith) ∙ grind arith

  none_is_not_some : {X : Type 0} (v : V) → ◌≡◌ {A = Option V} None (Some v) → X
  none_is_not_some v e = absurd (let z : ◌≡◌ {A = ℕ} 0 1 = cc in omega arith)

  pub depth_fits : (k : List ℕ) (r : Root V) → depth r k ≤ length k
  depth_fits [] r = omega arith
  depth_fits (b ∷ bs) r = by (below b r.kids) (depth_fits bs)
    where
      by : (o : Option (Root V)) → ((q : Root V) → depth q bs ≤ length bs) → elim o as (λ _. ℕ) [ None ↦ 0 | Some q ↦ 1 + depth q bs ] ≤ suc (length bs)
      by None ih = omega arith
      by (Some q) ih = omega (arith, ih q)

  -- no key goes on behind bytes whose value is the sole one there
  pub sole_ends : (p : List ℕ) (r : Root V) (v : V) → sole (find p r) ≡ Some v → (get p r ≡ Some v) × ((b : ℕ) → there (p ++ (b ∷ [])) r ≡ false)
  sole_ends [] r v e = by r.value r.kids e
    where
      by : (o : Option V) (t : Trie V) → sole (Some (root o t)) ≡ Some v → (o ≡ Some v) × ((b : ℕ) → past_there [] (below b t) ≡ false)
      by o nil q = (q, λ b. refl)
      by o (node l x k s) q = none_is_not_some v q
  sole_ends (x ∷ p) r v e = by (below x r.kids) (sole_ends p) e
    where
      by : (o : Option (Root V)) → ((q : Root V) (v : V) → sole (find p q) ≡ Some v → (get p q ≡ Some v) × ((b : ℕ) → there (p ++ (b ∷ [])) q ≡ false)) → sole (elim o as (λ _. Option (Root V)) [ None ↦ None | Some q ↦ find p q ]) ≡ Some v → (past_get p o ≡ Some v) × ((b : ℕ) → past_there (p ++ (b ∷ [])) o ≡ false)
      by None ih q = none_is_not_some v q
      by (Some s) ih q = ih s v q
