-- A node that is linked in at its place keeps the tree, over parents, labels, first children and next siblings as functions. Assumes nothing.
use Rattle.std.proofs.Common.{◌≡◌, ℕ, ◌+◌, ◌<◌, ◌≤◌, ◌⊎◌, sym, ap, ◌∙◌, inl, inr, ⊎_elim, arith}
use Rattle.std.proofs.lemmas.Bool.{cases_eq, cases_lt, cases_order}

-- a tree of u nodes with parents up, labels L, first children K and next siblings N
pub record Tree (up L K N : ℕ → ℕ) (u : ℕ) : Type 0 where
  pub above : (i : ℕ) → 0 < i → i < u → up i < i
  pub down : (i : ℕ) → i < u → 0 < K i → (K i < u) × (up (K i) ≡ i)
  pub side : (i : ℕ) → i < u → 0 < N i → (0 < i) × (N i < u) × (up (N i) ≡ up i) × (L i < L (N i))
  pub first : (j : ℕ) → 0 < j → j < u → (0 < K (up j)) × (L (K (up j)) ≤ L j)
  pub beside : (i j : ℕ) → 0 < i → i < u → 0 < j → j < u → up i ≡ up j → L i < L j → (0 < N i) × (L (N i) ≤ L j)
  pub apart : (i j : ℕ) → 0 < i → i < u → 0 < j → j < u → up i ≡ up j → L i ≡ L j → i ≡ j

-- the place for a label b that no child of at has: between before and here
pub record Slot (up L K N : ℕ → ℕ) (u at b before here : ℕ) : Type 0 where
  pub at_in : at < u
  pub here_in : 0 < here → (here < u) × (up here ≡ at)
  pub high : 0 < here → b < L here
  pub before_none : before ≡ 0 → K at ≡ here
  pub before_in : 0 < before → (before < u) × (up before ≡ at) × (L before < b) × (N before ≡ here)
  pub none : (j : ℕ) → 0 < j → j < u → up j ≡ at → L j ≡ b → ⊥

-- node u stands at that place, and the others are as they were
pub record Grown (up L K N up' L' K' N' : ℕ → ℕ) (u at b before here : ℕ) : Type 0 where
  pub lab_new : L' u ≡ b
  pub lab_old : (i : ℕ) → i < u → L' i ≡ L i
  pub kid_new : K' u ≡ 0
  pub kid_at : before ≡ 0 → K' at ≡ u
  pub kid_old : (i : ℕ) → i < u → (before ≡ 0 → i ≡ at → ⊥) → K' i ≡ K i
  pub nxt_new : N' u ≡ here
  pub nxt_before : 0 < before → N' before ≡ u
  pub nxt_old : (i : ℕ) → i < u → (0 < before → i ≡ before → ⊥) → N' i ≡ N i
  pub up_new : up' u ≡ at
  pub up_old : (i : ℕ) → i < u → up' i ≡ up i

-- the last of u + 1 nodes, or another
last : (i u : ℕ) → i < u + 1 → (i ≡ u) ⊎ (i < u)
last i u h = ⊎_elim (λ l. inr l) (λ g. inl (omega arith)) (cases_lt i u)

module _ (up L K N up' L' K' N' : ℕ → ℕ) (u at b before here : ℕ) (t : Tree up L K N u) (s : Slot up L K N u at b before here) (g : Grown up L K N up' L' K' N' u at b before here) where
  kid_cases : (i : ℕ) → i < u → ((before ≡ 0) × (i ≡ at) × (K' i ≡ u)) ⊎ (K' i ≡ K i)
  kid_cases i l =
      ⊎_elim
      (λ z. ⊎_elim (λ a. inl (z, a, ap K' a ∙ g.kid_at z)) (λ na. inr (g.kid_old i l (λ _ a. na a))) (cases_eq i at))
      (λ nz. inr (g.kid_old i l (λ z _. nz z)))
      (cases_eq before 0)

  nxt_cases : (i : ℕ) → i < u → ((0 < before) × (i ≡ before) × (N' i ≡ u)) ⊎ ((0 < before → i ≡ before → ⊥) × (N' i ≡ N i))
  nxt_cases i l =
      ⊎_elim
      (λ z. let no-b : 0 < before → i ≡ before → ⊥ = λ p _. omega arith in inr (no-b, g.nxt_old i l no-b))
      (λ nz.
      let p : 0 < before = omega arith in
      ⊎_elim (λ a. inl (p, a, ap N' a ∙ g.nxt_before p)) (λ na. let no-b : 0 < before → i ≡ before → ⊥ = λ _ a. na a in inr (no-b, g.nxt_old i l no-b)) (cases_eq i before))
      (cases_eq before 0)

  above' : (i : ℕ) → 0 < i → i < u + 1 → up' i < i
  above' i p q = ⊎_elim (λ e. omega (arith, ap up' e, g.up_new, s.at_in)) (λ l. omega (arith, g.up_old i l, t.above i p l)) (last i u q)

  down' : (i : ℕ) → i < u + 1 → 0 < K' i → (K' i < u + 1) × (up' (K' i) ≡ i)
  down' i q k =
      ⊎_elim (λ e. absurd (omega (arith, ap K' e, g.kid_new)))
      (λ l. ⊎_elim (λ a. omega (arith, ap up' a.2, g.up_new))
      (λ f. let d = t.down i l (omega (arith, f)) in omega (arith, d.0, d.1, ap up' f, g.up_old (K i) d.0))
      (kid_cases i l))
      (last i u q)

  side' : (i : ℕ) → i < u + 1 → 0 < N' i → (0 < i) × (N' i < u + 1) × (up' (N' i) ≡ up' i) × (L' i < L' (N' i))
  side' i q k =
      ⊎_elim
      (λ e.
      let f : N' i ≡ here = ap N' e ∙ g.nxt_new in
      let h : 0 < here = omega arith in
      let d = s.here_in h in
      omega (arith, s.at_in, d.0, d.1, s.high h, ap up' f, g.up_old here d.0, ap up' e, g.up_new, ap L' f, g.lab_old here d.0, ap L' e, g.lab_new))
      (λ l. ⊎_elim
      (λ a.
      let d = s.before_in a.0 in
      omega (arith, d.0, d.1, d.2, ap up' a.2, g.up_new, g.up_old i l, ap up a.1, ap L' a.2, g.lab_new, g.lab_old i l, ap L a.1))
      (λ f.
      let d = t.side i l (omega (arith, f.1)) in
      omega (arith, d.0, d.1, d.2, d.3, ap up' f.1, g.up_old (N i) d.1, g.up_old i l, ap L' f.1, g.lab_old (N i) d.1, g.lab_old i l))
      (nxt_cases i l))
      (last i u q)

  -- a sibling with a higher label stands behind the new node
  ahead : (j : ℕ) → 0 < j → j < u → up j ≡ at → b < L j → (0 < here) × (L here ≤ L j)
  ahead j p l e h =
      ⊎_elim
      (λ z. let f = t.first j p l in let r : K (up j) ≡ here = ap K e ∙ s.before_none z in omega (arith, f.0, f.1, r, ap L r))
      (λ nz.
      let pb : 0 < before = omega arith in
      let d = s.before_in pb in
      let f = t.beside before j pb d.0 p l (d.1 ∙ sym e) (omega (arith, d.2)) in
      omega (arith, f.0, f.1, d.3, ap L d.3))
      (cases_eq before 0)

  -- a sibling with a lower label, but the one just before the new node, is followed by a label up to b
  behind : (i : ℕ) → 0 < i → i < u → up i ≡ at → L i < b → (0 < before → i ≡ before → ⊥) → (0 < N i) × (N i < u) × (L (N i) ≤ b)
  behind i p l e h no-b = ⊎_elim none some (cases_eq before 0)
    where
      none : before ≡ 0 → (0 < N i) × (N i < u) × (L (N i) ≤ b)
      none z =
          let f = t.first i p l in
          let r : K (up i) ≡ here = ap K e ∙ s.before_none z in
          let ph : 0 < here = omega (arith, f.0) in
          absurd (omega (arith, f.1, ap L r, s.high ph))

      some : (before ≡ 0 → ⊥) → (0 < N i) × (N i < u) × (L (N i) ≤ b)
      some nz =
          let pb : 0 < before = omega arith in
          let d = s.before_in pb in
          ⊎_elim (λ q. absurd (no-b pb (t.apart i before p l pb d.0 (e ∙ sym d.1) q)))
          (⊎_elim
          (λ q. let f = t.beside i before p l pb d.0 (e ∙ sym d.1) q in (f.0, (t.side i l f.0).1, omega (arith, f.1, d.2)))
          (λ q.
          let f = t.beside before i pb d.0 p l (d.1 ∙ sym e) q in
          let ph : 0 < here = omega (arith, f.0, d.3) in
          absurd (omega (arith, f.1, ap L d.3, s.high ph))))
          (cases_order (L i) (L before))

  first' : (j : ℕ) → 0 < j → j < u + 1 → (0 < K' (up' j)) × (L' (K' (up' j)) ≤ L' j)
  first' j p q = ⊎_elim new old (last j u q)
    where
      new : j ≡ u → (0 < K' (up' j)) × (L' (K' (up' j)) ≤ L' j)
      new e =
          let m : up' j ≡ at = ap up' e ∙ g.up_new in
          ⊎_elim (λ z. let k : K' (up' j) ≡ u = ap K' m ∙ g.kid_at z in omega (arith, ap L' k, ap L' e))
          (λ nz.
          let pb : 0 < before = omega arith in
          let d = s.before_in pb in
          let f : K' (up' j) ≡ K at = ap K' m ∙ g.kid_old at s.at_in (λ z _. nz z) in
          let fb = t.first before pb d.0 in
          let r : K (up before) ≡ K at = ap K d.1 in
          let ka : K at < u = (t.down at s.at_in (omega (arith, fb.0))).0 in
          omega (arith, fb.0, fb.1, ap L r, ap L' f, g.lab_old (K at) ka, ap L' e, g.lab_new, d.2))
          (cases_eq before 0)

      old : j < u → (0 < K' (up' j)) × (L' (K' (up' j)) ≤ L' j)
      old l =
          let m : K' (up' j) ≡ K' (up j) = ap K' (g.up_old j l) in
          let iu : up j < u = omega (arith, t.above j p l) in
          let ff = t.first j p l in
          ⊎_elim
          (λ a.
          let r : K (up j) ≡ here = ap K a.1 ∙ s.before_none a.0 in
          let ph : 0 < here = omega (arith, ff.0) in
          let k : K' (up' j) ≡ u = m ∙ a.2 in
          omega (arith, ff.1, ap L r, s.high ph, ap L' k, g.lab_new, g.lab_old j l))
          (λ f.
          let k : K' (up' j) ≡ K (up j) = m ∙ f in
          let ku : K (up j) < u = (t.down (up j) iu ff.0).0 in
          omega (arith, ff.0, ff.1, ap L' k, g.lab_old (K (up j)) ku, g.lab_old j l))
          (kid_cases (up j) iu)

  beside' : (i j : ℕ) → 0 < i → i < u + 1 → 0 < j → j < u + 1 → up' i ≡ up' j → L' i < L' j → (0 < N' i) × (L' (N' i) ≤ L' j)
  beside' i j pi qi pj qj e l = ⊎_elim i_new i_old (last i u qi)
    where
      i_new : i ≡ u → (0 < N' i) × (L' (N' i) ≤ L' j)
      i_new ei =
          ⊎_elim (λ ej. absurd (omega (arith, ap L' ei, ap L' ej)))
          (λ lj.
          let f : N' i ≡ here = ap N' ei ∙ g.nxt_new in
          let a = ahead j pj lj (sym (g.up_old j lj) ∙ sym e ∙ ap up' ei ∙ g.up_new) (omega (arith, g.lab_old j lj, ap L' ei, g.lab_new)) in
          omega (arith, a.0, a.1, ap L' f, g.lab_old here (s.here_in a.0).0, g.lab_old j lj))
          (last j u qj)

      i_old : i < u → (0 < N' i) × (L' (N' i) ≤ L' j)
      i_old li =
          ⊎_elim
          (λ ej.
          ⊎_elim (λ a. omega (arith, ap L' a.2, ap L' ej, s.at_in))
          (λ f.
          let k = behind i pi li (sym (g.up_old i li) ∙ e ∙ ap up' ej ∙ g.up_new) (omega (arith, g.lab_old i li, ap L' ej, g.lab_new)) f.0 in
          omega (arith, k.0, k.2, ap L' f.1, g.lab_old (N i) k.1, ap L' ej, g.lab_new))
          (nxt_cases i li))
          (λ lj.
          let b-ij = t.beside i j pi li pj lj (sym (g.up_old i li) ∙ e ∙ g.up_old j lj) (omega (arith, g.lab_old i li, g.lab_old j lj)) in
          ⊎_elim
          (λ a.
          let d = s.before_in a.0 in
          let r : N i ≡ here = ap N a.1 ∙ d.3 in
          let ph : 0 < here = omega (arith, b-ij.0) in
          omega (arith, s.at_in, b-ij.1, ap L r, s.high ph, ap L' a.2, g.lab_new, g.lab_old j lj))
          (λ f. omega (arith, b-ij.0, b-ij.1, ap L' f.1, g.lab_old (N i) (t.side i li b-ij.0).1, g.lab_old j lj))
          (nxt_cases i li))
          (last j u qj)

  apart' : (i j : ℕ) → 0 < i → i < u + 1 → 0 < j → j < u + 1 → up' i ≡ up' j → L' i ≡ L' j → i ≡ j
  apart' i j pi qi pj qj e l =
      ⊎_elim
      (λ ei. ⊎_elim (λ ej. omega arith)
      (λ lj. absurd (s.none j pj lj (sym (g.up_old j lj) ∙ sym e ∙ ap up' ei ∙ g.up_new) (sym (g.lab_old j lj) ∙ sym l ∙ ap L' ei ∙ g.lab_new)))
      (last j u qj))
      (λ li. ⊎_elim (λ ej. absurd (s.none i pi li (sym (g.up_old i li) ∙ e ∙ ap up' ej ∙ g.up_new) (sym (g.lab_old i li) ∙ l ∙ ap L' ej ∙ g.lab_new)))
      (λ lj. t.apart i j pi li pj lj (sym (g.up_old i li) ∙ e ∙ g.up_old j lj) (sym (g.lab_old i li) ∙ l ∙ g.lab_old j lj))
      (last j u qj))
      (last i u qi)

  pub grown : Tree up' L' K' N' (u + 1)
  grown = record { above = above'; down = down'; side = side'; first = first'; beside = beside'; apart = apart' }
