-- What an insert leaves: the value under its key, and every other key as it was. Assumes nothing.
use Rattle.std.proofs.Common.{◌≡◌, ℕ, ◌<◌, ◌≤◌, List, [], ◌∷◌, reverse, length, get_or, set, Some, sym, refl, ap, ◌∙◌, subst, ⊎_elim, arith}
use mathlib.Core.Path.{fun_ext}
use Rattle.std.proofs.lemmas.List.{get_or-set_same, get_or-set_other, length-set, reverse-reverse, take_all}
use Rattle.std.proofs.lemmas.Bool.{cases_eq, cases_lt}
use Rattle.keymap.specs.declared.node.Node.{Node}
use Rattle.keymap.specs.Growth.{Kept, Grew, with_value}
use Rattle.keymap.specs.Tree.{blank, lab, val, kid, nxt, Well, At, Has, Live, LiveBut, Deepest}
use Rattle.keymap.proofs.Ways.{at_in}
use Rattle.keymap.proofs.Links.{Tree}
use Rattle.keymap.proofs.Entries.{none_is_not_some}

-- the tree has the value under the key, every other key as it was, and the nodes past it as they were
pub record Inserted {V : Type 0} (up : ℕ → ℕ) (xs : List (Node V)) (u : ℕ) (key : List ℕ) (value : V) (up' : ℕ → ℕ) (ys : List (Node V)) (n : ℕ) : Type 0 where
  pub well : Well up' ys n
  pub live : Live ys n
  pub here : Has up' ys n key value
  pub fwd : (k : List ℕ) (x : V) → (k ≡ key → ⊥) → Has up xs u k x → Has up' ys n k x
  pub back : (k : List ℕ) (x : V) → (k ≡ key → ⊥) → Has up' ys n k x → Has up xs u k x
  pub len : length ys ≡ length xs
  pub rest : (i : ℕ) → n ≤ i → get_or ys i blank ≡ get_or xs i blank

same_head : (a b : ℕ) (k l : List ℕ) → a ≡ b → k ≡ l → ◌≡◌ {A = List ℕ} (a ∷ k) (b ∷ l)
same_head a b k l p q = cc

module _ {V : Type 0} (up : ℕ → ℕ) (xs : List (Node V)) (u : ℕ) where
  -- a node has one way
  key_of : (k l : List ℕ) (j : ℕ) → At up xs u k j → At up xs u l j → k ≡ l
  key_of [] [] j a c = refl
  key_of [] (b ∷ l) j a c = absurd (omega (arith, a.0, c.0))
  key_of (b ∷ k) [] j a c = absurd (omega (arith, a.0, c.0))
  key_of (b ∷ k) (e ∷ l) j a c = same_head b e k l (sym a.2 ∙ c.2) (key_of k l (up j) a.3 c.3)

  key_is : (k l : List ℕ) (j : ℕ) → At up xs u (reverse k) j → At up xs u (reverse l) j → k ≡ l
  key_is k l j a c = sym (reverse-reverse k) ∙ ap reverse (key_of (reverse k) (reverse l) j a c) ∙ reverse-reverse l

-- the labels alone decide the ways
at_same : {V : Type 0} (up : ℕ → ℕ) (xs ys : List (Node V)) (u : ℕ) → ((i : ℕ) → lab ys i ≡ lab xs i) → (k : List ℕ) (j : ℕ) → At up xs u k j → At up ys u k j
at_same up xs ys u f [] j a = a
at_same up xs ys u f (b ∷ k) j a = (a.0, a.1, f j ∙ a.2, at_same up xs ys u f k (up j) a.3)

module _ {V : Type 0} (up : ℕ → ℕ) (xs : List (Node V)) (u : ℕ) (up' : ℕ → ℕ) (ys : List (Node V)) (n : ℕ) (w : Well up xs u) (q : Kept up xs u up' ys n) where
  -- the ways to the old nodes are the same
  at_there : (k : List ℕ) (j : ℕ) → At up xs u k j → At up' ys n k j
  at_there [] j a = (a.0, omega (arith, a.1, q.more))
  at_there (b ∷ k) j a =
      (a.0, omega (arith, a.1, q.more), q.lab_same j a.1 ∙ a.2, subst (λ (i : ℕ). At up' ys n k i) (sym (q.up_same j a.1)) (at_there k (up j) a.3))

  at_back : (k : List ℕ) (j : ℕ) → j < u → At up' ys n k j → At up xs u k j
  at_back [] j l a = (a.0, omega arith)
  at_back (b ∷ k) j l a =
      (a.0, l, sym (q.lab_same j l) ∙ a.2, at_back k (up j) (omega (arith, w.above j a.0 l)) (subst (λ (i : ℕ). At up' ys n k i) (q.up_same j l) a.3))

module _ {V : Type 0} (ys zs : List (Node V)) (at : ℕ) (v : V) (l : at < length ys) (e : zs ≡ set ys at (with_value (get_or ys at blank) v)) where
  -- the value is written, and everything else is as it was
  get : ℕ → List (Node V) → Node V
  get i m = get_or m i blank

  value_here : val zs at ≡ Some v
  unfolding get
  value_here = ap (λ (m : Node V). m.value) (ap (get at) e ∙ get_or-set_same ys at (with_value (get_or ys at blank) v) blank l)

  other_node : (i : ℕ) → (i ≡ at → ⊥) → get_or zs i blank ≡ get_or ys i blank
  unfolding get
  other_node i ne = ap (get i) e ∙ get_or-set_other ys at i (with_value (get_or ys at blank) v) blank ne

  field_same : {A : Type 0} (f : Node V → A) → ((m : Node V) → f (with_value m v) ≡ f m) → (i : ℕ) → f (get_or zs i blank) ≡ f (get_or ys i blank)
  unfolding get
  field_same f h i =
      ⊎_elim
      (λ z. ap (λ (j : ℕ). f (get_or zs j blank)) z ∙ ap f (ap (get at) e ∙ get_or-set_same ys at (with_value (get_or ys at blank) v) blank l) ∙ h (get_or ys at blank) ∙ ap (λ (j : ℕ). f (get_or ys j blank)) (sym z))
      (λ ne. ap f (other_node i ne))
      (cases_eq i at)

  lab_same : (i : ℕ) → lab zs i ≡ lab ys i
  lab_same = field_same (λ m. m.label) (λ m. refl)

  kid_same : (i : ℕ) → kid zs i ≡ kid ys i
  kid_same = field_same (λ m. m.child) (λ m. refl)

  nxt_same : (i : ℕ) → nxt zs i ≡ nxt ys i
  nxt_same = field_same (λ m. m.next) (λ m. refl)

  tree_same : (up : ℕ → ℕ) (n : ℕ) → Well up ys n → Tree up (lab zs) (kid zs) (nxt zs) n
  tree_same up n w =
      let t : Tree up (lab ys) (kid ys) (nxt ys) n = record { above = w.above; down = w.down; side = w.side; first = w.first; beside = w.beside; apart = w.apart } in
      subst (λ (L : ℕ → ℕ). Tree up L (kid zs) (nxt zs) n) (sym (fun_ext lab_same))
      (subst (λ (K : ℕ → ℕ). Tree up (lab ys) K (nxt zs) n) (sym (fun_ext kid_same))
      (subst (λ (N : ℕ → ℕ). Tree up (lab ys) (kid ys) N n) (sym (fun_ext nxt_same)) t))

  len_same : length zs ≡ length ys
  len_same = ap length e ∙ length-set ys at (with_value (get_or ys at blank) v)

  well_same : (up : ℕ → ℕ) (n : ℕ) → Well up ys n → Well up zs n
  well_same up n w =
      let t = tree_same up n w in
      record { room = omega (arith, len_same, w.room); above = t.above; down = t.down; side = t.side; first = t.first; beside = t.beside; apart = t.apart }

pub insert_done : {V : Type 0} (up : ℕ → ℕ) (xs : List (Node V)) (u s : ℕ) (ys zs : List (Node V)) (n : ℕ) (key : List ℕ) (at : ℕ) (v : V) → Well up xs u → LiveBut xs u s → Grew up xs u s ys n key at (length key) → zs ≡ set ys at (with_value (get_or ys at blank) v) → (up' : ℕ → ℕ) × Inserted up xs u key v up' zs n
insert_done up xs u s ys zs n key at v w lv m e =
    let up' = m.0 in
    let by = m.1 in
    let way : At up' ys n (reverse key) at = subst (λ (l : List ℕ). At up' ys n (reverse l) at) (take_all (length key) key (omega arith)) by.deepest.way in
    let la : at < n = at_in up' ys n by.well (reverse key) at way in
    let ll : at < length ys = omega (arith, by.well.room) in
    let ways : (k : List ℕ) (j : ℕ) → At up' zs n k j → At up' ys n k j = at_same up' zs ys n (λ i. sym (lab_same ys zs at v ll e i)) in
    let ways' : (k : List ℕ) (j : ℕ) → At up' ys n k j → At up' zs n k j = at_same up' ys zs n (lab_same ys zs at v ll e) in
    let vals : (i : ℕ) → (i ≡ at → ⊥) → val zs i ≡ val ys i = λ i ne. ap (λ (c : Node _). c.value) (other_node ys zs at v ll e i ne) in (
      up',
      record {
        well = well_same ys zs at v ll e up' n by.well;
        live = λ i l kz vz. ⊎_elim (λ z. none_is_not_some (val zs at) v (ap (λ (j : ℕ). val zs j) (sym z) ∙ vz) (value_here ys zs at v ll e))
            (λ ne. by.live lv i l ne (sym (kid_same ys zs at v ll e i) ∙ kz) (sym (vals i ne) ∙ vz)) (cases_eq i at);
        here = (at, ways' (reverse key) at way, value_here ys zs at v ll e);
        fwd = λ k x ne h.
            let j : ℕ = h.0 in
            let lj : j < u = at_in up xs u w (reverse k) j h.1 in
            let there = at_there up xs u up' ys n w by.kept (reverse k) j h.1 in
            let not_at : j ≡ at → ⊥ = λ z. ne (key_is up' ys n k key at (subst (λ (i : ℕ). At up' ys n (reverse k) i) z there) way) in
            (j, ways' (reverse k) j there, vals j not_at ∙ by.kept.val_same j lj ∙ h.2);
        back = λ k x ne h.
            let j : ℕ = h.0 in
            let a = ways (reverse k) j h.1 in
            let lj : j < n = at_in up' ys n by.well (reverse k) j a in
            let not_at : j ≡ at → ⊥ = λ z. ne (key_is up' ys n k key at (subst (λ (i : ℕ). At up' ys n (reverse k) i) z a) way) in
            let vj : val ys j ≡ Some x = sym (vals j not_at) ∙ h.2 in
            let lu : j < u = ⊎_elim (λ l. l) (λ ge. absurd (none_is_not_some (val ys j) x (by.kept.val_new j ge lj) vj)) (cases_lt j u) in
            (j, at_back up xs u up' ys n w by.kept (reverse k) j lu a, sym (by.kept.val_same j lu) ∙ vj);
        len = len_same ys zs at v ll e ∙ by.kept.len;
        rest = λ i l. other_node ys zs at v ll e i (λ z. omega arith) ∙ by.kept.rest i l;
      },
    )

-- the root alone, where nothing is stored yet
module _ {V : Type 0} (xs ys : List (Node V)) (l : 0 < length xs) (e : ys ≡ set xs 0 blank) where
  root_node : get_or ys 0 blank ≡ blank {V = V}
  root_node = ap (λ (m : List (Node V)). get_or m 0 blank) e ∙ get_or-set_same xs 0 blank blank l

  past_root : (i : ℕ) → 1 ≤ i → get_or ys i blank ≡ get_or xs i blank
  past_root i h = ap (λ (m : List (Node V)). get_or m i blank) e ∙ get_or-set_other xs 0 i blank blank (λ z. omega arith)

  root_kid : (i : ℕ) → i < 1 → kid ys i ≡ 0
  root_kid i h = let z : i ≡ 0 = omega arith in ap (λ (j : ℕ). kid ys j) z ∙ ap (λ (m : Node V). m.child) root_node

  root_nxt : (i : ℕ) → i < 1 → nxt ys i ≡ 0
  root_nxt i h = let z : i ≡ 0 = omega arith in ap (λ (j : ℕ). nxt ys j) z ∙ ap (λ (m : Node V). m.next) root_node

  pub root_well : Well (λ i. 0) ys 1
  root_well =
      record {
        room = omega (arith, ap length e ∙ length-set xs 0 blank);
        above = λ i p q. absurd (omega arith);
        down = λ i q k. absurd (omega (arith, root_kid i q));
        side = λ i q k. absurd (omega (arith, root_nxt i q));
        first = λ j p q. absurd (omega arith);
        beside = λ i j p q. absurd (omega arith);
        apart = λ i j p q. absurd (omega arith);
      }

  pub root_deepest : (up : ℕ → ℕ) (key : List ℕ) → Deepest up ys 1 key 0 0
  root_deepest up key = record { short = omega arith; way = (refl, omega arith); ends = λ _ j p q. absurd (omega arith) }

  pub from_root : (up : ℕ → ℕ) (key : List ℕ) (zs : List (Node V)) (n at d : ℕ) → Grew (λ i. 0) ys 1 0 zs n key at d → Grew up xs 0 0 zs n key at d
  from_root up key zs n at d m =
      let by = m.1 in (
        m.0,
        record {
          well = by.well;
          kept = record {
            more = omega arith;
            len = by.kept.len ∙ ap length e ∙ length-set xs 0 blank;
            up_same = λ i h. absurd (omega arith);
            lab_same = λ i h. absurd (omega arith);
            val_same = λ i h. absurd (omega arith);
            val_new = λ i h k. ⊎_elim (λ q. let z : i ≡ 0 = omega arith in by.kept.val_same i q ∙ ap (λ (j : ℕ). val ys j) z ∙ ap (λ (c : Node V). c.value) root_node) (λ q. by.kept.val_new i q k) (cases_lt i 1);
            rest = λ i h. by.kept.rest i h ∙ past_root i (omega (arith, by.kept.more));
          };
          deepest = by.deepest;
          live = λ _. by.live (λ i h ne. absurd (omega arith));
        },
      )
