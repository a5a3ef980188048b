-- One more node for one more byte of a key: from the writes to the tree. Assumes nothing.
use Rattle.std.proofs.Common.{◌≡◌, ℕ, ◌+◌, ◌-◌, ◌<◌, ◌≤◌, cond, eqb, List, [], ◌∷◌, reverse, length, get_or, take, drop, set, sym, refl, ap, ◌∙◌, subst, ⊎_elim, arith}
use Rattle.std.proofs.lemmas.List.{get_or-take, get_or-drop, get_or-set_same, get_or-set_other, length-set}
use Rattle.std.proofs.lemmas.Bool.{cases_eq, cases_lt, cond-true, cond-false, eq-eqb, ne_eqb}
use Rattle.keymap.specs.declared.node.Node.{Node}
use Rattle.keymap.specs.Growth.{Kept, GrewBy, Grew, child_set, next_set, linked, newborn, with_child, with_next}
use Rattle.keymap.specs.Tree.{blank, lab, val, kid, nxt, Well, Placed, At, LiveBut, Deepest}
use Rattle.keymap.proofs.Ways.{rev_more, at_in}
use Rattle.keymap.proofs.Links.{Tree, Slot, Grown, grown}

-- a list after two writes, at `n` and then at `t`
module _ {X : Type 0} (ys : List X) (n t : ℕ) (a x d : X) (ln : n < length ys) (lt : t < length ys) (ne : t ≡ n → ⊥) where
  two : List X
  two = set (set ys n a) t x

  two_first : get_or two n d ≡ a
  unfolding two
  two_first = get_or-set_other (set ys n a) t n x d (λ e. ne (sym e)) ∙ get_or-set_same ys n a d ln

  two_second : get_or two t d ≡ x
  unfolding two
  two_second = get_or-set_same (set ys n a) t x d (subst (λ (k : ℕ). t < k) (sym (length-set ys n a)) lt)

  two_other : (i : ℕ) → (i ≡ n → ⊥) → (i ≡ t → ⊥) → get_or two i d ≡ get_or ys i d
  unfolding two
  two_other i p q = get_or-set_other (set ys n a) t i x d q ∙ get_or-set_other ys n i a d p

-- node n is a newborn between before and here among the children of at, and the other nodes are as they were
pub record Linked {V : Type 0} (ys zs : List (Node V)) (n at b before here : ℕ) : Type 0 where
  pub len : length zs ≡ length ys
  pub new : get_or zs n blank ≡ newborn b here
  pub at_first : before ≡ 0 → get_or zs at blank ≡ with_child (get_or ys at blank) n
  pub same_first : before ≡ 0 → (i : ℕ) → (i ≡ n → ⊥) → (i ≡ at → ⊥) → get_or zs i blank ≡ get_or ys i blank
  pub at_next : (before ≡ 0 → ⊥) → get_or zs before blank ≡ with_next (get_or ys before blank) n
  pub same_next : (before ≡ 0 → ⊥) → (i : ℕ) → (i ≡ n → ⊥) → (i ≡ before → ⊥) → get_or zs i blank ≡ get_or ys i blank

module _ {V : Type 0} (ys : List (Node V)) (n at b before here : ℕ) (ln : n < length ys) (la : at < n) (lb : before < n) where
  zs : List (Node V)
  zs = linked ys n at b before here

  one : List (Node V)
  one = child_set (set ys n (newborn b here)) at n

  other : List (Node V)
  other = next_set (set ys n (newborn b here)) before n

  is_one : before ≡ 0 → zs ≡ one
  unfolding zs one
  is_one z = cond-true (eqb before 0) _ _ (eq-eqb before 0 z)

  is_other : (before ≡ 0 → ⊥) → zs ≡ other
  unfolding zs other
  is_other nz = cond-false (eqb before 0) _ _ (ne_eqb before 0 nz)

  get : ℕ → List (Node V) → Node V
  get i l = get_or l i blank

  pub is_linked : Linked ys (linked ys n at b before here) n at b before here
  unfolding zs one other get two
  is_linked =
      record {
        len = ⊎_elim (λ z. ap length (is_one z) ∙ simp length-set) (λ nz. ap length (is_other nz) ∙ simp length-set) (cases_eq before 0);
        new = ⊎_elim (λ z. ap (get n) (is_one z) ∙ two_first ys n at (newborn b here) _ blank ln (omega arith) (λ e. omega arith))
            (λ nz. ap (get n) (is_other nz) ∙ two_first ys n before (newborn b here) _ blank ln (omega arith) (λ e. omega arith)) (cases_eq before 0);
        at_first = λ z. ap (get at) (is_one z) ∙ two_second ys n at (newborn b here) _ blank ln (omega arith) (λ e. omega arith)
            ∙ ap (λ (m : Node V). with_child m n) (get_or-set_other ys n at (newborn b here) blank (λ e. omega arith));
        same_first = λ z i p q. ap (get i) (is_one z) ∙ two_other ys n at (newborn b here) _ blank ln (omega arith) (λ e. omega arith) i p q;
        at_next = λ nz. ap (get before) (is_other nz) ∙ two_second ys n before (newborn b here) _ blank ln (omega arith) (λ e. omega arith)
            ∙ ap (λ (m : Node V). with_next m n) (get_or-set_other ys n before (newborn b here) blank (λ e. omega arith));
        same_next = λ nz i p q. ap (get i) (is_other nz) ∙ two_other ys n before (newborn b here) _ blank ln (omega arith) (λ e. omega arith) i p q;
      }

-- the parents, with at as the parent of n
pub up_with : (ℕ → ℕ) → ℕ → ℕ → ℕ → ℕ
up_with up n at i = cond (eqb i n) at (up i)

up_with_new : (up : ℕ → ℕ) (n at : ℕ) → up_with up n at n ≡ at
unfolding up_with
up_with_new up n at = cond-true (eqb n n) at (up n) (eq-eqb n n refl)

up_with_old : (up : ℕ → ℕ) (n at i : ℕ) → i < n → up_with up n at i ≡ up i
unfolding up_with
up_with_old up n at i l = cond-false (eqb i n) at (up i) (ne_eqb i n (λ e. omega arith))

module _ {V : Type 0} (ys zs : List (Node V)) (n at b before here : ℕ) (k : Linked ys zs n at b before here) where
  -- a field that the write leaves alone
  field_old : {A : Type 0} (f : Node V → A) → ((m : Node V) (c : ℕ) → f (with_child m c) ≡ f m) → ((m : Node V) (c : ℕ) → f (with_next m c) ≡ f m) → (i : ℕ) → i < n → f (get_or zs i blank) ≡ f (get_or ys i blank)
  field_old f hc hn i l =
      ⊎_elim
      (λ z. ⊎_elim (λ e. ap (λ (j : ℕ). f (get_or zs j blank)) e ∙ ap f (k.at_first z) ∙ hc (get_or ys at blank) n ∙ ap (λ (j : ℕ). f (get_or ys j blank)) (sym e))
      (λ ne. ap f (k.same_first z i (λ e. omega arith) ne)) (cases_eq i at))
      (λ nz. ⊎_elim (λ e. ap (λ (j : ℕ). f (get_or zs j blank)) e ∙ ap f (k.at_next nz) ∙ hn (get_or ys before blank) n ∙ ap (λ (j : ℕ). f (get_or ys j blank)) (sym e))
      (λ ne. ap f (k.same_next nz i (λ e. omega arith) ne)) (cases_eq i before))
      (cases_eq before 0)

  pub lab_old : (i : ℕ) → i < n → lab zs i ≡ lab ys i
  lab_old = field_old (λ m. m.label) (λ m c. refl) (λ m c. refl)

  pub val_old : (i : ℕ) → i < n → val zs i ≡ val ys i
  val_old = field_old (λ m. m.value) (λ m c. refl) (λ m c. refl)

  kid_old : (i : ℕ) → i < n → (before ≡ 0 → i ≡ at → ⊥) → kid zs i ≡ kid ys i
  kid_old i l no-at =
      ⊎_elim (λ z. ap (λ (m : Node V). m.child) (k.same_first z i (λ e. omega arith) (no-at z)))
      (λ nz. ⊎_elim (λ e. ap (λ (j : ℕ). kid zs j) e ∙ ap (λ (m : Node V). m.child) (k.at_next nz) ∙ ap (λ (j : ℕ). kid ys j) (sym e))
      (λ ne. ap (λ (m : Node V). m.child) (k.same_next nz i (λ e. omega arith) ne)) (cases_eq i before))
      (cases_eq before 0)

  nxt_old : (i : ℕ) → i < n → (0 < before → i ≡ before → ⊥) → nxt zs i ≡ nxt ys i
  nxt_old i l no-b =
      ⊎_elim
      (λ z. ⊎_elim (λ e. ap (λ (j : ℕ). nxt zs j) e ∙ ap (λ (m : Node V). m.next) (k.at_first z) ∙ ap (λ (j : ℕ). nxt ys j) (sym e))
      (λ ne. ap (λ (m : Node V). m.next) (k.same_first z i (λ e. omega arith) ne)) (cases_eq i at))
      (λ nz. ap (λ (m : Node V). m.next) (k.same_next nz i (λ e. omega arith) (no-b (omega arith))))
      (cases_eq before 0)

  module _ (up : ℕ → ℕ) (key : List ℕ) (d : ℕ) (w : Well up ys n) (dp : Deepest up ys n key at d) (h : d < length key) (is_b : b ≡ get_or key d 0) (p : Placed up ys n at b before here) (room : n < length ys) where
    slot : Slot up (lab ys) (kid ys) (nxt ys) n at b before here
    slot =
        let none : (j : ℕ) → 0 < j → j < n → up j ≡ at → lab ys j ≡ b → ⊥ = λ j q l e m. dp.ends h j q l e (m ∙ is_b) in
        record {
          at_in = at_in up ys n w (reverse (take d key)) at dp.way;
          here_in = p.walked.here_in;
          high = λ q. let ne : lab ys here ≡ b → ⊥ = none here q (p.walked.here_in q).0 (p.walked.here_in q).1 in omega (arith, p.high q);
          before_none = p.walked.before_none;
          before_in = p.walked.before_in;
          none = none;
        }

    grown_by : Grown up (lab ys) (kid ys) (nxt ys) (up_with up n at) (lab zs) (kid zs) (nxt zs) n at b before here
    grown_by =
        record {
          lab_new = ap (λ (m : Node V). m.label) k.new;
          lab_old = lab_old;
          kid_new = ap (λ (m : Node V). m.child) k.new;
          kid_at = λ z. ap (λ (m : Node V). m.child) (k.at_first z);
          kid_old = kid_old;
          nxt_new = ap (λ (m : Node V). m.next) k.new;
          nxt_before = λ q. ap (λ (m : Node V). m.next) (k.at_next (λ z. omega arith));
          nxt_old = nxt_old;
          up_new = up_with_new up n at;
          up_old = up_with_old up n at;
        }

    tree_of : Tree up (lab ys) (kid ys) (nxt ys) n
    tree_of = record { above = w.above; down = w.down; side = w.side; first = w.first; beside = w.beside; apart = w.apart }

    next_tree : Tree (up_with up n at) (lab zs) (kid zs) (nxt zs) (n + 1)
    next_tree = grown up (lab ys) (kid ys) (nxt ys) (up_with up n at) (lab zs) (kid zs) (nxt zs) n at b before here tree_of slot grown_by

    next_well : Well (up_with up n at) zs (n + 1)
    next_well =
        let t = next_tree in
        record { room = omega (arith, k.len); above = t.above; down = t.down; side = t.side; first = t.first; beside = t.beside; apart = t.apart }

    at_kept : (q : List ℕ) (j : ℕ) → At up ys n q j → At (up_with up n at) zs (n + 1) q j
    at_kept [] j a = (a.0, omega (arith, a.1))
    at_kept (x ∷ q) j a =
        (a.0, omega (arith, a.1), lab_old j a.1 ∙ a.2, subst (λ (i : ℕ). At (up_with up n at) zs (n + 1) q i) (sym (up_with_old up n at j a.1)) (at_kept q (up j) a.3))

    next_deepest : Deepest (up_with up n at) zs (n + 1) key n (d + 1)
    next_deepest =
        record {
          short = omega arith;
          way = subst (λ (l : List ℕ). At (up_with up n at) zs (n + 1) l n) (sym (rev_more key d h))
              (omega (arith, slot.at_in), omega arith, ap (λ (m : Node V). m.label) k.new ∙ is_b, subst (λ (i : ℕ). At (up_with up n at) zs (n + 1) (reverse (take d key)) i) (sym (up_with_new up n at)) (at_kept (reverse (take d key)) at dp.way));
          ends = λ _ j q l e m. omega (arith, next_tree.above j q l);
        }

    next_live : LiveBut ys n at → LiveBut zs (n + 1) n
    next_live lv i l ne kz vz =
        let li : i < n = omega arith in
        ⊎_elim
        (λ e.
        ⊎_elim (λ z. omega (arith, ap (λ (j : ℕ). kid zs j) e, grown_by.kid_at z, slot.at_in))
        (λ nz.
        let bi = slot.before_in (omega arith) in
        let f = w.first before (omega arith) bi.0 in
        omega (arith, kid_old i li (λ z _. nz z), ap (λ (j : ℕ). kid ys j) e, f.0, ap (λ (j : ℕ). kid ys j) bi.1))
        (cases_eq before 0))
        (λ na. lv i li na (sym (kid_old i li (λ _ e. na e)) ∙ kz) (sym (val_old i li) ∙ vz))
        (cases_eq i at)

    -- the nodes past the new one
    past_same : (i : ℕ) → n + 1 ≤ i → get_or zs i blank ≡ get_or ys i blank
    past_same i l =
        ⊎_elim (λ z. k.same_first z i (λ e. omega arith) (λ e. omega (arith, slot.at_in)))
        (λ nz. k.same_next nz i (λ e. omega arith) (λ e. omega (arith, (slot.before_in (omega arith)).0)))
        (cases_eq before 0)

    next_kept : (up0 : ℕ → ℕ) (xs : List (Node V)) (u : ℕ) → Kept up0 xs u up ys n → Kept up0 xs u (up_with up n at) zs (n + 1)
    next_kept up0 xs u q =
        record {
          more = omega (arith, q.more);
          len = k.len ∙ q.len;
          up_same = λ i l. up_with_old up n at i (omega (arith, q.more)) ∙ q.up_same i l;
          lab_same = λ i l. lab_old i (omega (arith, q.more)) ∙ q.lab_same i l;
          val_same = λ i l. val_old i (omega (arith, q.more)) ∙ q.val_same i l;
          val_new = λ i l m.
              ⊎_elim (λ lt. val_old i lt ∙ q.val_new i l lt)
              (λ ge. let e : i ≡ n = omega arith in ap (λ (j : ℕ). val zs j) e ∙ ap (λ (c : Node V). c.value) k.new) (cases_lt i n);
          rest = λ i l. past_same i l ∙ q.rest i (omega arith);
        }

-- nothing is added yet
pub grew_start : {V : Type 0} (up : ℕ → ℕ) (xs : List (Node V)) (u : ℕ) (key : List ℕ) (at d : ℕ) → Well up xs u → Deepest up xs u key at d → Grew up xs u at xs u key at d
grew_start up xs u key at d w dp = (
  up,
  record {
    well = w;
    kept = record { more = omega arith; len = refl; up_same = λ i l. refl; lab_same = λ i l. refl; val_same = λ i l. refl; val_new = λ i l m. absurd (omega arith); rest = λ i l. refl };
    deepest = dp;
    live = λ lv. lv;
  },
)

pub before_lt : {V : Type 0} (up : ℕ → ℕ) (xs : List (Node V)) (u at b before here : ℕ) → at < u → Placed up xs u at b before here → before < u
before_lt up xs u at b before here l p = ⊎_elim (λ z. omega arith) (λ nz. (p.walked.before_in (omega arith)).0) (cases_eq before 0)

-- one more node, for one more byte
pub grew_step : {V : Type 0} (up : ℕ → ℕ) (xs : List (Node V)) (u s : ℕ) (ys zs : List (Node V)) (n : ℕ) (key : List ℕ) (at d b before here : ℕ) → Grew up xs u s ys n key at d → d < length key → b ≡ get_or key d 0 → ((up1 : ℕ → ℕ) → Well up1 ys n → Placed up1 ys n at b before here) → n < length ys → zs ≡ linked ys n at b before here → Grew up xs u s zs (n + 1) key n (d + 1)
grew_step up xs u s ys zs n key at d b before here m h is_b p room e =
    let up1 = m.0 in
    let by = m.1 in
    let q = p up1 by.well in
    let la : at < n = at_in up1 ys n by.well (reverse (take d key)) at by.deepest.way in
    let k : Linked ys zs n at b before here = subst (λ (l : List (Node _)). Linked ys l n at b before here) (sym e) (is_linked ys n at b before here room la (before_lt up1 ys n at b before here la q)) in (
      up_with up1 n at,
      record {
        well = next_well ys zs n at b before here k up1 key d by.well by.deepest h is_b q room;
        kept = next_kept ys zs n at b before here k up1 key d by.well by.deepest h is_b q room up xs u by.kept;
        deepest = next_deepest ys zs n at b before here k up1 key d by.well by.deepest h is_b q room;
        live = λ lv. next_live ys zs n at b before here k up1 key d by.well by.deepest h is_b q room (by.live lv);
      },
    )

pub grew_end : {V : Type 0} (up : ℕ → ℕ) (xs : List (Node V)) (u s : ℕ) (ys : List (Node V)) (n m : ℕ) (key : List ℕ) (at d e : ℕ) → n ≡ m → d ≡ e → Grew up xs u s ys n key at d → Grew up xs u s ys m key at e
grew_end up xs u s ys n m key at d e p q k =
    subst (λ (i : ℕ). Grew up xs u s ys m key at i) q (subst (λ (i : ℕ). Grew up xs u s ys i key at d) p k)

-- the last node is one of the caller's
pub grown_inside : {V : Type 0} {up : ℕ → ℕ} {xs : List (Node V)} {u s : ℕ} {up' : ℕ → ℕ} {ys : List (Node V)} {n : ℕ} {key : List ℕ} {at d : ℕ} → GrewBy up xs u s up' ys n key at d → at < length ys
grown_inside {up' = up'} {ys} {n} {key} {at} {d} g = omega (arith, at_in up' ys n g.well (reverse (take d key)) at g.deepest.way, g.well.room)

-- a byte of the rest of a key
pub rest_byte : (key : List ℕ) (start i : ℕ) → start + i < length key → get_or (take (length key - start) (drop start key)) i 0 ≡ get_or key (start + i) 0
rest_byte key start i h = get_or-take (length key - start) (drop start key) i 0 (omega arith) ∙ get_or-drop start key i 0
