-- The search for the marker, byte by byte, and from where it may be resumed. Assumes nothing.
use Rattle.std.proofs.Common.{◌≡◌, ℕ, zero, suc, ◌+◌, ◌-◌, ◌<◌, ◌≤◌, min, Bool, true, false, cond, ◌⊎◌, List, [], ◌∷◌, length, get_or, take, drop, Some, None, Decides, Option, sym, refl, ap, ◌∙◌, inl, inr, arith, nat_le, subst}
use Rattle.std.proofs.lemmas.Slice.Eq.{bytes_eq-Decides}
use Rattle.std.proofs.lemmas.List.{drop_more, drop_all, drop-drop, length-drop, length-take, take-take, take_rest}
use Rattle.std.proofs.lemmas.Slice.{between_is}
use Rattle.std.proofs.lemmas.Bool.{cases_lt}
use Rattle.std.proofs.lemmas.Bool.Decides.{nat_tests, same_from_decides}
use Rattle.std.specs.Str.{bytes_eq}
use Rattle.std.proofs.lemmas.Iterator.Adapters.{position_from-zero}
use Rattle.std.proofs.lemmas.Iterator.Search.{position_from_yields_List}
use Rattle.std.specs.Fn.{Called}
use Rattle.std.specs.Iterator.{YieldsThen}
use Rattle.std.specs.List.{FoldsTo, position_from}
use Rattle.std.specs.Option.{MatchOption}
use denote.Param.Members.{Mut}
use Rattle.std.specs.Slice.Iter.{windows_size, windows_rest, windows_steps}
use Rattle.std.proofs.lemmas.Iterator.{YieldsList}
use Rattle.std.proofs.lemmas.Iterator.Splits.{YieldsList-from_shown_while}
use Rattle.readbuf.specs.Marker.{marker, begins, later, first_marker, resumed, Within}

pub later_none : (o : Option ℕ) → later 0 o ≡ o
later_none None = refl
later_none (Some i) = let e : 0 + i ≡ i = omega arith in ap (λ (n : ℕ). Some n) e

pub later_later : (m n : ℕ) (o : Option ℕ) → later m (later n o) ≡ later (m + n) o
later_later m n None = refl
later_later m n (Some i) = let e : m + (n + i) ≡ m + n + i = omega arith in ap (λ (k : ℕ). Some k) e

none_later : (n : ℕ) (o : Option ℕ) → later n o ≡ None → o ≡ None
none_later n None e = refl
none_later n (Some i) e = absurd (let z : ◌≡◌ {A = ℕ} 0 1 = cc in omega arith)

by_test : (b : ℕ) (text : List ℕ) (t : Bool) → begins marker (b ∷ text) ≡ t → first_marker (b ∷ text) ≡ cond t (Some 0) (later 1 (first_marker text))
unfolding first_marker
by_test b text t e = ap (λ (v : Bool). cond v (Some 0) (later 1 (first_marker text))) e

module _ (text : List ℕ) (i : ℕ) (lt : i < length text) where
  pub marker_here : begins marker (drop i text) ≡ true → later i (first_marker (drop i text)) ≡ Some i
  marker_here e =
      let d = drop_more text i 0 lt in
      let z : i + 0 ≡ i = omega arith in
      ap (λ (l : List ℕ). later i (first_marker l)) d
      ∙ (ap (later i) (by_test (get_or text i 0) (drop (i + 1) text) true (ap (begins marker) (sym d) ∙ e)) ∙ ap (λ (n : ℕ). Some n) z)

  pub marker_more : begins marker (drop i text) ≡ false → later i (first_marker (drop i text)) ≡ later (i + 1) (first_marker (drop (i + 1) text))
  marker_more e =
      let d = drop_more text i 0 lt in
      ap (λ (l : List ℕ). later i (first_marker l)) d
      ∙ (ap (later i) (by_test (get_or text i 0) (drop (i + 1) text) false (ap (begins marker) (sym d) ∙ e)) ∙ later_later i 1 (first_marker (drop (i + 1) text)))

pub marker_all : (text : List ℕ) (i : ℕ) → length text ≤ i → later i (first_marker (drop i text)) ≡ None
unfolding first_marker
marker_all text i h = ap (λ (l : List ℕ). later i (first_marker l)) (drop_all i text h)

pub begins_decides : (front text : List ℕ) → Decides (begins front text) (front ≡ take (length front) text)
unfolding begins
begins_decides front text = bytes_eq-Decides front (take (length front) text)

begins_fits : (front text : List ℕ) → begins front text ≡ true → length front ≤ length text
begins_fits front text e = omega (arith, ap length ((begins_decides front text).0 e), length-take (length front) text)

-- the marker ends within the text
pub found_within : (text : List ℕ) → Within (length text) (first_marker text)
unfolding first_marker
found_within [] = tt
found_within (b ∷ text) = at (begins marker (b ∷ text)) refl (first_marker text) (found_within text)
  where
    at : (t : Bool) → begins marker (b ∷ text) ≡ t → (o : Option ℕ) → Within (length text) o → Within (suc (length text)) (cond t (Some 0) (later 1 o))
    at true e o w = let h = begins_fits marker (b ∷ text) e in omega arith
    at false e None w = tt
    at false e (Some i) w = omega (arith, w)

begins_take : (front text : List ℕ) (n : ℕ) → length front ≤ n → begins front (take n text) ≡ begins front text
unfolding begins
begins_take front text n h = ap (bytes_eq front) (take-take (length front) n text h)

-- where the first s bytes have no marker, none starts more than six bytes before their end
skipped : (k s : ℕ) (text : List ℕ) → k + 6 ≤ s → first_marker (take s text) ≡ None → first_marker text ≡ later k (first_marker (drop k text))
unfolding first_marker
skipped zero s text h e = sym (later_none (first_marker text))
skipped (suc k) s [] h e = refl
skipped (suc k) zero (b ∷ text) h e = absurd (omega arith)
skipped (suc k) (suc s) (b ∷ text) h e = at (begins marker (b ∷ text)) refl (skipped k s text (omega arith))
  where
    front : begins marker (b ∷ take s text) ≡ begins marker (b ∷ text)
    front = begins_take marker (b ∷ text) (suc s) (omega arith)

    at : (t : Bool) → begins marker (b ∷ text) ≡ t → (first_marker (take s text) ≡ None → first_marker text ≡ later k (first_marker (drop k text))) → first_marker (b ∷ text) ≡ later (suc k) (first_marker (drop k text))
    at true q ih = absurd (let p = by_test b (take s text) true (front ∙ q) in let z : ◌≡◌ {A = ℕ} 0 1 = cc in omega arith)
    at false q ih =
        let p = by_test b (take s text) false (front ∙ q) in
        let n : first_marker (take s text) ≡ None = none_later 1 (first_marker (take s text)) (sym p ∙ e) in
        let o : 1 + k ≡ suc k = omega arith in
        by_test b text false q ∙ (ap (later 1) (ih n) ∙ (later_later 1 k (first_marker (drop k text)) ∙ ap (λ (m : ℕ). later m (first_marker (drop k text))) o))

-- a resumed search finds the first marker of all
pub resumed_finds : (s : ℕ) (text : List ℕ) → first_marker (take s text) ≡ None → resumed s text ≡ first_marker text
resumed_finds s text e = by (cases_lt s 6)
  where
    by : (s < 6) ⊎ (6 ≤ s) → resumed s text ≡ first_marker text
    by (inl h) = let z : s - 6 ≡ 0 = omega arith in ap (λ (k : ℕ). later k (first_marker (drop k text))) z ∙ later_none (first_marker text)
    by (inr h) = sym (skipped (s - 6) s text (omega arith) e)

-- past the end there is nothing to find
pub capped : (k : ℕ) (text : List ℕ) → later (min k (length text)) (first_marker (drop (min k (length text)) text)) ≡ later k (first_marker (drop k text))
capped k text = by (cases_lt (length text) k)
  where
    by : (length text < k) ⊎ (k ≤ length text) → later (min k (length text)) (first_marker (drop (min k (length text)) text)) ≡ later k (first_marker (drop k text))
    by (inl h) = marker_all text (min k (length text)) (omega arith) ∙ sym (marker_all text k (omega arith))
    by (inr h) = let z : min k (length text) ≡ k = omega arith in ap (λ (n : ℕ). later n (first_marker (drop n text))) z

-- a search of the held bytes from six before the searched ones end
pub resumed_held : (s from : ℕ) (part held : List ℕ) (o : Option ℕ) → part ≡ held → from ≡ min (s - 6) (length held) → o ≡ first_marker (take (length part - from) (drop from part)) → later from o ≡ resumed s held
resumed_held s from part held o same n e =
    ap (later from) (e ∙ ap first_marker (take_rest part from ∙ ap (drop from) same))
    ∙ (ap (λ (i : ℕ). later i (first_marker (drop i held))) n ∙ capped (s - 6) held)

-- a search of the held bytes, from a part of the array
pub resumed_part : (s start end from : ℕ) (bytes : List ℕ) (o : Option ℕ) → start ≤ end → end ≤ length bytes → from ≡ min (s - 6) (end - start) → o ≡ first_marker (take (end - (start + from)) (drop (start + from) bytes)) → later from o ≡ resumed s (drop start (take end bytes))
resumed_part s start end from bytes o h k f e =
    let held = drop start (take end bytes) in
    let part : take (end - (start + from)) (drop (start + from) bytes) ≡ drop from held = between_is bytes (start + from) end ∙ sym (drop-drop from start (take end bytes)) in
    let n : from ≡ min (s - 6) (length held) = simp (length-drop, length-take) (omega arith) in
    resumed_held s from held held o refl n (e ∙ ap first_marker (part ∙ sym (take_rest held from)))

-- ---- the parts of six bytes, in order

unfoldable pub parts : List ℕ → List (List ℕ)
parts [] = []
parts (b ∷ text) = cond (nat_le 6 (suc (length text))) (take 6 (b ∷ text) ∷ parts text) []

fits_false : (n : ℕ) → n < 6 → nat_le 6 n ≡ false
fits_false n h = grind (arith, nat_tests)

fits_true : (n : ℕ) → 6 ≤ n → nat_le 6 n ≡ true
fits_true n h = grind (arith, nat_tests)

fits_not : (n : ℕ) → nat_le 6 n ≡ false → n < 6
fits_not n e = grind (arith, nat_tests)

parts_none : (text : List ℕ) → length text < 6 → length (parts text) ≡ 0
unfolding parts
parts_none [] h = refl
parts_none (b ∷ text) h = ap (λ (t : Bool). length (cond t (take 6 (b ∷ text) ∷ parts text) [])) (fits_false (suc (length text)) h)

parts_more : (text : List ℕ) → 6 ≤ length text → parts text ≡ take 6 text ∷ parts (drop 1 text)
unfolding parts
parts_more [] h = absurd (omega arith)
parts_more (b ∷ text) h = ap (λ (t : Bool). cond t (take 6 (b ∷ text) ∷ parts text) []) (fits_true (suc (length text)) h)

pub YieldsList-from_windows : {s : _} (text : List ℕ) → windows_rest s ≡ text → windows_size s ≡ 6 → YieldsList windows_steps (λ part. part.now) s (parts text)
YieldsList-from_windows {s} text r e =
    subst (λ (l : List ℕ). YieldsList windows_steps (λ part. part.now) s (parts l)) r
    (YieldsList-from_shown_while windows_steps (λ part. part.now) (λ t. parts (windows_rest t)) (λ t. windows_size t ≡ 6) (λ t u p k. parts_none (windows_rest t) (omega (arith, k.1.0, p)))
    (λ t x u p k.
    let more = parts_more (windows_rest t) (omega (arith, k.1.0, p)) in
    (k.0 ∙ p, cc (more, k.1.1, k.1.2, p))) s e)

short : (text : List ℕ) → length text < 6 → first_marker text ≡ None
unfolding first_marker
short [] h = refl
short (b ∷ text) h = at (begins marker (b ∷ text)) refl (short text (omega arith))
  where
    at : (t : Bool) → begins marker (b ∷ text) ≡ t → first_marker text ≡ None → first_marker (b ∷ text) ≡ None
    at true e ih = absurd (let p = begins_fits marker (b ∷ text) e in omega arith)
    at false e ih = by_test b text false e ∙ ap (later 1) ih

-- a part is the marker where the marker stands in front
part_begins : (text : List ℕ) → bytes_eq (take 6 text) marker ≡ begins marker text
part_begins text =
    let d = bytes_eq-Decides (take 6 text) marker in
    same_from_decides _ _ (λ e. sym (d.0 e), λ e. d.1 (sym e)) (begins_decides marker text)

counted : (q : Bool) (n : ℕ) (o : Option ℕ) → cond q (Some n) (later (n + 1) o) ≡ later n (cond q (Some 0) (later 1 o))
counted true n o = let z : n ≡ n + 0 = omega arith in ap (λ (k : ℕ). Some k) z
counted false n o = sym (later_later n 1 o)

-- the first part that is the marker
parts_first : (text : List ℕ) (n : ℕ) → position_from (λ part. bytes_eq part marker) n (parts text) ≡ later n (first_marker text)
unfolding parts first_marker
parts_first [] n = refl
parts_first (b ∷ text) n = at (nat_le 6 (suc (length text))) refl (parts_first text (n + 1))
  where
    at : (t : Bool) → nat_le 6 (suc (length text)) ≡ t → position_from (λ part. bytes_eq part marker) (n + 1) (parts text) ≡ later (n + 1) (first_marker text)
        → position_from (λ part. bytes_eq part marker) n (cond t (take 6 (b ∷ text) ∷ parts text) []) ≡ later n (first_marker (b ∷ text))
    at true e ih =
        ap (λ (q : Bool). cond q (Some n) (position_from (λ part. bytes_eq part marker) (n + 1) (parts text))) (part_begins (b ∷ text))
        ∙ ap (cond (begins marker (b ∷ text)) (Some n)) ih
        ∙ counted (begins marker (b ∷ text)) n (first_marker text)
    at false e ih = ap (later n) (sym (short (b ∷ text) (fits_not _ e)))

-- what `position` over the parts answers
pub parts_found : {S A F : Type 0} {steps : S → Option A → S → Type 0} {v : A → List ℕ} {g : Mut F (A × Unit {0}) Bool} {s : S} (text : List ℕ) (u : S) (f : F) (r : Option ℕ)
    → (xs : List A) × (o : Option A) × (j : F) × YieldsThen steps s xs o u × FoldsTo (λ p x q. Called g p (x, tt) false q) f xs j × MatchOption o (r ≡ None) (λ x. (r ≡ Some (length xs)) × ((h : F) × Called g j (x, tt) true h))
    → YieldsList steps v s (parts text) → ((x : A) (b : Bool) (q : F) → Called g f (x, tt) b q → (q ≡ f) × (b ≡ bytes_eq (v x) marker)) → r ≡ first_marker text
parts_found text u f r ran road k =
    position_from_yields_List (λ part. bytes_eq part marker) u f r ran road k
    ∙ position_from-zero (λ part. bytes_eq part marker) (parts text)
    ∙ parts_first text 0
    ∙ later_none (first_marker text)
