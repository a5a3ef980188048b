-- A marker that was found stays where it is as bytes follow. Assumes nothing.
use Rattle.std.proofs.Common.{◌≡◌, ℕ, ◌+◌, ◌≤◌, Bool, true, false, cond, List, [], ◌∷◌, ◌++◌, length, Some, None, Option, refl, ap, ◌∙◌, subst, arith}
use Rattle.std.proofs.lemmas.List.{take-append-le}
use Rattle.std.specs.Str.{bytes_eq}
use Rattle.readbuf.proofs.Markers.{found_within}
use Rattle.readbuf.specs.Marker.{marker, begins, later, first_marker, Within}

none_is_not_some : {X : Type 0} (i : ℕ) → ◌≡◌ {A = Option ℕ} None (Some i) → X
none_is_not_some i e = absurd (let z : ◌≡◌ {A = ℕ} 0 1 = cc in omega arith)

-- a marker that was found ends within the text
pub marker_within : (text : List ℕ) (i : ℕ) → first_marker text ≡ Some i → i + 6 ≤ length text
marker_within text i e = subst (Within (length text)) e (found_within text)

-- the same marker stands in front, where there are bytes for it
front_stays : (text extra : List ℕ) → 6 ≤ length text → begins marker (text ++ extra) ≡ begins marker text
unfolding begins
front_stays text extra h = ap (bytes_eq marker) (take-append-le 6 text extra h)

pub marker_stays : (text extra : List ℕ) (i : ℕ) → first_marker text ≡ Some i → first_marker (text ++ extra) ≡ Some i
unfolding first_marker
marker_stays [] extra i e = none_is_not_some i e
marker_stays (b ∷ text) extra i e =
    let h = marker_within (b ∷ text) i e in
    ap (λ (t : Bool). cond t (Some 0) (later 1 (first_marker (text ++ extra)))) (front_stays (b ∷ text) extra (omega (arith, h)))
    ∙ at (begins marker (b ∷ text)) (first_marker text) refl e (marker_stays text extra)
  where
    at : (t : Bool) (o : Option ℕ) → first_marker text ≡ o → cond t (Some 0) (later 1 o) ≡ Some i → ((j : ℕ) → first_marker text ≡ Some j → first_marker (text ++ extra) ≡ Some j) → cond t (Some 0) (later 1 (first_marker (text ++ extra))) ≡ Some i
    at true o q h ih = h
    at false None q h ih = none_is_not_some i h
    at false (Some j) q h ih = ap (later 1) (ih j q) ∙ h
