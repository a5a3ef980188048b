-- A search through a table of texts: by `position`, and by a loop over its places. Assumes nothing.
use Rattle.std.proofs.Common.{◌≡◌, ℕ, ◌+◌, ◌<◌, ◌≤◌, Bool, true, false, cond, List, [], ◌∷◌, length, get_or, drop, map, Option, Some, None, Decides, refl, sym, ap, ◌∙◌}
use Rattle.std.proofs.lemmas.Bool.Decides.{same_from_decides}
use Rattle.std.proofs.lemmas.Iterator.{YieldsList}
use Rattle.std.proofs.lemmas.Iterator.Adapters.{position_from-zero}
use Rattle.std.proofs.lemmas.Iterator.Search.{position_from_yields_List}
use Rattle.std.proofs.lemmas.List.{at_drop_more, at_drop_all}
use Rattle.std.proofs.lemmas.Slice.Eq.{bytes_eq-Decides}
use Rattle.std.specs.Fn.{Called}
use Rattle.std.specs.Iterator.{YieldsThen}
use Rattle.std.specs.List.{FoldsTo, position_from}
use Rattle.std.specs.Option.{MatchOption}
use Rattle.std.specs.Str.{bytes_eq}
use Rattle.keycode.specs.Names.{place_from}
use denote.Param.Members.{Mut}

-- `name` gives the text of an entry
module _ {E : Type 0} (name : E → List ℕ) (text : List ℕ) where
  place_position : (table : List E) (n : ℕ) → position_from (λ entry. bytes_eq (name entry) text) n table ≡ place_from n (map name table) text
  unfolding place_from
  place_position [] n = refl
  place_position (entry ∷ more) n = ap (cond (bytes_eq (name entry) text) (Some n)) (place_position more (n + 1))

  -- what `position` over the table answers
  pub place_from_yields_List : {S A F : Type 0} {steps : S → Option A → S → Type 0} {v : A → E} {g : Mut F (A × Unit {0}) Bool} {s : S} {all : List E} (u : S) (f : F) (r : Option ℕ)
      → (xs : List A) × (o : Option A) × (j : F) × YieldsThen steps s xs o u × FoldsTo (λ p x q. Called g p (x, tt) false q) f xs j × MatchOption o (r ≡ None) (λ x. (r ≡ Some (length xs)) × ((h : F) × Called g j (x, tt) true h))
      → YieldsList steps v s all → ((x : A) (b : Bool) (q : F) → Called g f (x, tt) b q → (q ≡ f) × (b ≡ bytes_eq (name (v x)) text)) → r ≡ place_from 0 (map name all) text
  place_from_yields_List {all = all} u f r ran road k =
      position_from_yields_List (λ entry. bytes_eq (name entry) text) u f r ran road k
      ∙ position_from-zero (λ entry. bytes_eq (name entry) text) all
      ∙ place_position all 0

module _ (table : List (List ℕ)) (text : List ℕ) (i : ℕ) where
  -- one entry is tried, with the answer r, then the rest
  pub place_more : (entry : List ℕ) (r t : Bool) → i < length table → entry ≡ get_or table i [] → Decides r (entry ≡ text) → r ≡ t → place_from i (drop i table) text ≡ cond t (Some i) (place_from (i + 1) (drop (i + 1) table) text)
  unfolding place_from
  place_more entry r t lt here d e =
      at_drop_more (λ l. place_from i l text) table i [] lt
      ∙ ap (λ b. cond b (Some i) (place_from (i + 1) (drop (i + 1) table) text))
      (ap (λ n. bytes_eq n text) (sym here) ∙ (same_from_decides (bytes_eq entry text) r (bytes_eq-Decides entry text) d ∙ e))

  pub place_all : length table ≤ i → place_from i (drop i table) text ≡ None
  unfolding place_from
  place_all le = at_drop_all (λ l. place_from i l text) table i le
