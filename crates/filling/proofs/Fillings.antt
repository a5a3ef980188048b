-- A filling, part by part. Assumes nothing.
use Rattle.std.proofs.Common.{◌≡◌, ℕ, ◌+◌, List, [], ◌∷◌, ◌++◌, length, drop, Some, None, Ok, Err, Option, Result, sym, refl, ap, ◌∙◌, subst, arith}
use Rattle.keymap.specs.declared.found.MapFault.{MapFault}
use Rattle.keymap.specs.declared.node.KeyMap.{KeyMap}
use Rattle.filling.specs.Filling.{Outcome, onward, filled, Fills, FilledTo, FillsLeft, Puts, PutsLeft}
use Rattle.keymap.specs.Finding.{unless}
use Rattle.keymap.specs.Holding.{Holds}
use Rattle.keymap.specs.Room.{insert_cause, after}
use Rattle.keymap.specs.Stored.{Entry, Stored, put}

module _ {V : Type 0} (supplied : ℕ) where
  on : (o : Option MapFault) (s : Stored V) (a b : Outcome V) (ys : List (Entry V)) → (Ok (tt {0}) ≡ a.said → b ≡ filled supplied a.stored ys) → Ok (tt {0}) ≡ (onward o s a).said → onward o s b ≡ filled supplied (onward o s a).stored ys
  on None s a b ys f h = f h
  on (Some c) s a b ys f h = absurd (let z : ◌≡◌ {A = ℕ} 0 1 = cc in omega arith)

  off : (o : Option MapFault) (s : Stored V) (a b : Outcome V) (fault : MapFault) → (Err fault ≡ a.said → b ≡ a) → Err fault ≡ (onward o s a).said → onward o s b ≡ onward o s a
  off None s a b fault f h = f h
  off (Some c) s a b fault f h = refl

  -- all of a first part is in, and the filling goes on with the rest
  pub filling_goes_on : (s : Stored V) (xs ys : List (Entry V)) → Ok (tt {0}) ≡ (filled supplied s xs).said → filled supplied s (xs ++ ys) ≡ filled supplied (filled supplied s xs).stored ys
  unfolding filled
  filling_goes_on s [] ys h = refl
  filling_goes_on s (e ∷ xs) ys h =
      on (insert_cause supplied s e.key) s (filled supplied (put e.key e.value s) xs) (filled supplied (put e.key e.value s) (xs ++ ys)) ys
      (filling_goes_on (put e.key e.value s) xs ys) h

  -- a first part is refused, and the filling stops there
  pub filling_stops : (s : Stored V) (xs ys : List (Entry V)) (fault : MapFault) → Err fault ≡ (filled supplied s xs).said → filled supplied s (xs ++ ys) ≡ filled supplied s xs
  unfolding filled
  filling_stops s [] ys fault h = absurd (let z : ◌≡◌ {A = ℕ} 0 1 = cc in omega arith)
  filling_stops s (e ∷ xs) ys fault h =
      off (insert_cause supplied s e.key) s (filled supplied (put e.key e.value s) xs) (filled supplied (put e.key e.value s) (xs ++ ys)) fault
      (filling_stops (put e.key e.value s) xs ys fault) h

  module _ (s : Stored V) (e : Entry V) where
    said_by : (o : Option MapFault) → unless o (tt {0}) ≡ (onward o s (record { said = Ok tt; stored = put e.key e.value s })).said
    said_by None = refl
    said_by (Some f) = refl

    stored_by : (o : Option MapFault) → after o e.key e.value s ≡ (onward o s (record { said = Ok tt; stored = put e.key e.value s })).stored
    stored_by None = refl
    stored_by (Some f) = refl

    -- one insert is a filling with one entry
    pub one_said : unless (insert_cause supplied s e.key) (tt {0}) ≡ (filled supplied s (e ∷ [])).said
    unfolding filled
    one_said = said_by (insert_cause supplied s e.key)

    pub one_stored : after (insert_cause supplied s e.key) e.key e.value s ≡ (filled supplied s (e ∷ [])).stored
    unfolding filled
    one_stored = stored_by (insert_cause supplied s e.key)

module _ {V : Type 0} where
  -- an insert fills a map with one entry
  pub insert_fills : (m next : KeyMap V) (r : Result (Unit {0}) MapFault) (e : Entry V) → ((s : Stored V) → Holds m s → r ≡ unless (insert_cause (length m.nodes.now) s e.key) (tt {0})) → ((s : Stored V) → Holds m s → Holds next (after (insert_cause (length m.nodes.now) s e.key) e.key e.value s)) → Fills m next r (e ∷ [])
  insert_fills m next r e said held s h =
      let n = length m.nodes.now in
      (said s h ∙ one_said n s e, subst (λ (x : Stored V). Holds next x) (one_stored n s e) (held s h))

  -- entries part by part: nothing yet, one part more, a refusal, the end
  module _ (start m next : KeyMap V) (es : List (Entry V)) where
    pub left_none : FillsLeft start start es es
    left_none s h = (s, (h, refl))

    module _ (left xs ys : List (Entry V)) (so : FillsLeft start m left es) (parts : left ≡ xs ++ ys) (supplied : length m.nodes.now ≡ length start.nodes.now) where
      abbrev Part : Result (Unit {0}) MapFault → Stored V → ℕ → Type 0
      Part r cur n = (r ≡ (filled n cur xs).said) × Holds next (filled n cur xs).stored

      pub left_more : Fills m next (Ok tt) xs → FillsLeft start next ys es
      left_more fills s h =
          let n = length start.nodes.now in
          let was = so s h in
          let cur = was.0 in
          let f : Part (Ok tt) cur n = subst (Part (Ok tt) cur) supplied (fills cur was.1.0) in
          ((filled n cur xs).stored, (f.1, sym (filling_goes_on n cur xs ys f.0) ∙ (sym (ap (filled n cur) parts) ∙ was.1.1)))

      pub left_stops : (fault : MapFault) → Fills m next (Err fault) xs → Fills start next (Err fault) es
      left_stops fault fills s h =
          let n = length start.nodes.now in
          let was = so s h in
          let cur = was.0 in
          let f : Part (Err fault) cur n = subst (Part (Err fault) cur) supplied (fills cur was.1.0) in
          let whole : filled n cur xs ≡ filled n s es =
          sym (filling_stops n cur xs ys fault f.0) ∙ (sym (ap (filled n cur) parts) ∙ was.1.1) in
          (f.0 ∙ ap (λ (o : Outcome V). o.said) whole, subst (λ (o : Outcome V). Holds next o.stored) whole f.1)

    pub left_all : (left : List (Entry V)) → FillsLeft start m left es → left ≡ [] → Fills start m (Ok tt) es
    unfolding filled
    left_all left so done s h =
        let n = length start.nodes.now in
        let was = so s h in
        let whole : filled n was.0 [] ≡ filled n s es = sym (ap (filled n was.0) done) ∙ was.1.1 in
        (ap (λ (o : Outcome V). o.said) whole, subst (λ (o : Outcome V). Holds m o.stored) whole was.1.0)

  -- the same of entries one by one, by their places
  module _ (start m next : KeyMap V) (es : List (Entry V)) (i : ℕ) where
    pub filled_none : FilledTo start start es 0
    filled_none = left_none start m next es

    pub filled_more : FilledTo start m es i → (e : Entry V) → drop i es ≡ e ∷ drop (i + 1) es → length m.nodes.now ≡ length start.nodes.now → Fills m next (Ok tt) (e ∷ []) → FilledTo start next es (i + 1)
    filled_more so e here supplied = left_more start m next es (drop i es) (e ∷ []) (drop (i + 1) es) so here supplied

    pub filled_stops : FilledTo start m es i → (e : Entry V) → drop i es ≡ e ∷ drop (i + 1) es → length m.nodes.now ≡ length start.nodes.now → (fault : MapFault) → Fills m next (Err fault) (e ∷ []) → Fills start next (Err fault) es
    filled_stops so e here supplied = left_stops start m next es (drop i es) (e ∷ []) (drop (i + 1) es) so here supplied

    pub filled_all : FilledTo start m es i → drop i es ≡ [] → Fills start m (Ok tt) es
    filled_all so done = left_all start m next es (drop i es) so done

-- the same of maps on the same nodes
module _ {V : Type 0} {start m : KeyMap V} {es left : List (Entry V)} (so : PutsLeft start m left es) where
  module _ {next : KeyMap V} (xs ys : List (Entry V)) (parts : left ≡ xs ++ ys) where
    pub puts_more : Puts m next (Ok tt) xs → PutsLeft start next ys es
    puts_more p =
        record {
          lender = p.lender ∙ so.lender;
          supplied = p.supplied ∙ so.supplied;
          fills = left_more start m next es left xs ys so.fills parts so.supplied p.fills;
        }

    pub puts_stops : {fault : MapFault} → Puts m next (Err fault) xs → Puts start next (Err fault) es
    puts_stops {fault} p =
        record {
          lender = p.lender ∙ so.lender;
          supplied = p.supplied ∙ so.supplied;
          fills = left_stops start m next es left xs ys so.fills parts so.supplied fault p.fills;
        }

  pub puts_all : left ≡ [] → Puts start m (Ok tt) es
  puts_all done = record { lender = so.lender; supplied = so.supplied; fills = left_all start m m es left so.fills done }
