-- Records, the texts behind them, and one record more. Assumes nothing.
use Rattle.std.proofs.Common.{◌≡◌, ℕ, suc, ◌+◌, ◌<◌, ◌≤◌, Bool, true, false, cond, ◌&&◌, ltb, leb, ◌≢◌, List, [], ◌∷◌, ◌++◌, map, length, get_or, take, drop, set, Some, None, Option, sym, refl, ap, ◌∙◌, arith, length-drop, below_more}
use Rattle.std.proofs.Math.ListN.{length-map}
use Rattle.std.proofs.lemmas.List.{drop-take, take-take, take_at, drop_at, length-take-le, get_or-take, take_more_set, map_push, get_or-set_same, get_or-set_other, get_or-map}
use Rattle.std.proofs.lemmas.Option.{slice_get-get_or}
use Rattle.std.proofs.lemmas.Bool.{lt-ltb, le-ltb, le-leb, lt-leb}
use Rattle.std.specs.List.{slice_get}
use Rattle.events.specs.Told.{Told, key, paste, report, text_of}
use Rattle.events.specs.Records.{none, told_of, record_at, size_of, end_of, total}
use Rattle.events.specs.Queues.{Holding, text_bytes, queue_offer, held_by}
use Rattle.events.specs.declared.queue.Queue.{Queue}
use Rattle.events.specs.declared.stored.Record.{Record}
use Rattle.events.specs.declared.stored.Record.TheVariants.{Key, Paste, Report}

and_false : (a : Bool) → (a && false) ≡ false
and_false true = refl
and_false false = refl

-- every text ends by a place
abbrev pub EndBy : ℕ → List Record → Type 0
EndBy most rs = (i : ℕ) → i < length rs → end_of (get_or rs i none) ≤ most

module _ (text after : List ℕ) (used : ℕ) (same : take used after ≡ take used text) where
  -- bytes before the end stay
  part_kept : (start n : ℕ) → start + n ≤ used → take n (drop start after) ≡ take n (drop start text)
  part_kept start n h =
      sym (drop-take start n after)
      ∙ (ap (drop start) (sym (take-take (start + n) used after h) ∙ (ap (take (start + n)) same ∙ take-take (start + n) used text h))
      ∙ drop-take start n text)

  told_kept : (r : Record) → end_of r ≤ used → told_of after r ≡ told_of text r
  told_kept (Key e) h = refl
  told_kept (Paste start n) h = ap paste (part_kept start n h)
  told_kept (Report r) h = refl

  pub tolds_kept : (rs : List Record) → EndBy used rs → map (told_of after) rs ≡ map (told_of text) rs
  tolds_kept [] h = refl
  tolds_kept (r ∷ rs) h = let e = told_kept r (h 0 (omega arith)) in let f = tolds_kept rs (λ i l. h (suc i) (omega arith)) in cc

module _ (text : List ℕ) where
  size_told : (r : Record) → end_of r ≤ length text → length (text_of (told_of text r)) ≡ size_of r
  size_told (Key e) h = refl
  size_told (Paste start n) h = length-take-le n (drop start text) (omega (arith, length-drop start text))
  size_told (Report r) h = refl

  -- the texts of the events have the bytes of the records
  pub sizes_told : (rs : List Record) → EndBy (length text) rs → text_bytes (map (told_of text) rs) ≡ total rs
  sizes_told [] h = refl
  sizes_told (r ∷ rs) h =
      omega (arith, size_told r (h 0 (omega arith)), sizes_told rs (λ i l. h (suc i) (omega arith)))

module _ (start : ℕ) where
  -- an event is that of its record, where its text stands at the place
  pub told_at : (e : Told) (text : List ℕ) → take (length (text_of e)) (drop start text) ≡ text_of e → told_of text (record_at start e) ≡ e
  told_at (key e) text h = refl
  told_at (paste t) text h = ap paste h
  told_at (report r) text h = refl

  size_at : (e : Told) → size_of (record_at start e) ≡ length (text_of e)
  size_at (key e) = refl
  size_at (paste t) = refl
  size_at (report r) = refl

  end_at : (e : Told) → end_of (record_at start e) ≤ start + length (text_of e)
  end_at (key e) = omega arith
  end_at (paste t) = omega arith
  end_at (report r) = omega arith

pub total_push : (rs : List Record) (r : Record) → total (rs ++ (r ∷ [])) ≡ total rs + size_of r
total_push [] r = omega arith
total_push (x ∷ rs) r = omega (arith, total_push rs r)

module _ {R T : ℕ} (q : Queue R T) where
  abbrev events : List Told
  events = (held_by q).taken

  pub ends : (most : ℕ) → q.used ≤ most → EndBy most (take q.count q.records)
  ends most h i l =
      let e = length-take-le q.count q.records (omega arith) in
      let lt : i < q.count = omega arith in
      omega (arith, q.within i lt, ap end_of (get_or-take q.count q.records i none lt))

  pub count_is : length (held_by q).taken ≡ q.count
  count_is = length-map (take q.count q.records) (told_of q.texts.bytes) ∙ length-take-le q.count q.records (omega arith)

  pub event_at : (i : ℕ) → i < q.count → slice_get (held_by q).taken i ≡ Some (told_of q.texts.bytes (get_or q.records i none))
  event_at i l =
      let e = length-take-le q.count q.records (omega arith) in
      slice_get-get_or events i (told_of q.texts.bytes none) (omega (arith, count_is))
      ∙ ap Some (get_or-map (told_of q.texts.bytes) (take q.count q.records) i none _ (omega arith) ∙ ap (told_of q.texts.bytes) (get_or-take q.count q.records i none l))

  size_is : text_bytes events ≡ q.used
  size_is = sizes_told q.texts.bytes (take q.count q.records) (ends (length q.texts.bytes) (omega arith)) ∙ sym q.full

  abbrev with : Told → Option Holding
  with e = Some (record { taken = events ++ (e ∷ []); records = R; bytes = T })

  free : (e : Told) (a b : Bool) → ltb (length events) R ≡ a → leb (text_bytes events + length (text_of e)) T ≡ b → queue_offer (held_by q) e ≡ cond (a && b) (with e) None
  free e a b f g = ap (λ (x : Bool). cond (x && leb (text_bytes events + length (text_of e)) T) (with e) None) f ∙ ap (λ (x : Bool). cond (a && x) (with e) None) g

  pub no_record : (e : Told) → R ≤ q.count → queue_offer (held_by q) e ≡ None
  no_record e h = free e false (leb (text_bytes events + length (text_of e)) T) (le-ltb _ _ (omega (arith, count_is))) refl

  pub no_text : (e : Told) → T < q.used + length (text_of e) → queue_offer (held_by q) e ≡ None
  no_text e h =
      free e (ltb (length events) R) false refl (lt-leb _ _ (omega (arith, size_is)))
      ∙ ap (λ (b : Bool). cond b (with e) None) (and_false (ltb (length events) R))

  -- the record r of an event whose text has the n bytes behind the others
  module _ (e : Told) (r : Record) (n : ℕ) (is : r ≡ record_at q.used e) (long : n ≡ length (text_of e)) (room : q.count < R) where
    inside : q.count < length q.records
    inside = omega arith

    -- each text ends by the last one's end
    pub within_push : (i : ℕ) → i < q.count + 1 → end_of (get_or (set q.records q.count r) i none) ≤ q.used + n
    within_push =
        below_more (λ i. end_of (get_or (set q.records q.count r) i none) ≤ q.used + n) q.count
        (λ i l. let ne : i ≢ q.count = omega arith in omega (arith, q.within i l, ap end_of (get_or-set_other q.records q.count i r none ne)))
        (omega (arith, end_at q.used e, ap end_of is, ap end_of (get_or-set_same q.records q.count r none inside)))

    pub full_push : q.used + n ≡ total (take (q.count + 1) (set q.records q.count r))
    full_push =
        omega (arith, q.full, size_at q.used e, ap size_of is, total_push (take q.count q.records) r, ap total (take_more_set q.records q.count r inside))

    module _ (after : List ℕ) (written : take (q.used + n) after ≡ take q.used q.texts.bytes ++ text_of e) where
      front : length (take q.used q.texts.bytes) ≡ q.used
      front = length-take-le q.used q.texts.bytes (omega arith)

      same : take q.used after ≡ take q.used q.texts.bytes
      same =
          sym (take-take q.used (q.used + n) after (omega arith))
          ∙ (ap (take q.used) written ∙ take_at (take q.used q.texts.bytes) (text_of e) q.used front)

      here : take n (drop q.used after) ≡ text_of e
      here =
          sym (drop-take q.used n after)
          ∙ (ap (drop q.used) written ∙ drop_at (take q.used q.texts.bytes) (text_of e) q.used front)

      -- the events, and one more
      pushed : map (told_of after) (take (q.count + 1) (set q.records q.count r)) ≡ events ++ (e ∷ [])
      pushed =
          ap (map (told_of after)) (take_more_set q.records q.count r inside)
          ∙ (map_push (told_of after) (take q.count q.records) r
          ∙ (ap (λ (es : List Told). es ++ (told_of after r ∷ [])) (tolds_kept q.texts.bytes after q.used same (take q.count q.records) (ends q.used (omega arith)))
          ∙ ap (λ (x : Told). events ++ (x ∷ [])) (ap (told_of after) is ∙ told_at q.used e after (ap (λ (k : ℕ). take k (drop q.used after)) (sym long) ∙ here))))

      -- the queue takes it
      pub takes : q.used + n ≤ T → queue_offer (held_by q) e ≡ Some (record { taken = map (told_of after) (take (q.count + 1) (set q.records q.count r)); records = R; bytes = T })
      takes fit =
          free e true true (lt-ltb _ _ (omega (arith, count_is))) (le-leb _ _ (omega (arith, size_is)))
          ∙ ap (λ (es : List Told). Some (record { taken = es; records = R; bytes = T })) (sym pushed)
