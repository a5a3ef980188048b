-- An open turn that goes on is the same turn for every longer input, open or closed. Assumes nothing.
use Rattle.std.proofs.Common.{◌≡◌, ℕ, ◌+◌, Bool, true, false, cond, ◌&&◌, eqb, ltb, List, [], ◌∷◌, ◌++◌, length, Some, None, Option, sym, refl, ap, ◌∙◌, subst, arith}
use Rattle.std.proofs.lemmas.List.{take-append-le}
use Rattle.std.proofs.lemmas.Bool.{eqb-true, lt-ltb}
use Rattle.events.specs.Steady.{Steady}
use Rattle.events.specs.Told.{Told, paste}
use Rattle.events.specs.declared.event.Seen.{Seen}
use Rattle.events.specs.declared.event.Seen.TheVariants.{NoReport, More, Found as Reported}
use Rattle.filling.proofs.Laws.{none_stays, open_exact_stays}
use Rattle.keycode.specs.declared.key.KeyEvent.{KeyEvent}
use Rattle.keymap.specs.declared.found.Found.{Found}
use Rattle.keymap.specs.declared.found.Found.TheVariants.{None as NoKey, Exact, Ambiguous, NeedData}
use Rattle.keymap.specs.Finding.{found}
use Rattle.lawful.specs.Lawful.{is_plain_escape, lawful}
use Rattle.readbuf.specs.Marker.{first_marker}
use Rattle.text.proofs.Readings.{reading_settled}
use Rattle.text.specs.declared.kinds.Character.{Character}
use Rattle.text.specs.declared.kinds.Character.TheVariants.{Scalar, IllFormed, Partial, Empty}
use Rattle.text.specs.Reading.{character_of, settled}
use Rattle.reading.proofs.Markers.{marker_within, marker_stays}
use Rattle.reading.proofs.Tables.{exact_sized, lone_escape_waits}
use Rattle.reading.specs.declared.state.InputState.{InputState}
use Rattle.reading.specs.declared.state.InputState.TheVariants.{Normal, EscapeMaybeAlt, Pasting}
use Rattle.reading.specs.Turns.{Rules, Turn, stay, go, leads_to_alt, character_turn, found_turn, table_turn, seen_turn, marker_turn, turn, starts_paste, paste_turn, press_in}

abbrev goes : Turn → Bool
goes stay = false
goes (go e state n) = true

stay_is_not_go : {X : Type 0} (e : Option Told) (state : InputState) (n : ℕ) → stay ≡ go e state n → X
stay_is_not_go e state n h = absurd (let t : false ≡ true = ap goes h in let z : ◌≡◌ {A = ℕ} 0 1 = cc in omega arith)

module _ (bytes extra : List ℕ) (e : Option Told) (next : InputState) (n : ℕ) where
  -- a character, whole or ill-formed
  character_stays : (state : InputState) → character_turn state (character_of bytes) ≡ go e next n → character_turn state (character_of (bytes ++ extra)) ≡ go e next n
  character_stays state h = by (character_of bytes) refl
    where
      same : settled (character_of bytes) ≡ true → character_turn state (character_of (bytes ++ extra)) ≡ go e next n
      same t = ap (character_turn state) (reading_settled bytes extra t) ∙ h

      by : (r : Character) → character_of bytes ≡ r → character_turn state (character_of (bytes ++ extra)) ≡ go e next n
      by (Scalar c k) q = same (ap settled q)
      by (IllFormed k) q = same (ap settled q)
      by Partial q = stay_is_not_go e next n (sym (ap (character_turn state) q) ∙ h)
      by Empty q = stay_is_not_go e next n (sym (ap (character_turn state) q) ∙ h)

  -- the text of a paste
  paste_stays : marker_turn bytes (first_marker bytes) ≡ go e next n → marker_turn (bytes ++ extra) (first_marker (bytes ++ extra)) ≡ go e next n
  paste_stays h = by (first_marker bytes) refl
    where
      by : (o : Option ℕ) → first_marker bytes ≡ o → marker_turn (bytes ++ extra) (first_marker (bytes ++ extra)) ≡ go e next n
      by None q = stay_is_not_go e next n (sym (ap (marker_turn bytes) q) ∙ h)
      by (Some i) q =
          ap (marker_turn (bytes ++ extra)) (marker_stays bytes extra i q)
          ∙ (ap (λ (text : List ℕ). go (Some (paste text)) Normal (i + 6)) (take-append-le i bytes extra (omega (arith, marker_within bytes i q)))
          ∙ (sym (ap (marker_turn bytes) q) ∙ h))

module _ (g : Rules) (law : lawful g.table ≡ true) where
  -- whether ESC leads to ALT does not change, since ESC alone as plain Escape is not exact
  leads_stays : (state : InputState) (bytes extra : List ℕ) (n : ℕ) (k : KeyEvent) → found g.table bytes true ≡ Exact n k → leads_to_alt state (bytes ++ extra) n k ≡ leads_to_alt state bytes n k
  leads_stays EscapeMaybeAlt bytes extra n k f = refl
  leads_stays Pasting bytes extra n k f = refl
  leads_stays Normal [] extra n k f = let z = exact_sized g.table law [] true n k f in absurd (omega (arith, z.0, z.1))
  leads_stays Normal (b ∷ []) extra n k f =
      by (eqb n 1) refl (eqb b 27) refl (is_plain_escape k) refl (ltb 1 (length (b ∷ extra)))
    where
      by : (x : Bool) → eqb n 1 ≡ x → (y : Bool) → eqb b 27 ≡ y → (z : Bool) → is_plain_escape k ≡ z → (d : Bool) → (x && (y && (z && d))) ≡ (x && (y && (z && false)))
      by false p y q z r d = refl
      by true p false q z r d = refl
      by true p true q false r d = refl
      by true p true q true r d =
          let n1 = eqb-true n 1 p in
          let b27 = eqb-true b 27 q in
          let f1 : found g.table (27 ∷ []) true ≡ Exact 1 k = subst (λ (x : ℕ). found g.table (x ∷ []) true ≡ Exact 1 k) b27 (f ∙ ap (λ (i : ℕ). Exact i k) n1) in
          absurd (lone_escape_waits g.table law k f1 r)
  leads_stays Normal (b ∷ c ∷ bytes) extra n k f =
      let more = lt-ltb 1 (length (b ∷ c ∷ bytes ++ extra)) (omega arith) in
      let was = lt-ltb 1 (length (b ∷ c ∷ bytes)) (omega arith) in
      ap (λ (d : Bool). eqb n 1 && (eqb b 27 && (is_plain_escape k && d))) (more ∙ sym was)

  module _ (bytes extra : List ℕ) (more : Bool) (e : Option Told) (next : InputState) (n : ℕ) where
    -- what the table finds
    table_stays : (state : InputState) → table_turn g true state bytes ≡ go e next n → table_turn g more state (bytes ++ extra) ≡ go e next n
    table_stays state h = by (found g.table bytes true) refl h
      where
        by : (f : Found KeyEvent) → found g.table bytes true ≡ f → found_turn true state bytes f ≡ go e next n → table_turn g more state (bytes ++ extra) ≡ go e next n
        by NoKey q h =
            ap (found_turn more state (bytes ++ extra)) (none_stays g.table bytes extra true more q) ∙ character_stays bytes extra e next n state h
        by NeedData q h = stay_is_not_go e next n h
        by (Ambiguous k v) q h = stay_is_not_go e next n h
        by (Exact k v) q h =
            let z = exact_sized g.table law bytes true k v q in
            ap (found_turn more state (bytes ++ extra)) (open_exact_stays g.table bytes extra k v more (omega (arith, z.0, z.1)) q)
            ∙ (ap (λ (b : Bool). cond (starts_paste v) (paste_turn state k) (cond b (go None EscapeMaybeAlt k) (go (Some (press_in state v)) Normal k))) (leads_stays state bytes extra k v q) ∙ h)

  -- no rule goes on at no bytes
  empty_stays : (state : InputState) (e : Option Told) (next : InputState) (n : ℕ) → table_turn g true state [] ≡ go e next n → ⊥
  unfolding character_of
  empty_stays state e next n h = by (found g.table [] true) refl h
    where
      by : (f : Found KeyEvent) → found g.table [] true ≡ f → found_turn true state [] f ≡ go e next n → ⊥
      by NoKey q h = stay_is_not_go e next n h
      by NeedData q h = stay_is_not_go e next n h
      by (Ambiguous k v) q h = stay_is_not_go e next n h
      by (Exact k v) q h = let z = exact_sized g.table law [] true k v q in absurd (omega (arith, z.0, z.1))

  module _ (steady : Steady g.seen) (extra : List ℕ) (more : Bool) (e : Option Told) (next : InputState) (n : ℕ) where
    -- what the recogniser sees
    seen_stays : (bytes : List ℕ) → seen_turn g true (27 ∷ bytes) (g.seen (27 ∷ bytes)) ≡ go e next n → seen_turn g more (27 ∷ (bytes ++ extra)) (g.seen (27 ∷ (bytes ++ extra))) ≡ go e next n
    seen_stays bytes h = by (g.seen (27 ∷ bytes)) refl h
      where
        by : (f : Seen) → g.seen (27 ∷ bytes) ≡ f → seen_turn g true (27 ∷ bytes) f ≡ go e next n → seen_turn g more (27 ∷ (bytes ++ extra)) (g.seen (27 ∷ (bytes ++ extra))) ≡ go e next n
        by NoReport q h = ap (seen_turn g more (27 ∷ (bytes ++ extra))) (steady.none_stays bytes extra q) ∙ table_stays (27 ∷ bytes) extra more e next n Normal h
        by More q h = stay_is_not_go e next n h
        by (Reported k r) q h = ap (seen_turn g more (27 ∷ (bytes ++ extra))) (steady.found_stays bytes extra k r q) ∙ h

    normal_stays : (b : ℕ) (bytes : List ℕ) (t : Bool) → eqb b 27 ≡ t → cond t (seen_turn g true (b ∷ bytes) (g.seen (b ∷ bytes))) (table_turn g true Normal (b ∷ bytes)) ≡ go e next n → cond t (seen_turn g more (b ∷ (bytes ++ extra)) (g.seen (b ∷ (bytes ++ extra)))) (table_turn g more Normal (b ∷ (bytes ++ extra))) ≡ go e next n
    normal_stays b bytes false q h = table_stays (b ∷ bytes) extra more e next n Normal h
    normal_stays b bytes true q h =
        let is = eqb-true b 27 q in
        subst (λ (x : ℕ). seen_turn g more (x ∷ (bytes ++ extra)) (g.seen (x ∷ (bytes ++ extra))) ≡ go e next n) (sym is)
        (seen_stays bytes (subst (λ (x : ℕ). seen_turn g true (x ∷ bytes) (g.seen (x ∷ bytes)) ≡ go e next n) is h))

    pub turn_stays : (state : InputState) (bytes : List ℕ) → turn g true state bytes ≡ go e next n → turn g more state (bytes ++ extra) ≡ go e next n
    turn_stays Normal [] h = absurd (empty_stays Normal e next n h)
    turn_stays Normal (b ∷ bytes) h = normal_stays b bytes (eqb b 27) refl h
    turn_stays EscapeMaybeAlt bytes h = table_stays bytes extra more e next n EscapeMaybeAlt h
    turn_stays Pasting bytes h = paste_stays bytes extra e next n h
