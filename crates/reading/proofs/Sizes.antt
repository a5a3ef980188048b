-- A turn takes from one to all of the bytes. Assumes nothing.
use Rattle.std.proofs.Common.{◌≡◌, ℕ, ◌≤◌, Bool, true, false, cond, eqb, List, [], ◌∷◌, length, Some, None, Option, refl, subst, arith}
use Rattle.std.proofs.lemmas.Bool.{eqb-true}
use Rattle.events.specs.Steady.{Steady}
use Rattle.events.specs.declared.event.Seen.{Seen}
use Rattle.events.specs.declared.event.Seen.TheVariants.{NoReport, More, Found as Reported}
use Rattle.keycode.specs.declared.key.KeyEvent.{KeyEvent}
use Rattle.keymap.specs.declared.found.Found.{Found}
use Rattle.keymap.specs.declared.found.Found.TheVariants.{None as NoKey, Exact, Ambiguous, NeedData}
use Rattle.keymap.specs.Finding.{found}
use Rattle.lawful.specs.Lawful.{lawful}
use Rattle.readbuf.specs.Marker.{first_marker}
use Rattle.text.proofs.Readings.{reading_counted}
use Rattle.text.specs.declared.kinds.Character.{Character}
use Rattle.text.specs.declared.kinds.Character.TheVariants.{Scalar, IllFormed, Partial, Empty}
use Rattle.text.specs.Reading.{character_of, Counted}
use Rattle.reading.proofs.Markers.{marker_within}
use Rattle.reading.proofs.Tables.{exact_sized}
use Rattle.reading.specs.declared.state.InputState.{InputState}
use Rattle.reading.specs.declared.state.InputState.TheVariants.{Normal, EscapeMaybeAlt, Pasting}
use Rattle.reading.specs.Turns.{Rules, Turn, stay, go, leads_to_alt, character_turn, found_turn, table_turn, seen_turn, marker_turn, turn, starts_paste, paste_turn, press_in}

-- a turn that goes on takes from one to all of so many bytes
abbrev pub Takes : ℕ → Turn → Type 0
Takes all stay = Unit {0}
Takes all (go e next n) = (1 ≤ n) × (n ≤ all)

module _ (all : ℕ) where
  character_takes : (state : InputState) (r : Character) → Counted all r → Takes all (character_turn state r)
  character_takes state (Scalar c n) h = h
  character_takes state (IllFormed n) h = h
  character_takes state Partial h = tt
  character_takes state Empty h = tt

  paste_takes : (state : InputState) (n : ℕ) → (1 ≤ n) × (n ≤ all) → Takes all (paste_turn state n)
  paste_takes Normal n h = h
  paste_takes EscapeMaybeAlt n h = h
  paste_takes Pasting n h = h

  key_takes : (state : InputState) (n : ℕ) (k : KeyEvent) (paste alt : Bool) → (1 ≤ n) × (n ≤ all) → Takes all (cond paste (paste_turn state n) (cond alt (go None EscapeMaybeAlt n) (go (Some (press_in state k)) Normal n)))
  key_takes state n k true alt h = paste_takes state n h
  key_takes state n k false true h = h
  key_takes state n k false false h = h

module _ (g : Rules) (law : lawful g.table ≡ true) (steady : Steady g.seen) (more : Bool) where
  either : (bytes : List ℕ) (b : Bool) (t : Turn) → Takes (length bytes) t → Takes (length bytes) (cond b stay t)
  either bytes true t h = tt
  either bytes false t h = h

  table_takes : (state : InputState) (bytes : List ℕ) → Takes (length bytes) (table_turn g more state bytes)
  table_takes state bytes = by (found g.table bytes more) refl
    where
      by : (f : Found KeyEvent) → found g.table bytes more ≡ f → Takes (length bytes) (found_turn more state bytes f)
      by NoKey q = character_takes (length bytes) state (character_of bytes) (reading_counted bytes)
      by NeedData q = either bytes more (character_turn state (character_of bytes)) (character_takes (length bytes) state (character_of bytes) (reading_counted bytes))
      by (Ambiguous n k) q = tt
      by (Exact n k) q = key_takes (length bytes) state n k (starts_paste k) (leads_to_alt state bytes n k) (exact_sized g.table law bytes more n k q)

  seen_takes : (b : ℕ) (bytes : List ℕ) → b ≡ 27 → Takes (length (b ∷ bytes)) (seen_turn g more (b ∷ bytes) (g.seen (b ∷ bytes)))
  seen_takes b bytes is = by (g.seen (b ∷ bytes)) refl
    where
      by : (f : Seen) → g.seen (b ∷ bytes) ≡ f → Takes (length (b ∷ bytes)) (seen_turn g more (b ∷ bytes) f)
      by NoReport q = table_takes Normal (b ∷ bytes)
      by More q = either (b ∷ bytes) more (table_turn g more Normal (b ∷ bytes)) (table_takes Normal (b ∷ bytes))
      by (Reported n r) q = steady.within bytes n r (subst (λ (x : ℕ). g.seen (x ∷ bytes) ≡ Reported n r) is q)

  normal_takes : (b : ℕ) (bytes : List ℕ) (t : Bool) → eqb b 27 ≡ t → Takes (length (b ∷ bytes)) (cond t (seen_turn g more (b ∷ bytes) (g.seen (b ∷ bytes))) (table_turn g more Normal (b ∷ bytes)))
  normal_takes b bytes true q = seen_takes b bytes (eqb-true b 27 q)
  normal_takes b bytes false q = table_takes Normal (b ∷ bytes)

  marker_takes : (bytes : List ℕ) (o : Option ℕ) → first_marker bytes ≡ o → Takes (length bytes) (marker_turn bytes o)
  marker_takes bytes None q = tt
  marker_takes bytes (Some i) q = (omega arith, marker_within bytes i q)

  pub turn_takes : (state : InputState) (bytes : List ℕ) → Takes (length bytes) (turn g more state bytes)
  turn_takes Normal [] = table_takes Normal []
  turn_takes Normal (b ∷ bytes) = normal_takes b bytes (eqb b 27) refl
  turn_takes EscapeMaybeAlt bytes = table_takes EscapeMaybeAlt bytes
  turn_takes Pasting bytes = marker_takes bytes (first_marker bytes) refl
