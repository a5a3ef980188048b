-- The open work on bytes is the beginning of every reading that they begin. Assumes nothing.
use Rattle.std.proofs.Common.{◌≡◌, ℕ, zero, suc, ◌-◌, ◌≤◌, Bool, true, false, List, ◌++◌, length, drop, Option, sym, refl, ap, ◌∙◌, subst, append_assoc, arith, length-drop}
use Rattle.std.proofs.lemmas.List.{drop-append-le}
use Rattle.events.specs.Steady.{Steady}
use Rattle.events.specs.Told.{Told}
use Rattle.lawful.specs.Lawful.{lawful}
use Rattle.reading.proofs.Sizes.{Takes, turn_takes}
use Rattle.reading.proofs.Stays.{turn_stays}
use Rattle.reading.specs.declared.state.InputState.{InputState}
use Rattle.reading.specs.Readings.{Reading, nothing, behind, event_of, read_to, reading}
use Rattle.reading.specs.Turns.{Rules, Turn, stay, go, turn}

-- what follows a turn
abbrev Onward : Type 0
Onward = InputState → List ℕ → Reading

abbrev step : Onward → InputState → List ℕ → Turn → Reading
step onward state bytes t = elim t as (λ _. Reading) [ stay ↦ nothing state bytes | go e next n ↦ behind (event_of e) (onward next (drop n bytes)) ]

behind_behind : (xs ys : List Told) (r : Reading) → behind xs (behind ys r) ≡ behind (xs ++ ys) r
behind_behind xs ys r = ap (λ (es : List Told). record { events = es; state = r.state; left = r.left }) (sym (append_assoc xs ys r.events))

module _ (g : Rules) (law : lawful g.table ≡ true) (steady : Steady g.seen) where
  -- as many turns as bytes are enough
  pub turns_enough : (more : Bool) (j k : ℕ) (state : InputState) (bytes : List ℕ) → length bytes ≤ j → length bytes ≤ k → read_to g more j state bytes ≡ read_to g more k state bytes
  unfolding read_to
  turns_enough more zero zero state bytes a b = refl
  turns_enough more zero (suc k) state bytes a b = by (turn g more state bytes) (turn_takes g law steady more state bytes)
    where
      by : (t : Turn) → Takes (length bytes) t → nothing state bytes ≡ step (read_to g more k) state bytes t
      by stay h = refl
      by (go e next n) h = absurd (omega (arith, h.0, h.1))
  turns_enough more (suc j) zero state bytes a b = by (turn g more state bytes) (turn_takes g law steady more state bytes)
    where
      by : (t : Turn) → Takes (length bytes) t → step (read_to g more j) state bytes t ≡ nothing state bytes
      by stay h = refl
      by (go e next n) h = absurd (omega (arith, h.0, h.1))
  turns_enough more (suc j) (suc k) state bytes a b = by (turn g more state bytes) (turn_takes g law steady more state bytes) (turns_enough more j k)
    where
      by : (t : Turn) → Takes (length bytes) t → ((next : InputState) (rest : List ℕ) → length rest ≤ j → length rest ≤ k → read_to g more j next rest ≡ read_to g more k next rest) → step (read_to g more j) state bytes t ≡ step (read_to g more k) state bytes t
      by stay h ih = refl
      by (go e next n) h ih =
          let rest = length-drop n bytes in
          ap (behind (event_of e)) (ih next (drop n bytes) (omega (arith, rest, h.0)) (omega (arith, rest, h.0)))

  one_turn : (more : Bool) (k : ℕ) (state : InputState) (bytes : List ℕ) → 1 ≤ k → read_to g more k state bytes ≡ step (read_to g more (k - 1)) state bytes (turn g more state bytes)
  unfolding read_to
  one_turn more zero state bytes h = absurd (omega arith)
  one_turn more (suc k) state bytes h = ap (λ (i : ℕ). step (read_to g more i) state bytes (turn g more state bytes)) (let e : k ≡ suc k - 1 = omega arith in e)

  -- a closed turn of the reading
  reading_goes : (state : InputState) (bytes : List ℕ) (e : Option Told) (next : InputState) (n : ℕ) → turn g false state bytes ≡ go e next n → reading g state bytes ≡ behind (event_of e) (reading g next (drop n bytes))
  reading_goes state bytes e next n q =
      let h : Takes (length bytes) (go e next n) = subst (Takes (length bytes)) q (turn_takes g law steady false state bytes) in
      one_turn false (length bytes) state bytes (omega (arith, h.0, h.1))
      ∙ (ap (step (read_to g false (length bytes - 1)) state bytes) q
      ∙ ap (behind (event_of e)) (turns_enough false (length bytes - 1) (length (drop n bytes)) next (drop n bytes) (omega (arith, length-drop n bytes, h.0)) (omega arith)))

  -- the events of the open work come first in the reading, whatever follows, and the reading goes on where it ends
  pub open_work_begins : (k : ℕ) (state : InputState) (bytes extra : List ℕ) → reading g state (bytes ++ extra) ≡ behind (read_to g true k state bytes).events (reading g (read_to g true k state bytes).state ((read_to g true k state bytes).left ++ extra))
  unfolding read_to
  open_work_begins zero state bytes extra = refl
  open_work_begins (suc k) state bytes extra = by (turn g true state bytes) refl (open_work_begins k)
    where
      by : (t : Turn) → turn g true state bytes ≡ t → ((state : InputState) (bytes extra : List ℕ) → reading g state (bytes ++ extra) ≡ behind (read_to g true k state bytes).events (reading g (read_to g true k state bytes).state ((read_to g true k state bytes).left ++ extra))) → reading g state (bytes ++ extra) ≡ behind (step (read_to g true k) state bytes t).events (reading g (step (read_to g true k) state bytes t).state ((step (read_to g true k) state bytes t).left ++ extra))
      by stay q ih = refl
      by (go e next n) q ih =
          let h : Takes (length bytes) (go e next n) = subst (Takes (length bytes)) q (turn_takes g law steady true state bytes) in
          let w = read_to g true k next (drop n bytes) in
          reading_goes state (bytes ++ extra) e next n (turn_stays g law steady extra false e next n state bytes q)
          ∙ (ap (λ (rest : List ℕ). behind (event_of e) (reading g next rest)) (drop-append-le n bytes extra h.1)
          ∙ (ap (behind (event_of e)) (ih next (drop n bytes) extra)
          ∙ behind_behind (event_of e) w.events (reading g w.state (w.left ++ extra))))
