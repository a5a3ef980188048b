-- Lossy text, one character at a time. Assumes nothing.
use Rattle.std.proofs.Common.{◌≡◌, true, false, ◌==◌, ℕ, zero, suc, ◌+◌, ◌-◌, ◌*◌, ◌<◌, ◌≤◌, List, [], ◌∷◌, ◌++◌, length, take, drop, sym, refl, ap, ◌∙◌, arith, length-append}
use Rattle.std.proofs.lemmas.List.{append_assoc, append-nil, drop_all, drop_at, drop-drop, length-drop, length-take-le, take-append-drop, take_at}
use Rattle.std.proofs.lemmas.Bool.Decides.{nat_tests}
use Rattle.text.specs.declared.kinds.Character.{Character}
use Rattle.text.specs.declared.kinds.Character.TheVariants.{Scalar, IllFormed, Partial, Empty}
use Rattle.text.specs.Reading.{character_of, Counted}
use Rattle.text.specs.Lossy.{taken, shown, lossy_behind, lossy_of}
use Rattle.text.proofs.Readings.{reading_counted}

behind_is : (n : ℕ) (bytes : List ℕ) → lossy_behind n bytes ≡ lossy_of (drop n bytes)
unfolding lossy_behind
behind_is zero bytes = refl
behind_is (suc n) [] = refl
behind_is (suc n) (b ∷ bytes) = behind_is n bytes

-- how far a character goes
record Goes (all n : ℕ) : Type 0 where
  some : 1 ≤ n
  within : n ≤ all

goes : (bytes : List ℕ) → 0 < length bytes → Goes (length bytes) (taken (character_of bytes) bytes)
goes bytes h = by (character_of bytes) (reading_counted bytes)
  where
    by : (r : Character) → Counted (length bytes) r → Goes (length bytes) (taken r bytes)
    by (Scalar c n) k = record { some = k.0; within = k.1 }
    by (IllFormed n) k = record { some = k.0; within = k.1 }
    by Partial k = record { some = h; within = omega arith }
    by Empty k = absurd (omega (arith, k))

shown_short : (bytes : List ℕ) → length (shown (character_of bytes) bytes) ≤ 3 * taken (character_of bytes) bytes
shown_short bytes = by (character_of bytes) (reading_counted bytes)
  where
    by : (r : Character) → Counted (length bytes) r → length (shown r bytes) ≤ 3 * taken r bytes
    by (Scalar c n) k = omega (arith, length-take-le n bytes k.1)
    by (IllFormed n) k = omega (arith, k.0)
    by Partial k = omega (arith, k)
    by Empty k = omega arith

behind_short : (n : ℕ) (bytes : List ℕ) → n ≤ length bytes → length (lossy_behind n bytes) + 3 * n ≤ 3 * length bytes
unfolding lossy_behind
behind_short n [] h = omega arith
behind_short zero (b ∷ bytes) h =
    let r = character_of (b ∷ bytes) in
    let g = goes (b ∷ bytes) (omega arith) in
    let some = g.some in
    let within = g.within in
    let rest = behind_short (taken r (b ∷ bytes) - 1) bytes (omega arith) in
    omega (arith, length-append (shown r (b ∷ bytes)) (lossy_behind (taken r (b ∷ bytes) - 1) bytes), shown_short (b ∷ bytes), rest)
behind_short (suc n) (b ∷ bytes) h = let rest = behind_short n bytes (omega arith) in omega arith

-- a byte becomes three at most
pub lossy_short : (text : List ℕ) → length (lossy_of text) ≤ 3 * length text
lossy_short text = omega (arith, behind_short 0 text (omega arith))

lossy_more : (bytes : List ℕ) → 0 < length bytes → lossy_of bytes ≡ shown (character_of bytes) bytes ++ lossy_of (drop (taken (character_of bytes) bytes) bytes)
unfolding lossy_behind
lossy_more [] h = absurd (omega arith)
lossy_more (b ∷ bytes) h = at (taken (character_of (b ∷ bytes)) (b ∷ bytes)) (goes (b ∷ bytes) h).some
  where
    at : (n : ℕ) → 1 ≤ n → shown (character_of (b ∷ bytes)) (b ∷ bytes) ++ lossy_behind (n - 1) bytes ≡ shown (character_of (b ∷ bytes)) (b ∷ bytes) ++ lossy_of (drop n (b ∷ bytes))
    at zero k = absurd (omega arith)
    at (suc n) k =
        let z : suc n - 1 ≡ n = omega arith in
        ap (λ (rest : List ℕ). shown (character_of (b ∷ bytes)) (b ∷ bytes) ++ rest) (ap (λ (m : ℕ). lossy_behind m bytes) z ∙ behind_is n bytes)

-- one step over a text: what is written, and what is left
pub record Step (text written rest : List ℕ) : Type 0 where
  pub more : lossy_of text ≡ written ++ lossy_of rest
  pub longer : length (lossy_of text) ≡ length written + length (lossy_of rest)
  pub shorter : length rest < length text

pub step : (text written rest : List ℕ) → false ≡ (length text == 0) → written ≡ shown (character_of text) text → rest ≡ drop (taken (character_of text) text) text → Step text written rest
step text written rest some w e =
    let lt : 0 < length text = grind (arith, nat_tests) in
    let g = goes text lt in
    let m : lossy_of text ≡ written ++ lossy_of rest = lossy_more text lt ∙ (λ i. sym w i ++ lossy_of (sym e i)) in
    record {
      more = m;
      longer = ap length m ∙ length-append written (lossy_of rest);
      shorter = omega (arith, ap length e, length-drop (taken (character_of text) text) text, g.some, g.within);
    }

pub lossy_none : (text : List ℕ) (at : ℕ) → length text ≤ at → lossy_of (drop at text) ≡ []
unfolding lossy_behind
lossy_none text at h = ap lossy_of (drop_all at text h)

pub lossy_of_nothing : (text : List ℕ) → true ≡ (length text == 0) → lossy_of text ≡ []
unfolding lossy_behind
lossy_of_nothing [] e = refl
lossy_of_nothing (b ∷ bytes) e = absurd (grind (arith, nat_tests))

-- the output: what was written of the whole is in front, and behind it the output is as it was
module _ (whole before : List ℕ) where
  pub record Written (rest out : List ℕ) (len : ℕ) : Type 0 where
    pub front : take len out ++ rest ≡ whole
    pub behind : drop len out ≡ drop len before
    pub room : len ≤ length out

  -- there is room for one more part
  pub written_room : (rest rest' out part : List ℕ) (len : ℕ) → Written rest out len → rest ≡ part ++ rest' → length whole ≤ length out → len + length part ≤ length out
  written_room rest rest' out part len w e h =
      omega (arith, ap length w.front, length-append (take len out) rest, length-take-le len out w.room, ap length e, length-append part rest')

  -- one more part is written
  pub written_more : (rest rest' out out' part : List ℕ) (len : ℕ) → Written rest out len → rest ≡ part ++ rest' → length whole ≤ length out → out' ≡ take len out ++ (part ++ drop (len + length part) out) → Written rest' out' (len + length part)
  written_more rest rest' out out' part len w e h o =
      let end = len + length part in
      let front = take len out ++ part in
      let n : length front ≡ end = length-append (take len out) part ∙ ap (λ (k : ℕ). k + length part) (length-take-le len out w.room) in
      let q : out' ≡ front ++ drop end out = o ∙ sym (append_assoc (take len out) part (drop end out)) in
      record {
        front = ap (λ (l : List ℕ). l ++ rest') (ap (take end) q ∙ take_at front (drop end out) end n) ∙ (append_assoc (take len out) part rest' ∙ (ap (λ (l : List ℕ). take len out ++ l) (sym e) ∙ w.front));
        behind = ap (drop end) q ∙ (drop_at front (drop end out) end n ∙ (sym (drop-drop (length part) len out) ∙ (ap (drop (length part)) w.behind ∙ drop-drop (length part) len before)));
        room = omega (arith, ap length q, length-append front (drop end out), written_room rest rest' out part len w e h);
      }

  -- all is written
  pub written_all : (out : List ℕ) (len : ℕ) → Written [] out len → out ≡ whole ++ drop (length whole) before
  written_all out len w =
      let f : take len out ≡ whole = sym (append-nil (take len out)) ∙ w.front in
      let n : len ≡ length whole = sym (length-take-le len out w.room) ∙ ap length f in
      sym (take-append-drop len out) ∙ (ap (λ (l : List ℕ). l ++ drop len out) f ∙ ap (λ (l : List ℕ). whole ++ l) (w.behind ∙ ap (λ (k : ℕ). drop k before) n))
