-- The characters among the plain presses, in the table. Assumes nothing.
use Rattle.std.proofs.Common.{◌≡◌, ℕ, ◌+◌, ◌/◌, ◌<◌, ◌≤◌, Bool, true, false, cond, not, ◌&&◌, ◌||◌, eqb, ltb, leb, ◌⊎◌, List, [], ◌∷◌, take, None, sym, refl, ap, ◌∙◌, inl, inr, ⊎_elim, arith}
use Rattle.std.proofs.lemmas.Bool.{and_parts, or_cases, leb-true, lt-ltb, le-ltb, ne_eqb, cond-true, cond-false}
use Rattle.character.specs.Characters.{within, scalar, lower, upper}
use Rattle.character.specs.Typed.{traditionally, typed}
use Rattle.encode.specs.Plain.{plain_alone, plain_alt, plain_ctrl, plain_bytes}
use Rattle.encode.specs.Pressed.{pressed}
use Rattle.keycode.specs.declared.key.KeyCode.TheVariants.{Char}
use Rattle.writer.specs.Numbers.{trail, utf8_of}
use Rattle.basic.proofs.Computed.{under, wanted, begins, none, capital, control, alted, control_alted, bytes_where, alt_bytes, control_bytes, Computed, computed}
use Rattle.basic.proofs.Keys.{same_at}

module _ (c : ℕ) where
  -- a plain character under ALT is from 20 to 7E, one under CTRL from a to z
  pub alt_range : plain_alt c ≡ true → (32 ≤ c) × (c < 32 + 95)
  alt_range h =
      let p = and_parts (within 32 126 c) (not (eqb c 91 || eqb c 79)) h in
      let q = and_parts (leb 32 c) (leb c 126) p.0 in
      let lo = leb-true 32 c q.0 in
      let hi = leb-true c 126 q.1 in
      (omega arith, omega arith)

  ctrl_range : plain_ctrl c ≡ true → (97 ≤ c) × (c < 97 + 26)
  ctrl_range h =
      let p = and_parts (lower c) (not (eqb c 104 || eqb c 105 || eqb c 106 || eqb c 109)) h in
      let q = and_parts (leb 97 c) (leb c 122) p.0 in
      let lo = leb-true 97 c q.0 in
      let hi = leb-true c 122 q.1 in
      (omega arith, omega arith)

  upper_range : upper c ≡ true → (65 ≤ c) × (c < 65 + 26)
  upper_range h =
      let q = and_parts (leb 65 c) (leb c 90) h in
      let lo = leb-true 65 c q.0 in
      let hi = leb-true c 90 q.1 in
      (omega arith, omega arith)

  -- the same where the test holds
  within_cond : {X : Type 0} (b : Bool) (x y z : X) → b ≡ true → cond b x z ≡ cond b y z → x ≡ y
  within_cond b x y z h e = sym (cond-true b x z h) ∙ (e ∙ cond-true b y z h)

  pub capital_stands : plain_alt c ≡ true → upper c ≡ true → under (Char c) 2 ≡ wanted (Char c) 2
  capital_stands h u =
      let r = upper_range u in
      within_cond (plain_alt c) (under (Char c) 2) (wanted (Char c) 2) None h (same_at (capital under) (capital wanted) 65 26 refl (ap (λ (k : Computed). k.presses.capitals) computed) c r.0 r.1)

  pub control_stands : plain_ctrl c ≡ true → under (Char c) 4 ≡ wanted (Char c) 4
  control_stands h =
      let r = ctrl_range h in
      within_cond (plain_ctrl c) (under (Char c) 4) (wanted (Char c) 4) None h (same_at (control under) (control wanted) 97 26 refl (ap (λ (k : Computed). k.presses.controls) computed) c r.0 r.1)

  pub alone_begins_none : 32 ≤ c → c < 32 + 95 → begins (c ∷ []) ≡ false
  alone_begins_none lo hi = same_at (λ c. begins (c ∷ [])) (λ c. false) 32 95 refl (ap (λ (k : Computed). k.characters.alone) computed) c lo hi

  pub alt_begins_none : plain_alt c ≡ true → upper c ≡ false → begins (27 ∷ c ∷ []) ≡ false
  alt_begins_none h u =
      let r = alt_range h in
      let e = same_at (alted begins) (alted none) 32 95 refl (ap (λ (k : Computed). k.characters.alt) computed) c r.0 r.1 in
      sym (cond-false (upper c) false (begins (27 ∷ c ∷ [])) u) ∙ (within_cond (plain_alt c) (cond (upper c) false (begins (27 ∷ c ∷ []))) (cond (upper c) false false) false h e ∙ cond-false (upper c) false false u)

  pub control_alt_begins_none : plain_ctrl c ≡ true → begins (plain_bytes (Char c) 6) ≡ false
  control_alt_begins_none h =
      let r = ctrl_range h in
      within_cond (plain_ctrl c) (begins (plain_bytes (Char c) 6)) false false h (same_at (control_alted begins) (control_alted none) 97 26 refl (ap (λ (k : Computed). k.characters.ctrl_alt) computed) c r.0 r.1)

  pub alt_sends : plain_alt c ≡ true → plain_bytes (Char c) 2 ≡ 27 ∷ c ∷ []
  alt_sends h =
      let r = alt_range h in
      within_cond (plain_alt c) (plain_bytes (Char c) 2) (27 ∷ c ∷ []) [] h (same_at (λ c. bytes_where (plain_alt c) (plain_bytes (Char c) 2)) (λ c. bytes_where (plain_alt c) (27 ∷ c ∷ [])) 32 95 refl alt_bytes c r.0 r.1)

  pub control_alt_sends : plain_ctrl c ≡ true → plain_bytes (Char c) 6 ≡ 27 ∷ plain_bytes (Char c) 4
  control_alt_sends h =
      let r = ctrl_range h in
      within_cond (plain_ctrl c) (plain_bytes (Char c) 6) (27 ∷ plain_bytes (Char c) 4) [] h (same_at (λ c. bytes_where (plain_ctrl c) (plain_bytes (Char c) 6)) (λ c. bytes_where (plain_ctrl c) (27 ∷ plain_bytes (Char c) 4)) 97 26 refl control_bytes c r.0 r.1)

  -- a plain character alone is from 20 to 7E, or from 80 on
  pub alone_range : plain_alone c ≡ true → ((32 ≤ c) × (c < 32 + 95)) ⊎ (128 ≤ c)
  alone_range h =
      ⊎_elim
      (λ w. let q = and_parts (leb 32 c) (leb c 126) w in let lo = leb-true 32 c q.0 in let hi = leb-true c 126 q.1 in inl (omega arith, omega arith))
      (λ w. let q = and_parts (leb 128 c) (scalar c) w in inr (leb-true 128 c q.0))
      (or_cases (within 32 126 c) (leb 128 c && scalar c) h)

  sends_utf8 : (c ≡ 127 → ⊥) → (c ≡ 8 → ⊥) → plain_bytes (Char c) 0 ≡ utf8_of c
  unfolding pressed typed traditionally
  sends_utf8 del bs = rw (ne_eqb c 127 del, ne_eqb c 8 bs) refl

  pub alone_sends : plain_alone c ≡ true → plain_bytes (Char c) 0 ≡ utf8_of c
  alone_sends h =
      ⊎_elim (λ r. sends_utf8 (λ e. omega (arith, r.0, r.1)) (λ e. omega (arith, r.0))) (λ r. sends_utf8 (λ e. omega arith) (λ e. omega arith)) (alone_range h)

  -- the UTF-8 of a character from 80 on
  abbrev longer : Bool → Bool → List ℕ
  longer two three =
      cond two ((192 + c / 64) ∷ trail c ∷ [])
      (cond three ((224 + c / 4096) ∷ trail (c / 64) ∷ trail c ∷ []) ((240 + c / 262144) ∷ trail (c / 4096) ∷ trail (c / 64) ∷ trail c ∷ []))

  lead : (two three : Bool) → (b : ℕ) × (128 ≤ b) × (take 1 (longer two three) ≡ b ∷ [])
  lead true three = (192 + c / 64, omega arith, refl)
  lead false true = (224 + c / 4096, omega arith, refl)
  lead false false = (240 + c / 262144, omega arith, refl)

  -- the first byte of a character's UTF-8: itself below 80, past ASCII from there on
  pub leads_low : c < 128 → take 1 (utf8_of c) ≡ c ∷ []
  leads_low h = ap (take 1) (cond-true (ltb c 128) (c ∷ []) (longer (ltb c 2048) (ltb c 65536)) (lt-ltb c 128 h))

  pub leads_high : 128 ≤ c → (b : ℕ) × (128 ≤ b) × (take 1 (utf8_of c) ≡ b ∷ [])
  leads_high h =
      let l = lead (ltb c 2048) (ltb c 65536) in
      (l.0, l.1, ap (take 1) (cond-false (ltb c 128) (c ∷ []) (longer (ltb c 2048) (ltb c 65536)) (le-ltb c 128 h)) ∙ l.2)
