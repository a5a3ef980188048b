-- What is read as a scalar value is that value's UTF-8. Assumes nothing.
use Rattle.std.proofs.Common.{◌≡◌, ℕ, suc, ◌+◌, ◌*◌, ◌/◌, ◌%◌, ◌<◌, ◌≤◌, max, Bool, true, false, cond, eqb, ltb, leb, ◌⊎◌, List, [], ◌∷◌, length, take, Some, None, Option, sym, refl, ◌∙◌, subst, inl, inr, arith}
use Rattle.std.proofs.lemmas.Bool.{and_parts, and_from, or_left, or_right, leb-true, le-leb, lt-ltb, eqb-true}
use Rattle.character.specs.Characters.{scalar, within}
use Rattle.writer.specs.Numbers.{utf8_of, trail}
use Rattle.text.specs.declared.kinds.Character.{Character}
use Rattle.text.specs.declared.kinds.Character.TheVariants.{IllFormed, Partial}
use Rattle.text.specs.Rows.{behind}
use Rattle.text.specs.Table.{Range, ◌to◌, table, holds, fits}
use Rattle.text.specs.Reading.{carried, reading, character_of, Exactly}
use Rattle.text.proofs.Readings.{by_first_byte, by_first}
use Rattle.text.proofs.Encoded.{behind_two, utf8_one, utf8_two, utf8_three, utf8_four}

-- bytes that are the UTF-8 of the scalar value that they carry
record Exact (bytes : List ℕ) : Type 0 where
  is_scalar : scalar (carried bytes) ≡ true
  same : bytes ≡ utf8_of (carried bytes)

low_scalar : (c : ℕ) → c < 55296 → scalar c ≡ true
low_scalar c h = or_left (ltb c 55296) (within 57344 1114111 c) (lt-ltb c 55296 h)

high_scalar : (c : ℕ) → 57344 ≤ c → c < 1114112 → scalar c ≡ true
high_scalar c h k = or_right (ltb c 55296) (within 57344 1114111 c) (and_from (leb 57344 c) (leb c 1114111) (le-leb 57344 c h) (le-leb c 1114111 (omega arith)))

record In (first last b : ℕ) : Type 0 where
  low : first ≤ b
  high : b ≤ last

inside : (first last b : ℕ) → holds (first to last) b ≡ true → In first last b
inside first last b e =
    let p = and_parts (leb first b) (leb b last) e in
    record { low = leb-true first b p.0; high = leb-true b last p.1 }

exact_one : (a : ℕ) → In 0 127 a → Exact (a ∷ [])
exact_one a p = record { is_scalar = low_scalar a (omega arith); same = sym (utf8_one a (omega arith)) }

exact_two : (a b : ℕ) → In 194 223 a → In 128 191 b → Exact (a ∷ b ∷ [])
exact_two a b p q =
    let c = a % 32 * 64 + b % 64 in
    let x : 192 + c / 64 ≡ a = omega arith in
    let y : trail c ≡ b = omega arith in
    record { is_scalar = low_scalar c (omega arith); same = sym (utf8_two c (omega arith) (omega arith) ∙ cc) }

exact_three : (a b d : ℕ) → In 224 239 a → In 128 191 b → In 128 191 d → 2048 ≤ carried (a ∷ b ∷ d ∷ []) → (carried (a ∷ b ∷ d ∷ []) < 55296) ⊎ (57344 ≤ carried (a ∷ b ∷ d ∷ [])) → Exact (a ∷ b ∷ d ∷ [])
exact_three a b d p q r h s =
    let c = (a % 16 * 64 + b % 64) * 64 + d % 64 in
    let x : 224 + c / 4096 ≡ a = omega arith in
    let y : trail (c / 64) ≡ b = omega arith in
    let z : trail c ≡ d = omega arith in
    record { is_scalar = by s; same = sym (utf8_three c h (omega arith) ∙ cc) }
  where
    by : (carried (a ∷ b ∷ d ∷ []) < 55296) ⊎ (57344 ≤ carried (a ∷ b ∷ d ∷ [])) → scalar (carried (a ∷ b ∷ d ∷ [])) ≡ true
    by (inl s) = low_scalar (carried (a ∷ b ∷ d ∷ [])) s
    by (inr s) = high_scalar (carried (a ∷ b ∷ d ∷ [])) s (omega arith)

exact_four : (a b d f : ℕ) → In 240 244 a → In 128 191 b → In 128 191 d → In 128 191 f → 65536 ≤ carried (a ∷ b ∷ d ∷ f ∷ []) → carried (a ∷ b ∷ d ∷ f ∷ []) < 1114112 → Exact (a ∷ b ∷ d ∷ f ∷ [])
exact_four a b d f p q r t h k =
    let c = ((a % 8 * 64 + b % 64) * 64 + d % 64) * 64 + f % 64 in
    let w : 240 + c / 262144 ≡ a = omega arith in
    let x : trail (c / 4096) ≡ b = omega arith in
    let y : trail (c / 64) ≡ d = omega arith in
    let z : trail c ≡ f = omega arith in
    record { is_scalar = high_scalar c (omega arith) k; same = sym (utf8_four c h ∙ cc) }

-- whatever fits a row is exact
abbrev Sound : List Range → Type 0
Sound [] = Unit {0}
Sound (first ∷ row) = (a : ℕ) → holds first a ≡ true → (bytes : List ℕ) → fits row bytes ≡ length row → Exact (a ∷ take (length row) bytes)

abbrev AllSound : List (List Range) → Type 0
AllSound [] = Unit {0}
AllSound (row ∷ rows) = Sound row × AllSound rows

fits_first : (range : Range) (row : List Range) (b : ℕ) (bytes : List ℕ) (n : ℕ) → fits (range ∷ row) (b ∷ bytes) ≡ suc n → (holds range b ≡ true) × (fits row bytes ≡ n)
unfolding fits
fits_first range row b bytes n e = at (holds range b) refl e
  where
    at : (t : Bool) → holds range b ≡ t → cond t (suc (fits row bytes)) 0 ≡ suc n → (holds range b ≡ true) × (fits row bytes ≡ n)
    at true h e = (h, omega arith)
    at false h e = absurd (omega arith)

no_fit : (range : Range) (row : List Range) (n : ℕ) → fits (range ∷ row) [] ≡ suc n → ⊥
unfolding fits
no_fit range row n e = omega arith

sound_two : (first second : Range) → ((a b : ℕ) → holds first a ≡ true → holds second b ≡ true → Exact (a ∷ b ∷ [])) → Sound (first ∷ second ∷ [])
sound_two first second k a h [] e = absurd (no_fit second [] 0 e)
sound_two first second k a h (b ∷ bytes) e = k a b h (fits_first second [] b bytes 0 e).0

sound_three : (first second : Range) → ((a b d : ℕ) → holds first a ≡ true → holds second b ≡ true → In 128 191 d → Exact (a ∷ b ∷ d ∷ [])) → Sound (first ∷ second ∷ behind_two ∷ [])
sound_three first second k a h [] e = absurd (no_fit second (behind_two ∷ []) 1 e)
sound_three first second k a h (b ∷ []) e = absurd (no_fit behind_two [] 0 (fits_first second (behind_two ∷ []) b [] 1 e).1)
sound_three first second k a h (b ∷ d ∷ bytes) e =
    let p = fits_first second (behind_two ∷ []) b (d ∷ bytes) 1 e in
    let q = fits_first behind_two [] d bytes 0 p.1 in
    k a b d h p.0 (inside 128 191 d q.0)

sound_four : (first second : Range) → ((a b d f : ℕ) → holds first a ≡ true → holds second b ≡ true → In 128 191 d → In 128 191 f → Exact (a ∷ b ∷ d ∷ f ∷ [])) → Sound (first ∷ second ∷ behind_two ∷ behind_two ∷ [])
sound_four first second k a h [] e = absurd (no_fit second (behind_two ∷ behind_two ∷ []) 2 e)
sound_four first second k a h (b ∷ []) e = absurd (no_fit behind_two (behind_two ∷ []) 1 (fits_first second (behind_two ∷ behind_two ∷ []) b [] 2 e).1)
sound_four first second k a h (b ∷ d ∷ []) e =
    absurd (no_fit behind_two [] 0 (fits_first behind_two (behind_two ∷ []) d [] 1 (fits_first second (behind_two ∷ behind_two ∷ []) b (d ∷ []) 2 e).1).1)
sound_four first second k a h (b ∷ d ∷ f ∷ bytes) e =
    let p = fits_first second (behind_two ∷ behind_two ∷ []) b (d ∷ (f ∷ bytes)) 2 e in
    let q = fits_first behind_two (behind_two ∷ []) d (f ∷ bytes) 1 p.1 in
    let r = fits_first behind_two [] f bytes 0 q.1 in
    k a b d f h p.0 (inside 128 191 d q.0) (inside 128 191 f r.0)

-- the nine rows
table_sound : AllSound table
table_sound = (
  (λ a h bytes e. exact_one a (inside 0 127 a h)),
  (
    sound_two (0xC2 to 0xDF) behind_two (λ a b p q. exact_two a b (inside 194 223 a p) (inside 128 191 b q)),
    (
      sound_three (0xE0 to 0xE0) (0xA0 to 0xBF) (λ a b d p q r. let u = inside 224 224 a p in let v = inside 160 191 b q in exact_three a b d (record { low = omega arith; high = omega arith }) (record { low = omega arith; high = omega arith }) r (omega arith) (inl (omega arith))),
      (
        sound_three (0xE1 to 0xEC) behind_two (λ a b d p q r. let u = inside 225 236 a p in let v = inside 128 191 b q in exact_three a b d (record { low = omega arith; high = omega arith }) v r (omega arith) (inl (omega arith))),
        (
          sound_three (0xED to 0xED) (0x80 to 0x9F) (λ a b d p q r. let u = inside 237 237 a p in let v = inside 128 159 b q in exact_three a b d (record { low = omega arith; high = omega arith }) (record { low = omega arith; high = omega arith }) r (omega arith) (inl (omega arith))),
          (
            sound_three (0xEE to 0xEF) behind_two (λ a b d p q r. let u = inside 238 239 a p in let v = inside 128 191 b q in exact_three a b d (record { low = omega arith; high = omega arith }) v r (omega arith) (inr (omega arith))),
            (
              sound_four (0xF0 to 0xF0) (0x90 to 0xBF) (λ a b d f p q r t. let u = inside 240 240 a p in let v = inside 144 191 b q in exact_four a b d f (record { low = omega arith; high = omega arith }) (record { low = omega arith; high = omega arith }) r t (omega arith) (omega arith)),
              (
                sound_four (0xF1 to 0xF3) behind_two (λ a b d f p q r t. let u = inside 241 243 a p in let v = inside 128 191 b q in exact_four a b d f (record { low = omega arith; high = omega arith }) v r t (omega arith) (omega arith)),
                (
                  sound_four (0xF4 to 0xF4) (0x80 to 0x8F) (λ a b d f p q r t. let u = inside 244 244 a p in let v = inside 128 143 b q in exact_four a b d f (record { low = omega arith; high = omega arith }) (record { low = omega arith; high = omega arith }) r t (omega arith) (omega arith)),
                  tt,
                ),
              ),
            ),
          ),
        ),
      ),
    ),
  ),
)

-- the row of a first byte is one of them
behind_sound : (rows : List (List Range)) → AllSound rows → (a : ℕ) (row : List Range) → behind rows a ≡ Some row → (bytes : List ℕ) → fits row bytes ≡ length row → Exact (a ∷ take (length row) bytes)
behind_sound [] s a row e bytes f = absurd (let z : ◌≡◌ {A = ℕ} 0 1 = cc in omega arith)
behind_sound ([] ∷ rows) s a row e bytes f = behind_sound rows s.1 a row e bytes f
behind_sound ((first ∷ own) ∷ rows) s a row e bytes f = at (holds first a) refl e (λ q. behind_sound rows s.1 a row q bytes f)
  where
    at : (t : Bool) → holds first a ≡ t → cond t (Some own) (behind rows a) ≡ Some row → (behind rows a ≡ Some row → Exact (a ∷ take (length row) bytes)) → Exact (a ∷ take (length row) bytes)
    at true h q k =
        let o : own ≡ row = cc in
        let P : List Range → Type 0 = λ r. fits r bytes ≡ length r → Exact (a ∷ take (length r) bytes) in
        subst P o (s.0 a h bytes) f
    at false h q k = k q

-- what is read as a scalar value is one, and stands there in UTF-8
pub reading_exact : (bytes : List ℕ) → Exactly bytes (character_of bytes)
unfolding character_of
reading_exact [] = tt
reading_exact (b ∷ bytes) = let P : Character → Type 0 = λ r. Exactly (b ∷ bytes) r in subst P (sym (by_first b bytes)) (at (behind table b) refl)
  where
    not_whole : (n : ℕ) → Exactly (b ∷ bytes) (reading false n (b ∷ bytes))
    not_whole n = part (eqb n (suc (length bytes)))
      where
        part : (t : Bool) → Exactly (b ∷ bytes) (cond t Partial (IllFormed (max 1 n)))
        part true = tt
        part false = tt

    by_fit : (row : List Range) → behind table b ≡ Some row → (t : Bool) → eqb (fits row bytes) (length row) ≡ t → Exactly (b ∷ bytes) (reading t (suc (fits row bytes)) (b ∷ bytes))
    by_fit row e false q = not_whole (suc (fits row bytes))
    by_fit row e true q =
        let f = eqb-true (fits row bytes) (length row) q in
        let x = behind_sound table table_sound b row e bytes f in
        let Q : ℕ → Type 0 = λ n. (scalar (carried (b ∷ take n bytes)) ≡ true) × (b ∷ take n bytes ≡ utf8_of (carried (b ∷ take n bytes))) in
        subst Q (sym f) (x.is_scalar, x.same)

    at : (row : Option (List Range)) → behind table b ≡ row → Exactly (b ∷ bytes) (by_first_byte row b bytes)
    at None e = not_whole 0
    at (Some row) e = by_fit row e (eqb (fits row bytes) (length row)) refl

-- the same, for what was read
pub exactly : (bytes : List ℕ) (r : Character) → r ≡ character_of bytes → Exactly bytes r
exactly bytes r e = let P : Character → Type 0 = λ c. Exactly bytes c in subst P (sym e) (reading_exact bytes)
