-- What an answer of the encoder tells. Assumes nothing.
use Rattle.std.proofs.Common.{◌≡◌, ℕ, ◌≤◌, Bool, true, false, cond, leb, List, ◌++◌, length, take, drop, Some, None, Ok, Err, Option, sym, refl, ap, ◌∙◌, arith}
use Rattle.std.proofs.lemmas.List.{take-append-le, take_all}
use Rattle.std.proofs.lemmas.Bool.{leb-true}
use Rattle.encode.specs.declared.form.EncodeFault.{EncodeFault}
use Rattle.encode.specs.declared.form.EncodeFault.TheVariants.{OutputShort}
use Rattle.keycode.specs.declared.key.KeyCode.{KeyCode}
use Rattle.keycode.specs.declared.modes.KeyCodeEncodeModes.{KeyCodeEncodeModes}
use Rattle.encode.specs.Encoding.{Sent, sent, delivered, unless, press_fault, encoding, short_fault}
use Rattle.encode.specs.Forms.{form_of}
use Rattle.encode.specs.Pressed.{pressed}

-- bytes were sent: there was no cause to refuse, and they stand in front of the output
pub record Sends (cause : Option EncodeFault) (bytes out : List ℕ) (n : ℕ) (after : List ℕ) : Type 0 where
  pub uncaused : cause ≡ None
  pub front : take n after ≡ bytes
  pub room : n ≤ length out

module _ (bytes out after : List ℕ) (n : ℕ) where
  by_room : (b : Bool) → leb (length bytes) (length out) ≡ b → sent (Ok n) after ≡ cond b (sent (Ok (length bytes)) (bytes ++ drop (length bytes) out)) (sent (Err OutputShort) out) → Sends None bytes out n after
  by_room true h e =
      let q = ap (λ (s : Sent). s.said) e in
      let k : n ≡ length bytes = cc in
      let a : after ≡ bytes ++ drop (length bytes) out = ap (λ (s : Sent). s.out) e in
      let l = leb-true (length bytes) (length out) h in
      record { uncaused = refl; front = ap (λ (i : ℕ). take i after) k ∙ (ap (λ (l : List ℕ). take (length bytes) l) a ∙ (take-append-le (length bytes) bytes (drop (length bytes) out) (omega arith) ∙ take_all (length bytes) bytes (omega arith))); room = omega arith }
  by_room false h e = absurd (let q = ap (λ (s : Sent). s.said) e in let z : ◌≡◌ {A = ℕ} 0 1 = cc in omega arith)

  pub ok_means : (cause : Option EncodeFault) → sent (Ok n) after ≡ unless cause bytes out → Sends cause bytes out n after
  unfolding delivered
  ok_means None e = by_room (leb (length bytes) (length out)) refl e
  ok_means (Some fault) e = absurd (let q = ap (λ (s : Sent). s.said) e in let z : ◌≡◌ {A = ℕ} 0 1 = cc in omega arith)

module _ (bytes out after : List ℕ) (fault : EncodeFault) where
  short_room : (b : Bool) → sent (Err fault) after ≡ cond b (sent (Ok (length bytes)) (bytes ++ drop (length bytes) out)) (sent (Err OutputShort) out) → fault ≡ OutputShort
  short_room true e = absurd (let q = ap (λ (s : Sent). s.said) e in let z : ◌≡◌ {A = ℕ} 0 1 = cc in omega arith)
  short_room false e = let q = ap (λ (s : Sent). s.said) e in cc

  -- a refusal that is not for the output is the cause
  pub err_means : (cause : Option EncodeFault) → sent (Err fault) after ≡ unless cause bytes out → short_fault fault ≡ false → cause ≡ Some fault
  unfolding delivered
  err_means None e s =
      let o = short_room (leb (length bytes) (length out)) e in
      absurd (let t : true ≡ false = sym (ap short_fault o) ∙ s in let z : ◌≡◌ {A = ℕ} 0 1 = cc in omega arith)
  err_means (Some f) e s = let q = ap (λ (s : Sent). s.said) e in let g : fault ≡ f = cc in ap Some (sym g)

-- a key down is answered by its cause and its bytes
pub down_is : (key : KeyCode) (m : ℕ) (modes : KeyCodeEncodeModes) (out : List ℕ) → encoding key m modes true out ≡ unless (press_fault (form_of key) m) (pressed key m modes) out
down_is key m modes out = refl
