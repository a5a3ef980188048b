-- The answer to a press, from what the encoder answered. Assumes nothing.
use Rattle.std.proofs.Common.{◌≡◌, ℕ, ◌-◌, true, false, List, take, Ok, Err, sym, ap, ◌∙◌}
use native.Mathlib.Nat.{sub-zero}
use Rattle.keycode.specs.declared.key.KeyCode.{KeyCode}
use Rattle.encode.proofs.Sent.{down_is, ok_means, err_means}
use Rattle.encode.specs.Encoding.{sent, encoding, press_fault, short_fault, number}
use Rattle.encode.specs.Forms.{form_of}
use Rattle.encode.specs.Plain.{plain_modes, plain_bytes}
use Rattle.encode.specs.declared.form.EncodeFault.{EncodeFault}
use Rattle.answers.specs.Answers.{refused_line, bytes_line, to_press, to_key}

module _ (key : KeyCode) (m : ℕ) (out after : List ℕ) where
  pub bytes_answer : (n : ℕ) → sent (Ok n) after ≡ encoding key m plain_modes true out → bytes_line (take (n - 0) after) ≡ to_key key m
  bytes_answer n e =
      let s = ok_means (plain_bytes key m) out after n (press_fault (form_of key) m) (e ∙ down_is key m plain_modes out) in
      ap (λ (i : ℕ). bytes_line (take i after)) (sub-zero n)
      ∙ (ap bytes_line s.front ∙ ap (λ o. to_press o (plain_bytes key m)) (sym s.uncaused))

  pub refused_answer : (fault : EncodeFault) → sent (Err fault) after ≡ encoding key m plain_modes true out → short_fault fault ≡ false → refused_line (number fault) ≡ to_key key m
  refused_answer fault e s =
      ap (λ o. to_press o (plain_bytes key m))
      (sym (err_means (plain_bytes key m) out after fault (press_fault (form_of key) m) (e ∙ down_is key m plain_modes out) s))
