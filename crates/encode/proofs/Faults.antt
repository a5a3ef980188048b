-- What is wrong with a press is never the output. Assumes nothing.
use Rattle.std.proofs.Common.{◌≡◌, ℕ, Bool, true, false, cond, ◌||◌, eqb, ltb, Some, None, Option, refl, ap, ◌∙◌}
use Rattle.character.specs.Characters.{scalar}
use Rattle.encode.specs.declared.form.Form.{Form}
use Rattle.encode.specs.declared.form.Form.TheVariants.{Typed, Cursor, Application, Keypad, Edit, Numbered, KeyBackspace, KeyEnter, KeyEscape, KeyTab, Silent}
use Rattle.encode.specs.declared.form.EncodeFault.{EncodeFault}
use Rattle.encode.specs.declared.form.EncodeFault.TheVariants.{Modifiers, NoScalar, NoFunction}
use Rattle.encode.specs.Encoding.{form_fault, press_fault, short_fault}

short : Option EncodeFault → Bool
short None = false
short (Some fault) = short_fault fault

by_cond : (b : Bool) (x y : Option EncodeFault) → short x ≡ false → short y ≡ false → short (cond b x y) ≡ false
by_cond true x y p q = p
by_cond false x y p q = q

form_not_short : (form : Form) → short (form_fault form) ≡ false
unfolding short
form_not_short (Typed c) = by_cond (scalar c) None (Some NoScalar) refl refl
form_not_short (Numbered n) = by_cond (eqb n 0 || ltb 24 n) (Some NoFunction) None refl refl
form_not_short (Cursor final) = refl
form_not_short (Application final) = refl
form_not_short (Keypad final) = refl
form_not_short (Edit n) = refl
form_not_short KeyBackspace = refl
form_not_short KeyEnter = refl
form_not_short KeyEscape = refl
form_not_short KeyTab = refl
form_not_short Silent = refl

pub press_not_short : (form : Form) (m : ℕ) (fault : EncodeFault) → Some fault ≡ press_fault form m → short_fault fault ≡ false
unfolding short
press_not_short form m fault e = ap short e ∙ by_cond (ltb 2047 m) (Some Modifiers) (form_fault form) refl (form_not_short form)
