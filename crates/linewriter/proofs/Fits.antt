-- When a line fits behind what is written. Assumes nothing.
use Rattle.std.proofs.Common.{◌≡◌, ℕ, ◌+◌, ◌*◌, ◌<◌, ◌≤◌, List, [], ◌∷◌, ◌++◌, length, Some, None, sym, ap, ◌∙◌, arith, length-append}
use Rattle.std.proofs.lemmas.Bool.{le-leb, lt-leb, cond-true, cond-false}
use Rattle.writer.proofs.Digits.{hex_length}
use Rattle.writer.specs.Numbers.{hex_of}
use Rattle.events.specs.Told.{paste}
use Rattle.linewriter.specs.Lines.{line_of, behind}

pub paste_length : (text : List ℕ) → length (line_of (paste text)) ≡ 2 * length text + 7
unfolding line_of
paste_length text = omega (arith, length-append (hex_of text) (10 ∷ []), hex_length text)

pub fits : (written text after : List ℕ) → length written + length text ≤ 16384 → after ≡ written ++ text → behind written text ≡ Some after
fits written text after h e = let t = le-leb (length written + length text) 16384 h in cond-true _ _ _ t ∙ ap Some (sym e)

pub too_long : (written text : List ℕ) → 16384 < length written + length text → behind written text ≡ None
too_long written text h = cond-false _ _ _ (lt-leb (length written + length text) 16384 h)
