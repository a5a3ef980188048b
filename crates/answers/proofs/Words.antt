-- Maps that give every word the same value give the same answers. Assumes nothing.
use Rattle.std.proofs.Common.{◌≡◌, ℕ, List, ap, ◌∙◌}
use mathlib.Core.Path.{fun_ext}
use Rattle.keycode.specs.declared.key.KeyCode.{KeyCode}
use Rattle.lines.specs.Requests.{Words}
use Rattle.words.specs.declared.verb.Verb.{Verb}
use Rattle.answers.specs.Answers.{answer_in}

pub same_words : (f g : Words Verb) (p q : Words KeyCode) (line : List ℕ) → ((word : List ℕ) → f word ≡ g word) → ((word : List ℕ) → p word ≡ q word) → answer_in f p line ≡ answer_in g q line
same_words f g p q line v k = ap (λ (w : Words Verb). answer_in w p line) (fun_ext v) ∙ ap (λ (w : Words KeyCode). answer_in g w line) (fun_ext k)
