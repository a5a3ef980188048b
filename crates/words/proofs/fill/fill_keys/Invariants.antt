use Rattle.std.proofs.Common.{drop}
use Rattle.filling.specs.Filling.{PutsLeft}
use Rattle.words.specs.Words.{key_words}
use Rattle.words.proofs.fill.fill_keys.Given as goal

-- what is left of the words gives, from what the map holds now, what all of them give from what it held
abbrev pub invariant-loop-place : goal.invariant-loop-place
invariant-loop-place l = PutsLeft l.initial.map l.map (drop l.place key_words) key_words
