-- The words of a script. Assumes nothing.
use Rattle.std.specs.Prelude.{ℕ, List, [], ◌∷◌, codes, slice_index_or}
use Rattle.keymap.specs.Stored.{Entry}
use Rattle.keycode.specs.Names.{keys, names}
use Rattle.keycode.specs.declared.key.KeyCode.{KeyCode}
use Rattle.keycode.specs.declared.key.KeyCode.TheVariants.{Char}
use Rattle.words.specs.declared.verb.Verb.{Verb}
use Rattle.words.specs.declared.verb.Verb.TheVariants.{Press}

-- the verbs
abbrev pub verb_words : List (Entry Verb)
verb_words = record { key = codes "press"; value = Press } ∷ []

-- names with what they name, as long as there are both
unfoldable pub named : {V : Type 0} → List V → List (List ℕ) → List (Entry V)
named [] ns = []
named (v ∷ vs) [] = []
named (v ∷ vs) (n ∷ ns) = record { key = n; value = v } ∷ named vs ns

-- the name and the key at a place
abbrev pub key_word : ℕ → Entry KeyCode
key_word i = record { key = slice_index_or names i []; value = slice_index_or keys i (Char 0) }

-- the names of the keys
abbrev pub key_words : List (Entry KeyCode)
key_words = named keys names
