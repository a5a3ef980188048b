-- The rows of the table of names. Assumes nothing.
use Rattle.std.proofs.Common.{◌≡◌, ℕ, zero, suc, ◌+◌, ◌<◌, true, List, [], ◌∷◌, map, length, get_or, drop, sym, refl, ap, ◌∙◌, arith}
use lib.ListN.{get_or-map}
use Rattle.std.proofs.lemmas.List.FromFn.{get_or-range_with_len}
use Rattle.std.proofs.lemmas.List.{drop_more}
use Rattle.std.specs.List.{range_with_len}
use Rattle.keycode.specs.Names.{keys, names, place, name_of}
use Rattle.keycode.specs.declared.key.KeyCode.{KeyCode}
use Rattle.keycode.specs.declared.key.KeyCode.TheVariants.{Char}
use Rattle.filling.specs.Filling.{short, once}
use Rattle.keymap.specs.Stored.{Entry, value_of}
use Rattle.words.specs.Words.{named, verb_words, key_word, key_words}

pub named_at : {V : Type 0} (vs : List V) (ns : List (List ℕ)) (i : ℕ) (v : V) → i < length vs → i < length ns → get_or (named vs ns) i (record { key = []; value = v }) ≡ record { key = get_or ns i []; value = get_or vs i v }
unfolding named
named_at [] ns i v h g = absurd (omega arith)
named_at (x ∷ vs) [] i v h g = absurd (omega arith)
named_at (x ∷ vs) (n ∷ ns) zero v h g = refl
named_at (x ∷ vs) (n ∷ ns) (suc i) v h g = named_at vs ns i v (omega arith) (omega arith)

keys_length : length keys ≡ 90
unfolding keys
keys_length = refl

names_length : length names ≡ 90
unfolding names
names_length = refl

pub words_length : length key_words ≡ 90
unfolding keys names named
words_length = refl

places : map place keys ≡ range_with_len 0 90
unfolding keys
places = refl

-- the key at a place stands at that place
place_at : (i : ℕ) → i < 90 → place (get_or keys i (Char 0)) ≡ i
place_at i h = sym (get_or-map place keys i (Char 0)) ∙ (ap (λ l. get_or l i 0) places ∙ (get_or-range_with_len 0 90 i 0 h ∙ omega arith))

module _ (i : ℕ) (h : i < 90) where
  -- the name of the key at a place is the word there
  pub word_at : (key : KeyCode) (name : List ℕ) → key ≡ get_or keys i (Char 0) → name ≡ name_of key → record { key = name; value = key } ≡ key_word i
  word_at key name k n =
      let e : name ≡ get_or names i [] = n ∙ (ap name_of k ∙ ap (λ (j : ℕ). get_or names j []) (place_at i h)) in
      ap (λ (x : List ℕ). record { key = x; value = key }) e ∙ ap (λ (x : KeyCode). record { key = get_or names i []; value = x }) k

  -- the words from the i-th on: the one at that place, then the rest
  pub words_more : drop i key_words ≡ key_word i ∷ drop (i + 1) key_words
  words_more =
      drop_more key_words i (record { key = []; value = Char 0 }) (omega (arith, words_length))
      ∙ ap (λ (x : Entry KeyCode). x ∷ drop (i + 1) key_words) (named_at keys names i (Char 0) (omega (arith, keys_length)) (omega (arith, names_length)))

pub verbs_short : short verb_words ≡ true
unfolding short
verbs_short = refl

pub verbs_once : once verb_words ≡ true
unfolding once value_of
verbs_once = refl

pub keys_short : short key_words ≡ true
unfolding short keys names named
keys_short = refl

pub keys_once : once key_words ≡ true
unfolding once value_of keys names named
keys_once = refl
