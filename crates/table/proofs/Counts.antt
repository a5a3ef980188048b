-- How many keys the rules have. Assumes nothing.
use Rattle.std.proofs.Common.{◌≡◌, ℕ, zero, suc, ◌<◌, ◌≤◌, Bool, false, leb, List, [], ◌∷◌, length, get_or, refl, arith}
use Rattle.std.proofs.lemmas.Bool.{not-false, and_parts, or_parts, leb-true}
use Rattle.character.specs.Characters.{within}
use Rattle.encode.specs.Sequences.{function_codes}
use Rattle.table.specs.declared.rule.Rule.{Rule}
use Rattle.table.specs.declared.rule.Rule.TheVariants.{Letters, CsiU, OtherKeys, Cursor, RxvtArrows, ApplicationArrows, Functions, Editing, Single}
use Rattle.table.specs.Table.{each, cursor_keys, rxvt_keys, application_keys, numbers, editing_digits, entries_of, rules, longest_key, beyond}
use Rattle.table.specs.Told.{blank, count_of}
use Rattle.writer.specs.Numbers.{digits}
use Rattle.keymap.specs.Stored.{Entry, Stored, some_key}

-- the number of a rule's keys is their count
pub counted : (rule : Rule) → length (entries_of rule) ≡ count_of rule
unfolding entries_of each cursor_keys rxvt_keys application_keys editing_digits
counted Letters = refl
counted CsiU = refl
counted OtherKeys = refl
counted Cursor = refl
counted RxvtArrows = refl
counted ApplicationArrows = refl
counted Functions = refl
counted Editing = refl
counted Single = refl

pub nine_rules : length rules ≡ 9
unfolding rules
nine_rules = refl

-- no key of a rule is empty or longer than the longest
all_short : (rule : Rule) → some_key beyond (entries_of rule) ≡ false
unfolding some_key entries_of each cursor_keys rxvt_keys application_keys numbers editing_digits function_codes digits
all_short Letters = refl
all_short CsiU = refl
all_short OtherKeys = refl
all_short Cursor = refl
all_short RxvtArrows = refl
all_short ApplicationArrows = refl
all_short Functions = refl
all_short Editing = refl
all_short Single = refl

-- a test that no key passes is failed at each place
none_passes : {V : Type 0} (test : List ℕ → Bool) (s : Stored V) (i : ℕ) (d : Entry V) → some_key test s ≡ false → i < length s → test (get_or s i d).key ≡ false
unfolding some_key
none_passes test [] i d h lt = absurd (omega arith)
none_passes test (e ∷ s) zero d h lt = (or_parts (test e.key) (some_key test s) h).0
none_passes test (e ∷ s) (suc i) d h lt = none_passes test s i d (or_parts (test e.key) (some_key test s) h).1 (omega arith)

pub short_at : (rule : Rule) (place : ℕ) → place < length (entries_of rule) → length (get_or (entries_of rule) place blank).key ≤ longest_key
short_at rule place h =
    let k = length (get_or (entries_of rule) place blank).key in
    let b = not-false (within 1 longest_key k) (none_passes beyond (entries_of rule) place blank (all_short rule) h) in
    leb-true k longest_key (and_parts (leb 1 k) (leb k longest_key) b).1
