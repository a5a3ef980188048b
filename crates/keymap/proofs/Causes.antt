-- The whole answers of the calls, case by case. Assumes nothing.
use Rattle.std.proofs.Common.{◌≡◌, ℕ, ◌+◌, ◌<◌, ◌≤◌, min, Bool, cond, ltb, List, [], ◌∷◌, length, Some, None, Ok, Err, Option, refl, ap, ◌∙◌, arith}
use Rattle.std.proofs.lemmas.Bool.{cond-true, cond-false, lt-ltb, le-ltb}
use Rattle.keymap.specs.declared.found.Found.TheVariants.{None as NoKey}
use Rattle.keymap.specs.declared.found.MapFault.{MapFault}
use Rattle.keymap.specs.declared.found.MapFault.TheVariants.{KeyTooLong, TooFewNodes, NothingStored}
use Rattle.keymap.specs.Finding.{found, looked}
use Rattle.keymap.specs.Room.{max_key, max_nodes, nodes_of, need, insert_cause}
use Rattle.keymap.specs.Stored.{Stored, some_key}
use Rattle.keymap.proofs.Finds.{foreign_is, found_none}

module _ {V : Type 0} (supplied : ℕ) (s : Stored V) (k : List ℕ) where
  room_cause : Option MapFault
  room_cause = cond (ltb (min supplied max_nodes) (nodes_of s + need s k)) (Some TooFewNodes) None

  pub too_long : max_key < length k → insert_cause supplied s k ≡ Some KeyTooLong
  unfolding room_cause insert_cause
  too_long h = cond-true (ltb max_key (length k)) (Some KeyTooLong) room_cause (lt-ltb max_key (length k) h)

  short_cause : length k ≤ max_key → insert_cause supplied s k ≡ room_cause
  unfolding room_cause insert_cause
  short_cause h = cond-false (ltb max_key (length k)) (Some KeyTooLong) room_cause (le-ltb max_key (length k) h)

  pub too_few : length k ≤ max_key → min supplied max_nodes < nodes_of s + need s k → insert_cause supplied s k ≡ Some TooFewNodes
  unfolding room_cause
  too_few h l = short_cause h ∙ cond-true (ltb (min supplied max_nodes) (nodes_of s + need s k)) (Some TooFewNodes) None (lt-ltb (min supplied max_nodes) (nodes_of s + need s k) l)

  pub no_cause : length k ≤ max_key → nodes_of s + need s k ≤ min supplied max_nodes → insert_cause supplied s k ≡ None
  unfolding room_cause
  no_cause h l = short_cause h ∙ cond-false (ltb (min supplied max_nodes) (nodes_of s + need s k)) (Some TooFewNodes) None (le-ltb (min supplied max_nodes) (nodes_of s + need s k) l)

pub something_looked_up : {V : Type 0} (s : Stored V) (r : List ℕ) (more : Bool) → 0 < nodes_of s → looked s r more ≡ Ok (found s r more)
unfolding looked
something_looked_up [] r more h = absurd (omega arith)
something_looked_up (e ∷ s) r more h = refl

pub nothing_looked_up : {V : Type 0} (s : Stored V) (r : List ℕ) (more : Bool) → nodes_of s ≡ 0 → length r ≡ 0 → looked s r more ≡ Err NothingStored
unfolding looked
nothing_looked_up [] [] more z e = refl
nothing_looked_up [] (b ∷ r) more z e = absurd (omega arith)
nothing_looked_up (x ∷ s) r more z e = absurd (omega arith)

pub nothing_starts_so : {V : Type 0} (s : Stored V) (r : List ℕ) (more : Bool) → nodes_of s ≡ 0 → 0 < length r → looked s r more ≡ Ok NoKey
unfolding looked some_key
nothing_starts_so [] [] more z lo = absurd (omega arith)
nothing_starts_so {V} [] (b ∷ r) more z lo = ap Ok (found_none {V = V} [] (b ∷ r) more (foreign_is {V = V} [] (b ∷ r) lo refl))
nothing_starts_so (x ∷ s) r more z lo = absurd (omega arith)
