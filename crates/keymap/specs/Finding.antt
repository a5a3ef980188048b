-- What a lookup answers, from what is stored. Assumes nothing.
use Rattle.std.specs.Prelude.{ℕ, zero, suc, ◌+◌, min, Bool, cond, not, ◌&&◌, List, [], ◌∷◌, length, take, Some, None, Ok, Err, Option, Result, nat_lt}
use Rattle.keymap.specs.declared.found.Found.{Found}
use Rattle.keymap.specs.declared.found.Found.TheVariants.{None as NoKey, Exact, Ambiguous, NeedData}
use Rattle.keymap.specs.declared.found.MapFault.{MapFault}
use Rattle.keymap.specs.declared.found.MapFault.TheVariants.{NothingStored}
use Rattle.keymap.specs.Stored.{Stored, value_of, some_key, begins_with, begun}

-- a stored key that an input begins with: its length and its value
pub record Front (V : Type 0) : Type 0 where
  pub len : ℕ
  pub value : V

-- a stored key of n bytes, or else a shorter one
abbrev pub or_shorter : {V : Type 0} → ℕ → Option V → Option (Front V) → Option (Front V)
or_shorter n (Some v) shorter = Some (record { len = n; value = v })
or_shorter n None shorter = shorter

-- the longest stored key of at most n bytes that r begins with
unfoldable pub longest_to : {V : Type 0} → Stored V → List ℕ → ℕ → Option (Front V)
longest_to s r zero = or_shorter 0 (value_of s []) None
longest_to s r (suc n) = or_shorter (suc n) (value_of s (take (suc n) r)) (longest_to s r n)

-- the longest stored key that r begins with
abbrev pub longest : {V : Type 0} → Stored V → List ℕ → Option (Front V)
longest s r = longest_to s r (length r)

-- whether a stored key longer than d bytes begins with the first m bytes of r, m the smaller of the length of r and d + 1
abbrev pub longer : {V : Type 0} → Stored V → List ℕ → ℕ → Bool
longer s r d = some_key (λ k. begins_with (take (min (length r) (d + 1)) r) k && nat_lt d (length k)) s

-- whether r is not empty and no stored key starts with its first byte
abbrev pub foreign : {V : Type 0} → Stored V → List ℕ → Bool
foreign s r = nat_lt 0 (length r) && not (begun s (take 1 r))

-- the answer by the longest stored key that r begins with
abbrev pub judged : {V : Type 0} → Stored V → List ℕ → Bool → Option (Front V) → Found V
judged s r more None = NeedData
judged s r more (Some k) = cond (more && longer s r k.len) (Ambiguous k.len k.value) (Exact k.len k.value)

-- what the stored keys say of r; more says that r may go on
unfoldable pub found : {V : Type 0} → Stored V → List ℕ → Bool → Found V
found s r more = cond (foreign s r) NoKey (judged s r more (longest s r))

-- why a lookup is refused: an empty input where no key is stored
abbrev pub lookup_cause : {V : Type 0} → Stored V → List ℕ → Option MapFault
lookup_cause [] [] = Some NothingStored
lookup_cause [] (b ∷ r) = None
lookup_cause (e ∷ s) r = None

-- an answer, unless there is a cause to refuse it
abbrev pub unless : {A : Type 0} → Option MapFault → A → Result A MapFault
unless None a = Ok a
unless (Some fault) a = Err fault

-- the whole answer of a lookup
unfoldable pub looked : {V : Type 0} → Stored V → List ℕ → Bool → Result (Found V) MapFault
looked s r more = unless (lookup_cause s r) (found s r more)
