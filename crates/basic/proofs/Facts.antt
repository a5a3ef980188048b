-- The facts of the table, from the tree that mirrors it. Assumes nothing.
use Rattle.std.proofs.Common.{◌≡◌, ℕ, ◌+◌, ◌<◌, ◌≤◌, Bool, true, false, not, ◌||◌, eqb, ◌⊎◌, List, [], ◌∷◌, ◌++◌, length, get_or, take, is_some, Option, sym, refl, ap, ◌∙◌, subst, inl, inr, ⊎_elim, arith}
use Rattle.std.proofs.lemmas.List.{length-append}
use Rattle.std.proofs.lemmas.Bool.{both_ways, and_parts, and_from, or_right, cases_Bool, eqb-true, le-leb}
use Rattle.encode.specs.Plain.{plain_bytes}
use Rattle.filling.proofs.Enough.{put_all_keys}
use Rattle.keycode.specs.declared.key.KeyCode.{KeyCode}
use Rattle.keycode.specs.declared.key.KeyCode.TheVariants.{Char}
use Rattle.keycode.specs.declared.key.KeyEvent.{KeyEvent}
use Rattle.keymap.proofs.Begins.{some_key_weaker}
use Rattle.keymap.specs.Room.{root_need}
use Rattle.keymap.specs.Stored.{Stored, value_of, some_key, begins_with, begun}
use Rattle.lawful.specs.Lawful.{plain_escape}
use Rattle.keycode.specs.Presses.{press}
use Rattle.table.specs.Table.{beyond, table}
use Rattle.writer.specs.Numbers.{utf8_of}
use Rattle.basic.proofs.Computed.{grown, under, wanted, begins, of_longest, past_ascii, behind_escape, Computed, computed, tested}
use Rattle.basic.proofs.Keys.{stands}
use Rattle.basic.proofs.Mirrors.{Mirrors, grown_mirrors, nothing_mirrors}
use Rattle.basic.proofs.Trees.{empty, sole_ends}
use Rattle.basic.proofs.Typing.{capital_stands, control_stands, alone_begins_none, alt_begins_none, control_alt_begins_none, alt_sends, control_alt_sends, alone_range, alone_sends, leads_low, leads_high, alt_range}
use Rattle.basic.specs.Facts.{built_in, Whole, Foreign, Presses, Facts}

-- the tree mirrors the table
mirror : Mirrors grown built_in
unfolding grown
mirror = grown_mirrors table empty [] nothing_mirrors

-- what stands alone under the bytes of a press is stored whole
stored_whole : (key : KeyCode) (m : ℕ) → under key m ≡ wanted key m → Whole built_in (plain_bytes key m) (press key m)
unfolding under
stored_whole key m e =
    let w = sole_ends (plain_bytes key m) grown (press key m) e in
    (sym (mirror.values (plain_bytes key m)) ∙ w.0, λ b. sym (mirror.fronts (plain_bytes key m ++ (b ∷ [])) (omega (arith, length-append (plain_bytes key m) (b ∷ [])))) ∙ w.1 b)

foreign_from : (bytes : List ℕ) → 0 < length bytes → begins bytes ≡ false → Foreign built_in bytes
unfolding begins
foreign_from bytes h e = sym (mirror.fronts bytes h) ∙ e

-- a test of the keys stored is a test of the table's
key_tests : (test : List ℕ → Bool) → some_key test built_in ≡ some_key test table
unfolding some_key
key_tests test = put_all_keys test table [] ∙ or_false (some_key test table)
  where
    or_false : (b : Bool) → (b || false) ≡ b
    or_false true = refl
    or_false false = refl

-- no key starts past ASCII
ascii_only : (b : ℕ) → 128 ≤ b → Foreign built_in (b ∷ [])
unfolding begins_with
ascii_only b h =
    ⊎_elim
    (λ t. absurd (both_ways (some_key past_ascii built_in) (key_tests past_ascii ∙ ap (λ (l : List Bool). get_or l 2 true) tested) (some_key_weaker (begins_with (b ∷ [])) past_ascii first built_in t)))
    (λ f. f)
    (cases_Bool (begun built_in (b ∷ [])))
  where
    first : (k : List ℕ) → begins_with (b ∷ []) k ≡ true → past_ascii k ≡ true
    first [] e = absurd (both_ways false refl e)
    first (x ∷ k) e = le-leb 128 x (omega (arith, eqb-true b x (and_parts (eqb b x) true e).0))

alone_foreign : (c : ℕ) → ((32 ≤ c) × (c < 32 + 95)) ⊎ (128 ≤ c) → Foreign built_in (take 1 (utf8_of c))
alone_foreign c (inl r) = subst (Foreign built_in) (sym (leads_low c (omega (arith, r.1)))) (foreign_from (c ∷ []) (omega arith) (alone_begins_none c r.0 r.1))
alone_foreign c (inr h) = let l = leads_high c h in subst (Foreign built_in) (sym l.2) (ascii_only l.0 l.1)

presses : Presses built_in
presses =
    record {
      keys = λ key m p t. stored_whole key m (stands m key p t);
      alone = λ c p. (alone_sends c p, alone_foreign c (alone_range c p));
      capitals = λ c p u. stored_whole (Char c) 2 (capital_stands c p u);
      alt = λ c p u. let r = alt_range c p in (alt_sends c p, foreign_from (27 ∷ c ∷ []) (omega arith) (alt_begins_none c p u), foreign_from (c ∷ []) (omega arith) (alone_begins_none c r.0 r.1));
      ctrl = λ c p. stored_whole (Char c) 4 (control_stands c p);
      ctrl_alt = λ c p. (control_alt_sends c p, foreign_from (plain_bytes (Char c) 6) (omega (arith, ap length (control_alt_sends c p))) (control_alt_begins_none c p));
    }

rooted : (s : Stored KeyEvent) (test : List ℕ → Bool) → some_key test s ≡ true → root_need s ≡ 0
unfolding some_key
rooted [] test h = absurd (both_ways false refl h)
rooted (e ∷ s) test h = refl

-- all facts
pub facts : Facts built_in
facts =
    let escape = sym (mirror.values (27 ∷ [])) ∙ ap (λ (c : Computed). c.escape) computed in
    let nothing = sym (mirror.values []) ∙ ap (λ (c : Computed). c.empty) computed in
    let longest : some_key of_longest built_in ≡ true = key_tests of_longest ∙ ap (λ (l : List Bool). get_or l 1 false) tested in
    let behind : some_key behind_escape built_in ≡ true = key_tests behind_escape ∙ ap (λ (l : List Bool). get_or l 3 false) tested in
    record {
      count = sym mirror.keys ∙ ap (λ (c : Computed). c.sizes.keys) computed;
      nodes = omega (arith, mirror.nodes, ap (λ (c : Computed). c.sizes.nodes) computed, rooted built_in of_longest longest);
      lengths = key_tests beyond ∙ ap (λ (l : List Bool). get_or l 0 true) tested;
      longest = longest;
      escape = escape;
      is_lawful = and_from (not (is_some (value_of built_in []))) (not (plain_escape (value_of built_in (27 ∷ []))) || some_key behind_escape built_in) (ap (λ (o : Option KeyEvent). not (is_some o)) nothing) (or_right (not (plain_escape (value_of built_in (27 ∷ [])))) (some_key behind_escape built_in) behind);
      presses = presses;
    }
