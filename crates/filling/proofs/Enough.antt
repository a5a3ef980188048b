-- A filling for which there are nodes enough takes every entry. Assumes nothing.
use Rattle.std.proofs.Common.{◌≡◌, ℕ, ◌+◌, ◌<◌, ◌≤◌, min, Bool, true, false, cond, not, ◌||◌, leb, List, [], ◌∷◌, length, is_some, Some, None, Ok, Err, Option, Result, sym, refl, ap, ◌∙◌, subst, ⊎_elim, arith}
use Rattle.std.proofs.lemmas.Bool.{and_parts, leb-true, cases_lt}
use Rattle.std.specs.Str.{bytes_eq}
use Rattle.keymap.specs.declared.found.MapFault.{MapFault}
use Rattle.keymap.specs.declared.found.MapFault.TheVariants.{TooFewNodes}
use Rattle.keymap.specs.declared.node.KeyMap.{KeyMap}
use Rattle.filling.specs.Filling.{Outcome, onward, filled, put_all, total, short, once, Fills, TakesAll}
use Rattle.keymap.specs.Holding.{Holds}
use Rattle.keymap.specs.Room.{max_key, max_nodes, nodes_of, root_need, need, insert_cause}
use Rattle.keymap.specs.Stored.{Entry, Stored, value_of, some_key, replaced, put}
use Rattle.keymap.proofs.Entries.{put_keys, put_values, same_is_equal}
use Rattle.keymap.proofs.Causes.{too_few, no_cause}
use Rattle.keymap.proofs.Counts.{put_nodes}

module _ {V : Type 0} where
  pub rooted : (s : Stored V) (k : List ℕ) (v : V) → root_need (put k v s) ≡ 0
  unfolding value_of replaced
  rooted [] k v = refl
  rooted (e ∷ s) k v = by (is_some (value_of (e ∷ s) k))
    where
      by : (b : Bool) → root_need (cond b (replaced k v (e ∷ s)) (record { key = k; value = v } ∷ e ∷ s)) ≡ 0
      by true = refl
      by false = refl

  -- every entry is in, where there are as many nodes as the keys have bytes
  pub enough_fills : (supplied : ℕ) (s : Stored V) (es : List (Entry V)) → nodes_of s + root_need s + total es ≤ min supplied max_nodes → short es ≡ true → filled supplied s es ≡ record { said = Ok tt; stored = put_all s es }
  unfolding filled put_all total short
  enough_fills supplied s [] h t = refl
  enough_fills supplied s (e ∷ es) h t =
      let p = and_parts (leb (length e.key) max_key) (short es) t in
      let k = leb-true (length e.key) max_key p.0 in
      let c : insert_cause supplied s e.key ≡ None = no_cause supplied s e.key k (omega arith) in
      let n = put_nodes e.key e.value s in
      let z = rooted s e.key e.value in
      ap (λ (o : Option MapFault). onward o s (filled supplied (put e.key e.value s) es)) c
      ∙ enough_fills supplied (put e.key e.value s) es (omega arith) p.1

  or_else : Option V → Option V → Option V
  or_else None o = o
  or_else (Some v) o = Some v

  -- after all entries, each key once: the value of its entry, or else the value before
  put_all_values : (es : List (Entry V)) (s : Stored V) → once es ≡ true → (word : List ℕ) → value_of (put_all s es) word ≡ or_else (value_of es word) (value_of s word)
  unfolding put_all once value_of or_else
  put_all_values [] s t word = refl
  put_all_values (e ∷ es) s t word =
      let p = and_parts (not (is_some (value_of es e.key))) (once es) t in
      put_all_values es (put e.key e.value s) p.1 word
      ∙ (ap (or_else (value_of es word)) (put_values e.key e.value s word) ∙ by (bytes_eq e.key word) refl p.0)
    where
      gone : (o : Option V) → not (is_some o) ≡ true → or_else o (Some e.value) ≡ Some e.value
      gone None h = refl
      gone (Some v) h = absurd (let z : ◌≡◌ {A = ℕ} 0 1 = cc in omega arith)

      by : (b : Bool) → bytes_eq e.key word ≡ b → not (is_some (value_of es e.key)) ≡ true → or_else (value_of es word) (cond b (Some e.value) (value_of s word)) ≡ or_else (cond b (Some e.value) (value_of es word)) (value_of s word)
      by true q h = gone (value_of es word) (ap (λ (k : List ℕ). not (is_some (value_of es k))) (sym (same_is_equal e.key word q)) ∙ h)
      by false q h = refl

  or_none : (o : Option V) → or_else o None ≡ o
  unfolding or_else
  or_none None = refl
  or_none (Some v) = refl

  -- the keys after all entries: theirs, and those that were stored
  pub put_all_keys : (test : List ℕ → Bool) (es : List (Entry V)) (s : Stored V) → some_key test (put_all s es) ≡ (some_key test es || some_key test s)
  unfolding put_all some_key
  put_all_keys test [] s = refl
  put_all_keys test (e ∷ es) s =
      put_all_keys test es (put e.key e.value s) ∙ (ap (λ (b : Bool). some_key test es || b) (put_keys e.key e.value test s) ∙ swap (some_key test es) (test e.key))
    where
      swap : (a b : Bool) → (a || (b || some_key test s)) ≡ ((b || a) || some_key test s)
      swap true true = refl
      swap true false = refl
      swap false true = refl
      swap false false = refl

  -- nodes are never given back
  more_nodes : (es : List (Entry V)) (s : Stored V) → nodes_of s ≤ nodes_of (put_all s es)
  unfolding put_all
  more_nodes [] s = omega arith
  more_nodes (e ∷ es) s = omega (arith, put_nodes e.key e.value s, more_nodes es (put e.key e.value s))

  module _ (supplied : ℕ) where
    goes_in : (s : Stored V) (e : Entry V) (es : List (Entry V)) → length e.key ≤ max_key → nodes_of s + need s e.key ≤ min supplied max_nodes → filled supplied s (e ∷ es) ≡ filled supplied (put e.key e.value s) es
    unfolding filled
    goes_in s e es k h = ap (λ (o : Option MapFault). onward o s (filled supplied (put e.key e.value s) es)) (no_cause supplied s e.key k h)

    -- every entry is in, where there are nodes for all of them
    pub room_fills : (s : Stored V) (es : List (Entry V)) → short es ≡ true → nodes_of (put_all s es) ≤ min supplied max_nodes → filled supplied s es ≡ record { said = Ok tt; stored = put_all s es }
    unfolding filled put_all short
    room_fills s [] t h = refl
    room_fills s (e ∷ es) t h =
        let p = and_parts (leb (length e.key) max_key) (short es) t in
        let next = put e.key e.value s in
        goes_in s e es (leb-true (length e.key) max_key p.0) (omega (arith, put_nodes e.key e.value s, more_nodes es next)) ∙ room_fills next es p.1 h

    -- where there are not, one is refused for it
    pub no_room_refuses : (s : Stored V) (es : List (Entry V)) → short es ≡ true → nodes_of s ≤ min supplied max_nodes → min supplied max_nodes < nodes_of (put_all s es) → (filled supplied s es).said ≡ Err TooFewNodes
    unfolding filled put_all short
    no_room_refuses s [] t le h = absurd (omega arith)
    no_room_refuses s (e ∷ es) t le h =
        let p = and_parts (leb (length e.key) max_key) (short es) t in
        let k = leb-true (length e.key) max_key p.0 in
        let next = put e.key e.value s in
        ⊎_elim
        (λ few. ap (λ (o : Option MapFault). (onward o s (filled supplied next es)).said) (too_few supplied s e.key k few))
        (λ fits. ap (λ (o : Outcome V). o.said) (goes_in s e es k fits) ∙ no_room_refuses next es p.1 (omega (arith, put_nodes e.key e.value s)) h)
        (cases_lt (min supplied max_nodes) (nodes_of s + need s e.key))

  -- an empty map with nodes enough takes every entry, and then gives each word its value
  pub takes_all : (m next : KeyMap V) (r : Result (Unit {0}) MapFault) (es : List (Entry V)) → short es ≡ true → once es ≡ true → Fills m next r es → TakesAll m next r es
  unfolding value_of
  takes_all m next r es t o fills h room =
      let f = fills [] h in
      let e = enough_fills (length m.nodes.now) [] es (omega arith) t in (
        f.0 ∙ ap (λ (x : Outcome V). x.said) e,
        (
          put_all [] es,
          (
            subst (λ (x : Outcome V). Holds next x.stored) e f.1,
            λ word. put_all_values es [] o word ∙ or_none (value_of es word),
          ),
        ),
      )
