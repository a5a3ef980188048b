-- The table computed as a tree, and the plain presses looked up in it. Assumes nothing.
use Rattle.std.proofs.Common.{◌≡◌, ℕ, Bool, true, false, cond, ◌&&◌, eqb, ltb, leb, List, [], ◌∷◌, map, length, get_or, Some, None, Option, refl}
use Rattle.std.specs.List.{range_with_len}
use Rattle.character.specs.Characters.{upper}
use Rattle.character.specs.Typed.{traditionally, other_key, typed}
use Rattle.encode.specs.Plain.{plain_alt, plain_ctrl, plain_bytes}
use Rattle.encode.specs.Pressed.{pressed, backspace, own_character, tab}
use Rattle.encode.specs.Sequences.{letter_key, number_key, function_codes, function_key}
use Rattle.keycode.specs.Modifiers.{xterm_sum}
use Rattle.keycode.specs.declared.key.KeyCode.{KeyCode}
use Rattle.keycode.specs.declared.key.KeyCode.TheVariants.{Char, Escape, Function, Backspace, Tab, Enter, UpArrow, DownArrow, RightArrow, LeftArrow, Home, End, Insert, Delete, PageUp, PageDown}
use Rattle.keycode.specs.declared.key.KeyEvent.{KeyEvent}
use Rattle.keymap.specs.Stored.{some_key, begins_with}
use Rattle.keycode.specs.Presses.{press}
use Rattle.table.specs.Table.{each, cursor_keys, rxvt_keys, application_keys, numbers, editing_digits, entries_of, rules, longest_key, beyond, table}
use Rattle.writer.specs.Numbers.{digits}
use Rattle.basic.proofs.Mirrors.{grow}
use Rattle.basic.proofs.Trees.{Root, empty, find, get, there, sole, whole, one, valued}
use Rattle.basic.specs.Facts.{key_count, node_count}

-- the table as a tree
unfoldable pub grown : Root KeyEvent
grown = grow table empty

-- what stands under the bytes of a press where no longer key is, and what should
unfoldable pub under : KeyCode → ℕ → Option KeyEvent
under key m = sole (find (plain_bytes key m) grown)

abbrev pub wanted : KeyCode → ℕ → Option KeyEvent
wanted key m = Some (press key m)

-- whether some key begins with the bytes
unfoldable pub begins : List ℕ → Bool
begins bytes = there bytes grown

abbrev pub none : List ℕ → Bool
none bytes = false

-- what is looked up of the keys, each under the sets from 0 on
pub record Keyed : Type 0 where
  pub everywhere : List (List (Option KeyEvent))
  pub functions : List (List (Option KeyEvent))
  pub alone : List (Option KeyEvent)
  pub tabs : List (Option KeyEvent)
  pub capitals : List (Option KeyEvent)
  pub controls : List (Option KeyEvent)

abbrev pub everywhere_keys : List KeyCode
everywhere_keys = UpArrow ∷ DownArrow ∷ RightArrow ∷ LeftArrow ∷ Home ∷ End ∷ []

abbrev pub alone_keys : List KeyCode
alone_keys = Enter ∷ Backspace ∷ Insert ∷ Delete ∷ PageUp ∷ PageDown ∷ []

-- a character's press where it is plain
abbrev pub where_plain : Bool → Option KeyEvent → Option KeyEvent
where_plain plain o = cond plain o None

abbrev pub capital : (KeyCode → ℕ → Option KeyEvent) → ℕ → Option KeyEvent
capital look c = where_plain (plain_alt c) (look (Char c) 2)

abbrev pub control : (KeyCode → ℕ → Option KeyEvent) → ℕ → Option KeyEvent
control look c = where_plain (plain_ctrl c) (look (Char c) 4)

abbrev pub keyed : (KeyCode → ℕ → Option KeyEvent) → Keyed
keyed look =
    record {
      everywhere = map (λ key. map (look key) (range_with_len 0 8)) everywhere_keys;
      functions = map (λ n. map (look (Function n)) (range_with_len 0 8)) (range_with_len 1 20);
      alone = map (λ key. look key 0) alone_keys;
      tabs = map (look Tab) (range_with_len 0 2);
      capitals = map (capital look) (range_with_len 65 26);
      controls = map (control look) (range_with_len 97 26);
    }

-- what is looked up of the characters, and the bytes of some
pub record Typing : Type 0 where
  pub alone : List Bool
  pub alt : List Bool
  pub ctrl_alt : List Bool

-- a character under ALT, where it is plain and no capital
abbrev pub alted : (List ℕ → Bool) → ℕ → Bool
alted look c = cond (plain_alt c) (cond (upper c) false (look (27 ∷ c ∷ []))) false

abbrev pub control_alted : (List ℕ → Bool) → ℕ → Bool
control_alted look c = cond (plain_ctrl c) (look (plain_bytes (Char c) 6)) false

abbrev pub typing : (List ℕ → Bool) → Typing
typing look =
    record {
      alone = map (λ c. look (c ∷ [])) (range_with_len 32 95);
      alt = map (alted look) (range_with_len 32 95);
      ctrl_alt = map (control_alted look) (range_with_len 97 26);
    }

-- bytes where a character is plain
abbrev pub bytes_where : Bool → List ℕ → List ℕ
bytes_where plain bytes = cond plain bytes []

pub alt_bytes : map (λ c. bytes_where (plain_alt c) (plain_bytes (Char c) 2)) (range_with_len 32 95) ≡ map (λ c. bytes_where (plain_alt c) (27 ∷ c ∷ [])) (range_with_len 32 95)
unfolding traditionally other_key typed pressed xterm_sum
alt_bytes = refl

pub control_bytes : map (λ c. bytes_where (plain_ctrl c) (plain_bytes (Char c) 6)) (range_with_len 97 26) ≡ map (λ c. bytes_where (plain_ctrl c) (27 ∷ plain_bytes (Char c) 4)) (range_with_len 97 26)
unfolding traditionally other_key typed pressed xterm_sum
control_bytes = refl

-- tests of all keys
abbrev pub of_longest : List ℕ → Bool
of_longest k = eqb (length k) longest_key

abbrev pub past_ascii : List ℕ → Bool
past_ascii k = leb 128 (get_or k 0 0)

abbrev pub behind_escape : List ℕ → Bool
behind_escape k = begins_with (27 ∷ []) k && ltb 1 (length k)

pub tested : (some_key beyond table ∷ some_key of_longest table ∷ some_key past_ascii table ∷ some_key behind_escape table ∷ []) ≡ (false ∷ true ∷ false ∷ true ∷ [])
unfolding some_key begins_with each cursor_keys rxvt_keys application_keys numbers editing_digits entries_of rules function_codes digits
tested = refl

pub record Sizes : Type 0 where
  pub nodes : ℕ
  pub keys : ℕ

-- all of it at once
pub record Computed : Type 0 where
  pub sizes : Sizes
  pub escape : Option KeyEvent
  pub empty : Option KeyEvent
  pub presses : Keyed
  pub characters : Typing

pub computed : ◌≡◌ {A = Computed} (record { sizes = record { nodes = whole one grown; keys = whole valued grown }; escape = get (27 ∷ []) grown; empty = get [] grown; presses = keyed under; characters = typing begins }) (record { sizes = record { nodes = node_count; keys = key_count }; escape = Some (press Escape 0); empty = None; presses = keyed wanted; characters = typing none })
unfolding grown under begins each cursor_keys rxvt_keys application_keys numbers editing_digits entries_of rules function_codes digits traditionally other_key typed pressed backspace own_character tab letter_key number_key function_key xterm_sum
computed = refl
