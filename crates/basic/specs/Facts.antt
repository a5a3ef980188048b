-- What holds of the built-in table once it is stored. Assumes nothing.
use Rattle.std.specs.Prelude.{◌≡◌, ℕ, Bool, true, false, List, [], ◌∷◌, ◌++◌, length, take, Some, ◌==◌, nat_eq}
use Rattle.character.specs.Characters.{upper}
use Rattle.encode.specs.Plain.{plain, plain_alone, plain_alt, plain_ctrl, plain_bytes}
use Rattle.filling.specs.Filling.{put_all}
use Rattle.keycode.specs.Names.{place}
use Rattle.keycode.specs.declared.key.KeyCode.{KeyCode}
use Rattle.keycode.specs.declared.key.KeyCode.TheVariants.{Char, Escape}
use Rattle.keycode.specs.declared.key.KeyEvent.{KeyEvent}
use Rattle.keymap.specs.Room.{nodes_of}
use Rattle.lawful.specs.Lawful.{lawful}
use Rattle.keymap.specs.Stored.{Stored, value_of, some_key, begun}
use Rattle.keycode.specs.Presses.{press}
use Rattle.table.specs.Table.{longest_key, beyond, table}
use Rattle.writer.specs.Numbers.{utf8_of}

-- the table, stored: a later entry replaces an earlier one of the same key
abbrev pub built_in : Stored KeyEvent
built_in = put_all [] table

-- the keys of the table, and the nodes that they take
abbrev pub key_count : ℕ
key_count = 2834

abbrev pub node_count : ℕ
node_count = 5327

-- whether a key is a character
abbrev pub typed : KeyCode → Bool
typed key = place key == place (Char 0)

-- the bytes are stored with the press, and no stored key goes on behind them
abbrev pub Whole : Stored KeyEvent → List ℕ → KeyEvent → Type 0
Whole s bytes e = (value_of s bytes ≡ Some e) × ((b : ℕ) → begun s (bytes ++ (b ∷ [])) ≡ false)

-- no stored key begins with the bytes
abbrev pub Foreign : Stored KeyEvent → List ℕ → Type 0
Foreign s bytes = begun s bytes ≡ false

-- how a table stands to the plain presses, by their kind
pub record Presses (s : Stored KeyEvent) : Type 0 where
  -- every key but a character
  pub keys : (key : KeyCode) (m : ℕ) → plain key m ≡ true → typed key ≡ false → Whole s (plain_bytes key m) (press key m)
  -- a character alone: no stored key starts with its first byte
  pub alone : (c : ℕ) → plain_alone c ≡ true → (plain_bytes (Char c) 0 ≡ utf8_of c) × Foreign s (take 1 (utf8_of c))
  -- ALT with a capital
  pub capitals : (c : ℕ) → plain_alt c ≡ true → upper c ≡ true → Whole s (plain_bytes (Char c) 2) (press (Char c) 2)
  -- ALT with another character: ESC and the character, which begin no stored key, and neither does the character alone
  pub alt : (c : ℕ) → plain_alt c ≡ true → upper c ≡ false → (plain_bytes (Char c) 2 ≡ 27 ∷ c ∷ []) × Foreign s (27 ∷ c ∷ []) × Foreign s (c ∷ [])
  -- CTRL with a letter
  pub ctrl : (c : ℕ) → plain_ctrl c ≡ true → Whole s (plain_bytes (Char c) 4) (press (Char c) 4)
  -- CTRL and ALT with a letter: ESC and the control character, which begin no stored key; the control character is that of CTRL
  pub ctrl_alt : (c : ℕ) → plain_ctrl c ≡ true → (plain_bytes (Char c) 6 ≡ 27 ∷ plain_bytes (Char c) 4) × Foreign s (plain_bytes (Char c) 6)

-- what is computed of the whole table
pub record Facts (s : Stored KeyEvent) : Type 0 where
  pub count : length s ≡ key_count
  pub nodes : nodes_of s ≡ node_count
  pub lengths : some_key beyond s ≡ false
  pub longest : some_key (λ k. nat_eq (length k) longest_key) s ≡ true
  pub escape : value_of s (27 ∷ []) ≡ Some (press Escape 0)
  pub is_lawful : lawful s ≡ true
  pub presses : Presses s
