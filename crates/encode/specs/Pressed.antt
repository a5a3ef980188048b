-- The bytes of a press, by the form of its key. Assumes nothing.
use Rattle.std.specs.Prelude.{ℕ, Bool, true, false, cond, not, ◌&&◌, ◌||◌, List, [], ◌∷◌, ◌++◌, ◌==◌}
use Rattle.keycode.specs.Modifiers.{shift, ctrl, without, unplaced}
use Rattle.keycode.specs.declared.key.KeyCode.{KeyCode}
use Rattle.keycode.specs.declared.modes.KeyCodeEncodeModes.{KeyCodeEncodeModes}
use Rattle.encode.specs.declared.form.Form.{Form}
use Rattle.encode.specs.declared.form.Form.TheVariants.{Typed, Cursor, Application, Keypad, Edit, Numbered, KeyBackspace, KeyEnter, KeyEscape, KeyTab, Silent}
use Rattle.character.specs.declared.level.Level.{Level}
use Rattle.character.specs.declared.level.Level.TheVariants.{Off, One, Two, Other}
use Rattle.encode.specs.Forms.{form_of}
use Rattle.encode.specs.Sequences.{ss3, letter_key, number_key, function_key}
use Rattle.character.specs.Parts.{csi, escaped}
use Rattle.character.specs.Typed.{level_of, other_key, typed}

-- Backspace sends DEL; under CTRL it is the modified character 08, under SHIFT the modified character 7F
unfoldable pub backspace : ℕ → KeyCodeEncodeModes → List ℕ
backspace m modes = cond (ctrl m) (other_key 8 m modes) (cond (shift m) (other_key 127 m modes) (escaped m ++ (127 ∷ [])))

-- Enter and Escape send their own control character; under SHIFT or CTRL they are that character, modified
unfoldable pub own_character : ℕ → List ℕ → ℕ → KeyCodeEncodeModes → List ℕ
own_character c text m modes = cond (shift m || ctrl m) (other_key c m modes) (escaped m ++ text)

-- Enter sends CR, and LF behind it in newline mode
abbrev pub newline : KeyCodeEncodeModes → List ℕ
newline modes = 13 ∷ cond modes.newline_mode (10 ∷ []) []

-- Tab under a set without ALT: CTRL alone, CTRL and SHIFT (both as the original sends them), SHIFT alone (the back tab), else
-- the control character
abbrev pub tab_under : ℕ → List ℕ
tab_under m =
    cond (m == 4) (csi (57 ∷ 59 ∷ 53 ∷ 117 ∷ []))
    (cond (m == 5) (csi (49 ∷ 59 ∷ 53 ∷ 90 ∷ []))
    (cond (m == 1) (csi (90 ∷ [])) (9 ∷ [])))

abbrev pub is_on : Level → Bool
is_on Off = false
is_on One = true
is_on Two = true
is_on Other = true

-- modifyOtherKeys takes a modified Tab; else ALT sends ESC first
unfoldable pub tab : ℕ → KeyCodeEncodeModes → List ℕ
tab m modes = cond (not (m == 0) && is_on (level_of modes.modify_other_keys)) (other_key 9 m modes) (escaped m ++ tab_under (without m 2))

-- a cursor key without modifiers: by SS3 in the application mode of the cursor keys, else by CSI
abbrev pub cursor : ℕ → KeyCodeEncodeModes → List ℕ
cursor final modes = 27 ∷ cond modes.application_cursor_keys 79 91 ∷ final ∷ []

abbrev pub by_form : Form → ℕ → KeyCodeEncodeModes → List ℕ
by_form (Typed c) m modes = typed c m modes
by_form (Cursor final) m modes = letter_key (cursor final modes) final m
by_form (Application final) m modes = letter_key (ss3 final) final m
by_form (Keypad final) m modes = letter_key (csi (final ∷ [])) final m
by_form (Edit number) m modes = number_key number m
by_form (Numbered n) m modes = function_key n m
by_form KeyBackspace m modes = backspace m modes
by_form KeyEnter m modes = own_character 13 (newline modes) m modes
by_form KeyEscape m modes = own_character 27 (27 ∷ []) m modes
by_form KeyTab m modes = tab m modes
by_form Silent m modes = []

-- the bytes of a press; modifiers that name a side are not sent
unfoldable pub pressed : KeyCode → ℕ → KeyCodeEncodeModes → List ℕ
pressed key m modes = by_form (form_of key) (unplaced m) modes
