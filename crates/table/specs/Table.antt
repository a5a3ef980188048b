-- The built-in key table: the bytes that a terminal sends, and the key and the modifiers that they mean, in nine rules in the
-- order of filling. XTerm Control Sequences, "PC-Style Function Keys", "VT220-Style Function Keys", "Alt and Meta Keys",
-- "Bracketed Paste Mode" and modifyOtherKeys; the fixterms page for CSI u; rxvt's own arrows and editing keys. CSI is ESC [,
-- SS3 is ESC O. Assumes nothing.
use Rattle.std.specs.Prelude.{ℕ, ◌+◌, ◌-◌, Bool, cond, not, ◌||◌, List, [], ◌∷◌, ◌++◌, map, length, take, ◌==◌, bit_or, nat_lt, slice_index}
use Rattle.std.specs.List.{range_with_len}
use Rattle.character.specs.Characters.{within}
use Rattle.character.specs.Parts.{csi}
use Rattle.encode.specs.Sequences.{ss3, function_codes}
use Rattle.keycode.specs.declared.key.KeyCode.{KeyCode}
use Rattle.keycode.specs.declared.key.KeyCode.TheVariants.{Char, Function, Backspace, Escape, Tab, Enter, UpArrow, DownArrow, RightArrow, LeftArrow, Home, End, ApplicationUpArrow, ApplicationDownArrow, ApplicationRightArrow, ApplicationLeftArrow, Insert, Delete, PageUp, PageDown, InternalPasteStart, InternalPasteEnd}
use Rattle.keycode.specs.Presses.{press}
use Rattle.keycode.specs.declared.key.KeyEvent.{KeyEvent}
use Rattle.keymap.specs.Stored.{Entry}
use Rattle.writer.specs.Numbers.{dec}
use Rattle.table.specs.declared.rule.Lettered.{Lettered}
use Rattle.table.specs.declared.rule.Marked.{Marked}
use Rattle.table.specs.declared.rule.Rule.{Rule}
use Rattle.table.specs.declared.rule.Rule.TheVariants.{Letters, CsiU, OtherKeys, Cursor, RxvtArrows, ApplicationArrows, Functions, Editing, Single}

-- bytes, and the press that they mean; SHIFT is 1, ALT 2, CTRL 4
abbrev pub entry : List ℕ → KeyCode → ℕ → Entry KeyEvent
entry bytes key m = record { key = bytes; value = press key m }

-- all that f gives over a list, in order
unfoldable pub each : {A B : Type 0} → List A → (A → List B) → List B
each [] f = []
each (x ∷ xs) f = f x ++ each xs f

-- the modifiers of a parameter n: n less 1 is SHIFT 1, ALT 2 and CTRL 4 for n 1 to 8; 9 to 16 are those of n less 8 with META,
-- which is ALT; no parameter, 0, is no modifier
abbrev pub mods_of : ℕ → ℕ
mods_of n = cond (nat_lt n 9) (n - 1) (bit_or (n - 9) 2)

-- ; n, or nothing for 0
abbrev pub parameter : ℕ → List ℕ
parameter n = cond (n == 0) [] (59 ∷ dec n)

-- a sequence: what stands before the parameter, the parameter, and the final byte
abbrev pub form : List ℕ → ℕ → KeyCode → ℕ → Entry KeyEvent
form before final key n = entry (before ++ (parameter n ++ (final ∷ []))) key (mods_of n)

-- the sequence without a parameter, then with each from 1 to the last
abbrev pub forms : ℕ → List ℕ → ℕ → KeyCode → List (Entry KeyEvent)
forms last before final key = map (form before final key) (range_with_len 0 (last + 1))

-- 1. the i-th letter: the control character is CTRL with the lowercase letter, ESC and the capital is ALT with that
abbrev pub letter_row : ℕ → List (Entry KeyEvent)
letter_row i = entry (i ∷ []) (Char (96 + i)) 4 ∷ entry (27 ∷ (64 + i) ∷ []) (Char (64 + i)) 2 ∷ []

-- 2. CSI c u, CSI c ; n u: the character c
abbrev pub csi_u_row : ℕ → List (Entry KeyEvent)
csi_u_row c = forms 8 (csi (dec c)) 117 (Char c)

-- the key that a character of modifyOtherKeys is: BS and DEL are Backspace, and ESC, HT, LF, CR are keys of their own
abbrev pub key_of : ℕ → KeyCode
key_of c =
    cond (c == 8 || c == 127) Backspace
    (cond (c == 27) Escape
    (cond (c == 9) Tab
    (cond (c == 10 || c == 13) Enter (Char c))))

-- 3. CSI 27 ; n ; c ~: the character c, or its key
abbrev pub other_key_row : ℕ → List (Entry KeyEvent)
other_key_row c = map (λ n. entry (csi (50 ∷ 55 ∷ 59 ∷ (dec n ++ (59 ∷ (dec c ++ (126 ∷ [])))))) (key_of c) (mods_of n)) (range_with_len 1 8)

abbrev pub lettered : KeyCode → ℕ → ℕ → Lettered
lettered key last intro = record { key = key; last = last; intro = intro }

-- the keys with a final letter: A B C D H F behind CSI, P Q R S behind SS3
unfoldable pub cursor_keys : List Lettered
cursor_keys =
    lettered UpArrow 65 91 ∷ lettered DownArrow 66 91 ∷ lettered RightArrow 67 91 ∷ lettered LeftArrow 68 91
    ∷ lettered Home 72 91 ∷ lettered End 70 91
    ∷ lettered (Function 1) 80 79 ∷ lettered (Function 2) 81 79 ∷ lettered (Function 3) 82 79 ∷ lettered (Function 4) 83 79 ∷ []

-- 4. the letter alone, CSI 1 X, CSI 1 ; n X
abbrev pub cursor_row : Lettered → List (Entry KeyEvent)
cursor_row l = entry (27 ∷ l.intro ∷ l.last ∷ []) l.key 0 ∷ forms 16 (csi (49 ∷ [])) l.last l.key

abbrev pub marked : KeyCode → ℕ → Marked
marked key byte = record { key = key; byte = byte }

-- rxvt's letters for the arrows: a b c d
unfoldable pub rxvt_keys : List Marked
rxvt_keys = marked UpArrow 97 ∷ marked DownArrow 98 ∷ marked RightArrow 99 ∷ marked LeftArrow 100 ∷ []

-- 5. CSI and the letter is the arrow with SHIFT, SS3 and the letter the arrow with CTRL
abbrev pub rxvt_row : Marked → List (Entry KeyEvent)
rxvt_row l = entry (csi (l.byte ∷ [])) l.key 1 ∷ entry (ss3 l.byte) l.key 4 ∷ []

-- the arrows of the application mode: A B C D
unfoldable pub application_keys : List Marked
application_keys =
    marked ApplicationUpArrow 65 ∷ marked ApplicationDownArrow 66 ∷ marked ApplicationRightArrow 67 ∷ marked ApplicationLeftArrow 68 ∷ []

-- 6. SS3 X, SS3 1 X, SS3 1 ; n X
abbrev pub application_row : Marked → List (Entry KeyEvent)
application_row l = entry (ss3 l.byte) l.key 0 ∷ forms 8 (ss3 49) l.byte l.key

-- the numbers of Function 1 to 20: 11 to 14, then those of Function 5 to 20
unfoldable pub numbers : List ℕ
unfolding function_codes
numbers = 11 ∷ 12 ∷ 13 ∷ 14 ∷ take 16 function_codes

-- 7. CSI number ~, CSI number ; n ~: Function k, from 1
abbrev pub function_row : ℕ → List (Entry KeyEvent)
function_row k = forms 16 (csi (dec (slice_index numbers (k - 1)))) 126 (Function k)

-- the digits of the editing keys, with rxvt's 7 and 8: 2 3 1 7 4 8 5 6
unfoldable pub editing_digits : List Marked
editing_digits =
    marked Insert 50 ∷ marked Delete 51 ∷ marked Home 49 ∷ marked Home 55 ∷ marked End 52 ∷ marked End 56 ∷ marked PageUp 53 ∷ marked PageDown 54 ∷ []

-- 8. CSI digit, and ~ for the key alone; rxvt has $ for SHIFT, ^ for CTRL, @ for both
abbrev pub editing_row : Marked → List (Entry KeyEvent)
editing_row l =
    entry (csi (l.byte ∷ 126 ∷ [])) l.key 0
    ∷ entry (csi (l.byte ∷ 36 ∷ [])) l.key 1
    ∷ entry (csi (l.byte ∷ 94 ∷ [])) l.key 4
    ∷ entry (csi (l.byte ∷ 64 ∷ [])) l.key 5 ∷ []

-- 9. DEL and BS, ESC, HT, CR and LF, CSI Z (the back tab), CSI 200 ~ and CSI 201 ~ around a paste, and CSI with nothing behind it
abbrev pub single_keys : List (Entry KeyEvent)
single_keys =
    entry (127 ∷ []) Backspace 0
    ∷ entry (8 ∷ []) Backspace 0
    ∷ entry (27 ∷ []) Escape 0
    ∷ entry (9 ∷ []) Tab 0
    ∷ entry (13 ∷ []) Enter 0
    ∷ entry (10 ∷ []) Enter 0
    ∷ entry (csi (90 ∷ [])) Tab 1
    ∷ entry (csi (50 ∷ 48 ∷ 48 ∷ 126 ∷ [])) InternalPasteStart 0
    ∷ entry (csi (50 ∷ 48 ∷ 49 ∷ 126 ∷ [])) InternalPasteEnd 0
    ∷ entry (csi []) (Char 91) 2 ∷ []

-- the keys of a rule, in order
unfoldable pub entries_of : Rule → List (Entry KeyEvent)
entries_of Letters = each (range_with_len 1 26) letter_row
entries_of CsiU = each (range_with_len 0 128) csi_u_row
entries_of OtherKeys = each (range_with_len 0 128) other_key_row
entries_of Cursor = each cursor_keys cursor_row
entries_of RxvtArrows = each rxvt_keys rxvt_row
entries_of ApplicationArrows = each application_keys application_row
entries_of Functions = each (range_with_len 1 20) function_row
entries_of Editing = each editing_digits editing_row
entries_of Single = single_keys

-- the rules, in the order of filling
unfoldable pub rules : List Rule
rules = Letters ∷ CsiU ∷ OtherKeys ∷ Cursor ∷ RxvtArrows ∷ ApplicationArrows ∷ Functions ∷ Editing ∷ Single ∷ []

-- the table: later entries replace earlier ones
abbrev pub table : List (Entry KeyEvent)
table = each rules entries_of

-- the bytes of the longest key
abbrev pub longest_key : ℕ
longest_key = 11

-- whether a key is empty or longer than that
abbrev pub beyond : List ℕ → Bool
beyond k = not (within 1 longest_key (length k))
