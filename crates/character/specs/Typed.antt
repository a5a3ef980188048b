-- What is sent for a character. The fixterms page has CSI c ; n u; XTerm Control Sequences, "Alt and Meta Keys" and
-- modifyOtherKeys (XTMODKEYS), have the ESC before a character and CSI 27 ; n ; c ~. Assumes nothing.
use Rattle.std.specs.Prelude.{ℕ, ◌-◌, Bool, true, false, cond, not, ◌&&◌, ◌||◌, List, [], ◌∷◌, ◌++◌, ℤ, pos, negsuc, is_some, Some, None, Option, ◌==◌, nat_lt}
use Rattle.keycode.specs.Modifiers.{shift, alt, ctrl, without}
use Rattle.keycode.specs.declared.modes.KeyCodeEncodeModes.{KeyCodeEncodeModes}
use Rattle.keycode.specs.declared.modes.KeyboardEncoding.{KeyboardEncoding}
use Rattle.keycode.specs.declared.modes.KeyboardEncoding.TheVariants.{Xterm, CsiU, Win32, Kitty}
use Rattle.writer.specs.Numbers.{dec, utf8_of}
use Rattle.character.specs.declared.level.Level.{Level}
use Rattle.character.specs.declared.level.Level.TheVariants.{Off, One, Two, Other}
use Rattle.character.specs.declared.level.Route.{Route}
use Rattle.character.specs.declared.level.Route.TheVariants.{Unicode, Numbered, Traditional}
use Rattle.character.specs.Characters.{lower, upper, graphic, owns_shift, ambiguous, well_known, ctrl_of}
use Rattle.character.specs.Parts.{csi, parameter, escaped}

-- the level of modifyOtherKeys: 0 is off, as absent is
abbrev pub level_of : Option ℤ → Level
level_of None = Off
level_of (Some (pos n)) = cond (n == 0) Off (cond (n == 1) One (cond (n == 2) Two Other))
level_of (Some (negsuc n)) = Other

abbrev pub is_two : Level → Bool
is_two Off = false
is_two One = false
is_two Two = true
is_two Other = false

abbrev pub is_csi_u : KeyboardEncoding → Bool
is_csi_u Xterm = false
is_csi_u CsiU = true
is_csi_u Win32 = false
is_csi_u (Kitty flags) = false

-- how modifyOtherKeys has a character sent: level 1 leaves the well-known keys alone
abbrev pub level_route : Level → ℕ → Route
level_route Off c = Traditional
level_route One c = cond (well_known c) Traditional Numbered
level_route Two c = Numbered
level_route Other c = Numbered

-- how a modified character is sent: CSI u has those of ASCII, modifyOtherKeys the others
abbrev pub route_of : ℕ → KeyCodeEncodeModes → Route
route_of c modes = cond (is_csi_u modes.encoding && nat_lt c 128) Unicode (level_route (level_of modes.modify_other_keys) c)

-- the control character that CTRL makes of a character, if it is held and there is one
abbrev pub control_of : ℕ → ℕ → Option ℕ
control_of c m = cond (ctrl m) (ctrl_of c) None

abbrev pub control_or : Option ℕ → List ℕ → List ℕ
control_or None text = text
control_or (Some k) text = k ∷ []

-- a character as terminals have always sent it: ESC for ALT, then its control character under CTRL, else its UTF-8
unfoldable pub traditionally : ℕ → ℕ → List ℕ
traditionally c m = escaped m ++ control_or (control_of c m) (utf8_of c)

abbrev pub by_route : Route → ℕ → ℕ → List ℕ
by_route Unicode c m = csi (dec c ++ (59 ∷ (parameter m ++ (117 ∷ []))))
by_route Numbered c m = csi (50 ∷ 55 ∷ 59 ∷ (parameter m ++ (59 ∷ (dec c ++ (126 ∷ [])))))
by_route Traditional c m = traditionally c m

-- a modified character: CSI c ; n u, or CSI 27 ; n ; c ~, or as always
unfoldable pub other_key : ℕ → ℕ → KeyCodeEncodeModes → List ℕ
other_key c m modes = by_route (route_of c modes) c m

-- whether CTRL with this character is sent as a modified character though there is a control character for it: an
-- ambiguous one in CSI u, an uppercase letter, and any at level 2
abbrev pub claimed : ℕ → KeyCodeEncodeModes → Bool
claimed c modes = is_csi_u modes.encoding && ambiguous c || upper c || is_two (level_of modes.modify_other_keys)

-- whether a press keeps the form that terminals have always sent: no modifier, CTRL with a control character, ALT with a
-- graphic character
abbrev pub keeps : ℕ → ℕ → KeyCodeEncodeModes → Bool
keeps c m modes = not (ctrl m && claimed c modes) && (m == 0 || ctrl m && is_some (ctrl_of c) || alt m && graphic c)

-- SHIFT makes an uppercase letter of a lowercase one
abbrev pub shifted : ℕ → ℕ → ℕ
shifted c m = cond (shift m && lower c) (c - 32) c

-- SHIFT is dropped where the character shows it
abbrev pub unshown : ℕ → ℕ → ℕ
unshown c m = cond (shift m && owns_shift c) (without m 1) m

abbrev pub shown_as : ℕ → ℕ → KeyCodeEncodeModes → List ℕ
shown_as c m modes = cond (keeps c m modes) (traditionally c m) (other_key c m modes)

-- a character under its modifiers
unfoldable pub typed : ℕ → ℕ → KeyCodeEncodeModes → List ℕ
typed c m modes = shown_as (shifted c m) (unshown (shifted c m) m) modes
