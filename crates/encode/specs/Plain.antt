-- The plain presses: those that a decoder with the built-in key table is to read back from their bytes, in the modes that a
-- terminal starts in. Assumes nothing.
use Rattle.std.specs.Prelude.{ℕ, Bool, false, not, ◌&&◌, ◌||◌, List, None, ◌==◌, nat_le, nat_lt}
use Rattle.keycode.specs.declared.key.KeyCode.{KeyCode}
use Rattle.keycode.specs.declared.key.KeyCode.TheVariants.{Char, Hyper, Super, Meta, Cancel, Backspace, Tab, Clear, Enter, Shift, Escape, LeftShift, RightShift, Control, LeftControl, RightControl, Alt, LeftAlt, RightAlt, Menu, LeftMenu, RightMenu, Pause, CapsLock, PageUp, PageDown, End, Home, LeftArrow, RightArrow, UpArrow, DownArrow, Select, Print, Execute, PrintScreen, Insert, Delete, Help, LeftWindows, RightWindows, Applications, Sleep, Numpad0, Numpad1, Numpad2, Numpad3, Numpad4, Numpad5, Numpad6, Numpad7, Numpad8, Numpad9, Multiply, Add, Separator, Subtract, Decimal, Divide, Function, NumLock, ScrollLock, Copy, Cut, Paste, BrowserBack, BrowserForward, BrowserRefresh, BrowserStop, BrowserSearch, BrowserFavorites, BrowserHome, VolumeMute, VolumeDown, VolumeUp, MediaNextTrack, MediaPrevTrack, MediaStop, MediaPlayPause, ApplicationLeftArrow, ApplicationRightArrow, ApplicationUpArrow, ApplicationDownArrow, KeyPadHome, KeyPadEnd, KeyPadPageUp, KeyPadPageDown, KeyPadBegin, InternalPasteStart, InternalPasteEnd}
use Rattle.keycode.specs.declared.modes.KeyCodeEncodeModes.{KeyCodeEncodeModes}
use Rattle.keycode.specs.declared.modes.KeyboardEncoding.TheVariants.{Xterm}
use Rattle.character.specs.Characters.{within, scalar, lower}
use Rattle.encode.specs.Pressed.{pressed}
use Rattle.encode.specs.declared.form.Plainness.{Plainness}
use Rattle.encode.specs.declared.form.Plainness.TheVariants.{Character, Key, Everywhere, Shifted, Alone, Never}

-- the modes that a terminal starts in
abbrev pub plain_modes : KeyCodeEncodeModes
plain_modes = record { encoding = Xterm; application_cursor_keys = false; newline_mode = false; modify_other_keys = None }

-- a character without modifiers: 20 to 7E, or a scalar value from 80 on
abbrev pub plain_alone : ℕ → Bool
plain_alone c = within 32 126 c || nat_le 128 c && scalar c

-- a character under ALT: 20 to 7E but for [ and O, which begin sequences behind ESC
abbrev pub plain_alt : ℕ → Bool
plain_alt c = within 32 126 c && not (c == 91 || c == 79)

-- a letter under CTRL: a to z but for h, i, j and m, whose control characters are keys of their own
abbrev pub plain_ctrl : ℕ → Bool
plain_ctrl c = lower c && not (c == 104 || c == 105 || c == 106 || c == 109)

-- a character: alone, with ALT, with CTRL, or with CTRL and ALT
abbrev pub plain_char : ℕ → ℕ → Bool
plain_char c m = m == 0 && plain_alone c || m == 2 && plain_alt c || (m == 4 || m == 6) && plain_ctrl c

-- under which modifiers a key is a plain press: arrows, Home and End under every set of SHIFT, ALT and CTRL; Tab alone and
-- with SHIFT; Enter, Backspace, Insert, Delete, PageUp and PageDown alone
abbrev pub plainness_of : KeyCode → Plainness
plainness_of (Char c) = Character c
plainness_of Hyper = Never
plainness_of Super = Never
plainness_of Meta = Never
plainness_of Cancel = Never
plainness_of Backspace = Alone
plainness_of Tab = Shifted
plainness_of Clear = Never
plainness_of Enter = Alone
plainness_of Shift = Never
plainness_of Escape = Never
plainness_of LeftShift = Never
plainness_of RightShift = Never
plainness_of Control = Never
plainness_of LeftControl = Never
plainness_of RightControl = Never
plainness_of Alt = Never
plainness_of LeftAlt = Never
plainness_of RightAlt = Never
plainness_of Menu = Never
plainness_of LeftMenu = Never
plainness_of RightMenu = Never
plainness_of Pause = Never
plainness_of CapsLock = Never
plainness_of PageUp = Alone
plainness_of PageDown = Alone
plainness_of End = Everywhere
plainness_of Home = Everywhere
plainness_of LeftArrow = Everywhere
plainness_of RightArrow = Everywhere
plainness_of UpArrow = Everywhere
plainness_of DownArrow = Everywhere
plainness_of Select = Never
plainness_of Print = Never
plainness_of Execute = Never
plainness_of PrintScreen = Never
plainness_of Insert = Alone
plainness_of Delete = Alone
plainness_of Help = Never
plainness_of LeftWindows = Never
plainness_of RightWindows = Never
plainness_of Applications = Never
plainness_of Sleep = Never
plainness_of Numpad0 = Never
plainness_of Numpad1 = Never
plainness_of Numpad2 = Never
plainness_of Numpad3 = Never
plainness_of Numpad4 = Never
plainness_of Numpad5 = Never
plainness_of Numpad6 = Never
plainness_of Numpad7 = Never
plainness_of Numpad8 = Never
plainness_of Numpad9 = Never
plainness_of Multiply = Never
plainness_of Add = Never
plainness_of Separator = Never
plainness_of Subtract = Never
plainness_of Decimal = Never
plainness_of Divide = Never
plainness_of (Function n) = Key n
plainness_of NumLock = Never
plainness_of ScrollLock = Never
plainness_of Copy = Never
plainness_of Cut = Never
plainness_of Paste = Never
plainness_of BrowserBack = Never
plainness_of BrowserForward = Never
plainness_of BrowserRefresh = Never
plainness_of BrowserStop = Never
plainness_of BrowserSearch = Never
plainness_of BrowserFavorites = Never
plainness_of BrowserHome = Never
plainness_of VolumeMute = Never
plainness_of VolumeDown = Never
plainness_of VolumeUp = Never
plainness_of MediaNextTrack = Never
plainness_of MediaPrevTrack = Never
plainness_of MediaStop = Never
plainness_of MediaPlayPause = Never
plainness_of ApplicationLeftArrow = Never
plainness_of ApplicationRightArrow = Never
plainness_of ApplicationUpArrow = Never
plainness_of ApplicationDownArrow = Never
plainness_of KeyPadHome = Never
plainness_of KeyPadEnd = Never
plainness_of KeyPadPageUp = Never
plainness_of KeyPadPageDown = Never
plainness_of KeyPadBegin = Never
plainness_of InternalPasteStart = Never
plainness_of InternalPasteEnd = Never

-- Function 1 to 20 are plain under every set of SHIFT, ALT and CTRL
abbrev pub plain_under : Plainness → ℕ → Bool
plain_under (Character c) m = plain_char c m
plain_under (Key n) m = within 1 20 n && nat_lt m 8
plain_under Everywhere m = nat_lt m 8
plain_under Shifted m = nat_lt m 2
plain_under Alone m = m == 0
plain_under Never m = false

-- whether a press is plain
abbrev pub plain : KeyCode → ℕ → Bool
plain key m = plain_under (plainness_of key) m

-- the bytes of a plain press
abbrev pub plain_bytes : KeyCode → ℕ → List ℕ
plain_bytes key m = pressed key m plain_modes
