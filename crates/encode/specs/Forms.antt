-- Which key is sent in which form. XTerm Control Sequences, "PC-Style Function Keys" and "VT220-Style Function Keys":
-- a cursor key has a final letter, an editing key a number before `~`. The keypad's keys send what the cursor and editing
-- keys printed on them send. Assumes nothing.
use Rattle.std.specs.Prelude.{ℕ, cond, ◌==◌}
use Rattle.keycode.specs.declared.key.KeyCode.{KeyCode}
use Rattle.keycode.specs.declared.key.KeyCode.TheVariants.{Char, Hyper, Super, Meta, Cancel, Backspace, Tab, Clear, Enter, Shift, Escape, LeftShift, RightShift, Control, LeftControl, RightControl, Alt, LeftAlt, RightAlt, Menu, LeftMenu, RightMenu, Pause, CapsLock, PageUp, PageDown, End, Home, LeftArrow, RightArrow, UpArrow, DownArrow, Select, Print, Execute, PrintScreen, Insert, Delete, Help, LeftWindows, RightWindows, Applications, Sleep, Numpad0, Numpad1, Numpad2, Numpad3, Numpad4, Numpad5, Numpad6, Numpad7, Numpad8, Numpad9, Multiply, Add, Separator, Subtract, Decimal, Divide, Function, NumLock, ScrollLock, Copy, Cut, Paste, BrowserBack, BrowserForward, BrowserRefresh, BrowserStop, BrowserSearch, BrowserFavorites, BrowserHome, VolumeMute, VolumeDown, VolumeUp, MediaNextTrack, MediaPrevTrack, MediaStop, MediaPlayPause, ApplicationLeftArrow, ApplicationRightArrow, ApplicationUpArrow, ApplicationDownArrow, KeyPadHome, KeyPadEnd, KeyPadPageUp, KeyPadPageDown, KeyPadBegin, InternalPasteStart, InternalPasteEnd}
use Rattle.encode.specs.declared.form.Form.{Form}
use Rattle.encode.specs.declared.form.Form.TheVariants.{Typed, Cursor, Application, Keypad, Edit, Numbered, KeyBackspace, KeyEnter, KeyEscape, KeyTab, Silent}

-- the character 7F is the key Delete, the character 08 the key Backspace
abbrev pub char_form : ℕ → Form
char_form c = cond (c == 127) (Edit 3) (cond (c == 8) KeyBackspace (Typed c))

abbrev pub form_of : KeyCode → Form
form_of (Char c) = char_form c
form_of Hyper = Silent
form_of Super = Silent
form_of Meta = Silent
form_of Cancel = Silent
form_of Backspace = KeyBackspace
form_of Tab = KeyTab
form_of Clear = Silent
form_of Enter = KeyEnter
form_of Shift = Silent
form_of Escape = KeyEscape
form_of LeftShift = Silent
form_of RightShift = Silent
form_of Control = Silent
form_of LeftControl = Silent
form_of RightControl = Silent
form_of Alt = Silent
form_of LeftAlt = Silent
form_of RightAlt = Silent
form_of Menu = Silent
form_of LeftMenu = Silent
form_of RightMenu = Silent
form_of Pause = Silent
form_of CapsLock = Silent
form_of PageUp = Edit 5
form_of PageDown = Edit 6
form_of End = Cursor 70
form_of Home = Cursor 72
form_of LeftArrow = Cursor 68
form_of RightArrow = Cursor 67
form_of UpArrow = Cursor 65
form_of DownArrow = Cursor 66
form_of Select = Silent
form_of Print = Silent
form_of Execute = Silent
form_of PrintScreen = Silent
form_of Insert = Edit 2
form_of Delete = Edit 3
form_of Help = Silent
form_of LeftWindows = Silent
form_of RightWindows = Silent
form_of Applications = Silent
form_of Sleep = Silent
form_of Numpad0 = Edit 2
form_of Numpad1 = Keypad 70
form_of Numpad2 = Keypad 66
form_of Numpad3 = Edit 6
form_of Numpad4 = Keypad 68
form_of Numpad5 = Keypad 69
form_of Numpad6 = Keypad 67
form_of Numpad7 = Keypad 72
form_of Numpad8 = Keypad 65
form_of Numpad9 = Edit 5
form_of Multiply = Silent
form_of Add = Silent
form_of Separator = Silent
form_of Subtract = Silent
form_of Decimal = Edit 3
form_of Divide = Silent
form_of (Function n) = Numbered n
form_of NumLock = Silent
form_of ScrollLock = Silent
form_of Copy = Silent
form_of Cut = Silent
form_of Paste = Silent
form_of BrowserBack = Silent
form_of BrowserForward = Silent
form_of BrowserRefresh = Silent
form_of BrowserStop = Silent
form_of BrowserSearch = Silent
form_of BrowserFavorites = Silent
form_of BrowserHome = Silent
form_of VolumeMute = Silent
form_of VolumeDown = Silent
form_of VolumeUp = Silent
form_of MediaNextTrack = Silent
form_of MediaPrevTrack = Silent
form_of MediaStop = Silent
form_of MediaPlayPause = Silent
form_of ApplicationLeftArrow = Application 68
form_of ApplicationRightArrow = Application 67
form_of ApplicationUpArrow = Application 65
form_of ApplicationDownArrow = Application 66
form_of KeyPadHome = Cursor 72
form_of KeyPadEnd = Cursor 70
form_of KeyPadPageUp = Edit 5
form_of KeyPadPageDown = Edit 6
form_of KeyPadBegin = Keypad 69
form_of InternalPasteStart = Silent
form_of InternalPasteEnd = Silent
