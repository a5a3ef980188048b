-- The number that a key holds. Assumes nothing.
use Rattle.std.specs.Prelude.{◌^◌, ◌<◌}
use Rattle.keycode.specs.declared.key.KeyCode.{KeyCode}
use Rattle.keycode.specs.declared.key.KeyCode.TheVariants.{Char, Hyper, Super, Meta, Cancel, Backspace, Tab, Clear, Enter, Shift, Escape, LeftShift, RightShift, Control, LeftControl, RightControl, Alt, LeftAlt, RightAlt, Menu, LeftMenu, RightMenu, Pause, CapsLock, PageUp, PageDown, End, Home, LeftArrow, RightArrow, UpArrow, DownArrow, Select, Print, Execute, PrintScreen, Insert, Delete, Help, LeftWindows, RightWindows, Applications, Sleep, Numpad0, Numpad1, Numpad2, Numpad3, Numpad4, Numpad5, Numpad6, Numpad7, Numpad8, Numpad9, Multiply, Add, Separator, Subtract, Decimal, Divide, Function, NumLock, ScrollLock, Copy, Cut, Paste, BrowserBack, BrowserForward, BrowserRefresh, BrowserStop, BrowserSearch, BrowserFavorites, BrowserHome, VolumeMute, VolumeDown, VolumeUp, MediaNextTrack, MediaPrevTrack, MediaStop, MediaPlayPause, ApplicationLeftArrow, ApplicationRightArrow, ApplicationUpArrow, ApplicationDownArrow, KeyPadHome, KeyPadEnd, KeyPadPageUp, KeyPadPageDown, KeyPadBegin, InternalPasteStart, InternalPasteEnd}
use Rattle.linewriter.specs.declared.number.Number.{Number}
use Rattle.linewriter.specs.declared.number.Number.TheVariants.{Character, OnKey, Absent}

-- a character's number, the number on a function key, or none
abbrev pub number_of : KeyCode → Number
number_of (Char c) = Character c
number_of Hyper = Absent
number_of Super = Absent
number_of Meta = Absent
number_of Cancel = Absent
number_of Backspace = Absent
number_of Tab = Absent
number_of Clear = Absent
number_of Enter = Absent
number_of Shift = Absent
number_of Escape = Absent
number_of LeftShift = Absent
number_of RightShift = Absent
number_of Control = Absent
number_of LeftControl = Absent
number_of RightControl = Absent
number_of Alt = Absent
number_of LeftAlt = Absent
number_of RightAlt = Absent
number_of Menu = Absent
number_of LeftMenu = Absent
number_of RightMenu = Absent
number_of Pause = Absent
number_of CapsLock = Absent
number_of PageUp = Absent
number_of PageDown = Absent
number_of End = Absent
number_of Home = Absent
number_of LeftArrow = Absent
number_of RightArrow = Absent
number_of UpArrow = Absent
number_of DownArrow = Absent
number_of Select = Absent
number_of Print = Absent
number_of Execute = Absent
number_of PrintScreen = Absent
number_of Insert = Absent
number_of Delete = Absent
number_of Help = Absent
number_of LeftWindows = Absent
number_of RightWindows = Absent
number_of Applications = Absent
number_of Sleep = Absent
number_of Numpad0 = Absent
number_of Numpad1 = Absent
number_of Numpad2 = Absent
number_of Numpad3 = Absent
number_of Numpad4 = Absent
number_of Numpad5 = Absent
number_of Numpad6 = Absent
number_of Numpad7 = Absent
number_of Numpad8 = Absent
number_of Numpad9 = Absent
number_of Multiply = Absent
number_of Add = Absent
number_of Separator = Absent
number_of Subtract = Absent
number_of Decimal = Absent
number_of Divide = Absent
number_of (Function n) = OnKey n
number_of NumLock = Absent
number_of ScrollLock = Absent
number_of Copy = Absent
number_of Cut = Absent
number_of Paste = Absent
number_of BrowserBack = Absent
number_of BrowserForward = Absent
number_of BrowserRefresh = Absent
number_of BrowserStop = Absent
number_of BrowserSearch = Absent
number_of BrowserFavorites = Absent
number_of BrowserHome = Absent
number_of VolumeMute = Absent
number_of VolumeDown = Absent
number_of VolumeUp = Absent
number_of MediaNextTrack = Absent
number_of MediaPrevTrack = Absent
number_of MediaStop = Absent
number_of MediaPlayPause = Absent
number_of ApplicationLeftArrow = Absent
number_of ApplicationRightArrow = Absent
number_of ApplicationUpArrow = Absent
number_of ApplicationDownArrow = Absent
number_of KeyPadHome = Absent
number_of KeyPadEnd = Absent
number_of KeyPadPageUp = Absent
number_of KeyPadPageDown = Absent
number_of KeyPadBegin = Absent
number_of InternalPasteStart = Absent
number_of InternalPasteEnd = Absent

-- a character's number has 32 bits, that of a function key 8
abbrev pub Sized : Number → Type 0
Sized (Character c) = c < 2 ^ 32
Sized (OnKey n) = n < 2 ^ 8
Sized Absent = Unit {0}
