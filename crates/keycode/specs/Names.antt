-- The keys in their order, and their names. Assumes nothing.
use Rattle.std.specs.Prelude.{ℕ, ◌+◌, cond, List, [], ◌∷◌, Some, None, codes, Option, nat_lt, slice_index_or}
use Rattle.std.specs.Str.{bytes_eq}
use Rattle.keycode.specs.declared.key.KeyCode.{KeyCode}
use Rattle.keycode.specs.declared.key.KeyCode.TheVariants.{Char, Hyper, Super, Meta, Cancel, Backspace, Tab, Clear, Enter, Shift, Escape, LeftShift, RightShift, Control, LeftControl, RightControl, Alt, LeftAlt, RightAlt, Menu, LeftMenu, RightMenu, Pause, CapsLock, PageUp, PageDown, End, Home, LeftArrow, RightArrow, UpArrow, DownArrow, Select, Print, Execute, PrintScreen, Insert, Delete, Help, LeftWindows, RightWindows, Applications, Sleep, Numpad0, Numpad1, Numpad2, Numpad3, Numpad4, Numpad5, Numpad6, Numpad7, Numpad8, Numpad9, Multiply, Add, Separator, Subtract, Decimal, Divide, Function, NumLock, ScrollLock, Copy, Cut, Paste, BrowserBack, BrowserForward, BrowserRefresh, BrowserStop, BrowserSearch, BrowserFavorites, BrowserHome, VolumeMute, VolumeDown, VolumeUp, MediaNextTrack, MediaPrevTrack, MediaStop, MediaPlayPause, ApplicationLeftArrow, ApplicationRightArrow, ApplicationUpArrow, ApplicationDownArrow, KeyPadHome, KeyPadEnd, KeyPadPageUp, KeyPadPageDown, KeyPadBegin, InternalPasteStart, InternalPasteEnd}

-- a key's place in the list of keys, from 0
abbrev pub place : KeyCode → ℕ
place (Char c) = 0
place Hyper = 1
place Super = 2
place Meta = 3
place Cancel = 4
place Backspace = 5
place Tab = 6
place Clear = 7
place Enter = 8
place Shift = 9
place Escape = 10
place LeftShift = 11
place RightShift = 12
place Control = 13
place LeftControl = 14
place RightControl = 15
place Alt = 16
place LeftAlt = 17
place RightAlt = 18
place Menu = 19
place LeftMenu = 20
place RightMenu = 21
place Pause = 22
place CapsLock = 23
place PageUp = 24
place PageDown = 25
place End = 26
place Home = 27
place LeftArrow = 28
place RightArrow = 29
place UpArrow = 30
place DownArrow = 31
place Select = 32
place Print = 33
place Execute = 34
place PrintScreen = 35
place Insert = 36
place Delete = 37
place Help = 38
place LeftWindows = 39
place RightWindows = 40
place Applications = 41
place Sleep = 42
place Numpad0 = 43
place Numpad1 = 44
place Numpad2 = 45
place Numpad3 = 46
place Numpad4 = 47
place Numpad5 = 48
place Numpad6 = 49
place Numpad7 = 50
place Numpad8 = 51
place Numpad9 = 52
place Multiply = 53
place Add = 54
place Separator = 55
place Subtract = 56
place Decimal = 57
place Divide = 58
place (Function n) = 59
place NumLock = 60
place ScrollLock = 61
place Copy = 62
place Cut = 63
place Paste = 64
place BrowserBack = 65
place BrowserForward = 66
place BrowserRefresh = 67
place BrowserStop = 68
place BrowserSearch = 69
place BrowserFavorites = 70
place BrowserHome = 71
place VolumeMute = 72
place VolumeDown = 73
place VolumeUp = 74
place MediaNextTrack = 75
place MediaPrevTrack = 76
place MediaStop = 77
place MediaPlayPause = 78
place ApplicationLeftArrow = 79
place ApplicationRightArrow = 80
place ApplicationUpArrow = 81
place ApplicationDownArrow = 82
place KeyPadHome = 83
place KeyPadEnd = 84
place KeyPadPageUp = 85
place KeyPadPageDown = 86
place KeyPadBegin = 87
place InternalPasteStart = 88
place InternalPasteEnd = 89

-- the keys in the order of their places, with the number 0 where a key holds one
unfoldable pub keys : List KeyCode
keys = (Char 0) ∷ Hyper ∷ Super ∷ Meta ∷ Cancel ∷ Backspace ∷ Tab ∷ Clear ∷ Enter ∷ Shift ∷ Escape ∷ LeftShift ∷ RightShift ∷ Control ∷ LeftControl ∷ RightControl ∷ Alt ∷ LeftAlt ∷ RightAlt ∷ Menu ∷ LeftMenu ∷ RightMenu ∷ Pause ∷ CapsLock ∷ PageUp ∷ PageDown ∷ End ∷ Home ∷ LeftArrow ∷ RightArrow ∷ UpArrow ∷ DownArrow ∷ Select ∷ Print ∷ Execute ∷ PrintScreen ∷ Insert ∷ Delete ∷ Help ∷ LeftWindows ∷ RightWindows ∷ Applications ∷ Sleep ∷ Numpad0 ∷ Numpad1 ∷ Numpad2 ∷ Numpad3 ∷ Numpad4 ∷ Numpad5 ∷ Numpad6 ∷ Numpad7 ∷ Numpad8 ∷ Numpad9 ∷ Multiply ∷ Add ∷ Separator ∷ Subtract ∷ Decimal ∷ Divide ∷ (Function 0) ∷ NumLock ∷ ScrollLock ∷ Copy ∷ Cut ∷ Paste ∷ BrowserBack ∷ BrowserForward ∷ BrowserRefresh ∷ BrowserStop ∷ BrowserSearch ∷ BrowserFavorites ∷ BrowserHome ∷ VolumeMute ∷ VolumeDown ∷ VolumeUp ∷ MediaNextTrack ∷ MediaPrevTrack ∷ MediaStop ∷ MediaPlayPause ∷ ApplicationLeftArrow ∷ ApplicationRightArrow ∷ ApplicationUpArrow ∷ ApplicationDownArrow ∷ KeyPadHome ∷ KeyPadEnd ∷ KeyPadPageUp ∷ KeyPadPageDown ∷ KeyPadBegin ∷ InternalPasteStart ∷ InternalPasteEnd ∷ []

-- their names, in the same order
unfoldable pub names : List (List ℕ)
names = codes "Char" ∷ codes "Hyper" ∷ codes "Super" ∷ codes "Meta" ∷ codes "Cancel" ∷ codes "Backspace" ∷ codes "Tab" ∷ codes "Clear" ∷ codes "Enter" ∷ codes "Shift" ∷ codes "Escape" ∷ codes "LeftShift" ∷ codes "RightShift" ∷ codes "Control" ∷ codes "LeftControl" ∷ codes "RightControl" ∷ codes "Alt" ∷ codes "LeftAlt" ∷ codes "RightAlt" ∷ codes "Menu" ∷ codes "LeftMenu" ∷ codes "RightMenu" ∷ codes "Pause" ∷ codes "CapsLock" ∷ codes "PageUp" ∷ codes "PageDown" ∷ codes "End" ∷ codes "Home" ∷ codes "LeftArrow" ∷ codes "RightArrow" ∷ codes "UpArrow" ∷ codes "DownArrow" ∷ codes "Select" ∷ codes "Print" ∷ codes "Execute" ∷ codes "PrintScreen" ∷ codes "Insert" ∷ codes "Delete" ∷ codes "Help" ∷ codes "LeftWindows" ∷ codes "RightWindows" ∷ codes "Applications" ∷ codes "Sleep" ∷ codes "Numpad0" ∷ codes "Numpad1" ∷ codes "Numpad2" ∷ codes "Numpad3" ∷ codes "Numpad4" ∷ codes "Numpad5" ∷ codes "Numpad6" ∷ codes "Numpad7" ∷ codes "Numpad8" ∷ codes "Numpad9" ∷ codes "Multiply" ∷ codes "Add" ∷ codes "Separator" ∷ codes "Subtract" ∷ codes "Decimal" ∷ codes "Divide" ∷ codes "Function" ∷ codes "NumLock" ∷ codes "ScrollLock" ∷ codes "Copy" ∷ codes "Cut" ∷ codes "Paste" ∷ codes "BrowserBack" ∷ codes "BrowserForward" ∷ codes "BrowserRefresh" ∷ codes "BrowserStop" ∷ codes "BrowserSearch" ∷ codes "BrowserFavorites" ∷ codes "BrowserHome" ∷ codes "VolumeMute" ∷ codes "VolumeDown" ∷ codes "VolumeUp" ∷ codes "MediaNextTrack" ∷ codes "MediaPrevTrack" ∷ codes "MediaStop" ∷ codes "MediaPlayPause" ∷ codes "ApplicationLeftArrow" ∷ codes "ApplicationRightArrow" ∷ codes "ApplicationUpArrow" ∷ codes "ApplicationDownArrow" ∷ codes "KeyPadHome" ∷ codes "KeyPadEnd" ∷ codes "KeyPadPageUp" ∷ codes "KeyPadPageDown" ∷ codes "KeyPadBegin" ∷ codes "InternalPasteStart" ∷ codes "InternalPasteEnd" ∷ []

abbrev pub name_of : KeyCode → List ℕ
name_of key = slice_index_or names (place key) []

abbrev pub key_at : ℕ → Option KeyCode
key_at i = cond (nat_lt i 90) (Some (slice_index_or keys i (Char 0))) None

-- the place of the first name that is the text, where n names stand before these
unfoldable pub place_from : ℕ → List (List ℕ) → List ℕ → Option ℕ
place_from n [] text = None
place_from n (name ∷ more) text = cond (bytes_eq name text) (Some n) (place_from (n + 1) more text)

abbrev pub place_named : List ℕ → Option ℕ
place_named text = place_from 0 names text

abbrev pub key_of : Option ℕ → Option KeyCode
key_of None = None
key_of (Some i) = key_at i

-- the key of a name
abbrev pub key_named : List ℕ → Option KeyCode
key_named text = key_of (place_named text)
