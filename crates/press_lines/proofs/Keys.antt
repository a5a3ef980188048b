-- Each key is found by its name, and has its number back. Assumes nothing.
use Rattle.std.proofs.Common.{◌≡◌, Some, refl, ap}
use Rattle.std.specs.Option.{option_map}
use Rattle.keycode.specs.Names.{keys, names, name_of}
use Rattle.keycode.specs.declared.key.KeyCode.{KeyCode}
use Rattle.keycode.specs.declared.key.KeyCode.TheVariants.{Char, Hyper, Super, Meta, Cancel, Backspace, Tab, Clear, Enter, Shift, Escape, LeftShift, RightShift, Control, LeftControl, RightControl, Alt, LeftAlt, RightAlt, Menu, LeftMenu, RightMenu, Pause, CapsLock, PageUp, PageDown, End, Home, LeftArrow, RightArrow, UpArrow, DownArrow, Select, Print, Execute, PrintScreen, Insert, Delete, Help, LeftWindows, RightWindows, Applications, Sleep, Numpad0, Numpad1, Numpad2, Numpad3, Numpad4, Numpad5, Numpad6, Numpad7, Numpad8, Numpad9, Multiply, Add, Separator, Subtract, Decimal, Divide, Function, NumLock, ScrollLock, Copy, Cut, Paste, BrowserBack, BrowserForward, BrowserRefresh, BrowserStop, BrowserSearch, BrowserFavorites, BrowserHome, VolumeMute, VolumeDown, VolumeUp, MediaNextTrack, MediaPrevTrack, MediaStop, MediaPlayPause, ApplicationLeftArrow, ApplicationRightArrow, ApplicationUpArrow, ApplicationDownArrow, KeyPadHome, KeyPadEnd, KeyPadPageUp, KeyPadPageDown, KeyPadBegin, InternalPasteStart, InternalPasteEnd}
use Rattle.keymap.specs.Stored.{value_of}
use Rattle.lines.specs.Requests.{numbered}
use Rattle.linewriter.specs.KeyNumbers.{number_of, Sized}
use Rattle.linewriter.specs.Lines.{number_text}
use Rattle.words.specs.Words.{named, key_words}
use Rattle.press_lines.proofs.Numbers.{hex_back, dec_back}

pub key_back : (key : KeyCode) → Sized (number_of key) → numbered (value_of key_words (name_of key)) (number_text (number_of key)) ≡ Some key
unfolding value_of named keys names
key_back (Char c) h = ap (option_map Char) (hex_back c h)
key_back Hyper h = refl
key_back Super h = refl
key_back Meta h = refl
key_back Cancel h = refl
key_back Backspace h = refl
key_back Tab h = refl
key_back Clear h = refl
key_back Enter h = refl
key_back Shift h = refl
key_back Escape h = refl
key_back LeftShift h = refl
key_back RightShift h = refl
key_back Control h = refl
key_back LeftControl h = refl
key_back RightControl h = refl
key_back Alt h = refl
key_back LeftAlt h = refl
key_back RightAlt h = refl
key_back Menu h = refl
key_back LeftMenu h = refl
key_back RightMenu h = refl
key_back Pause h = refl
key_back CapsLock h = refl
key_back PageUp h = refl
key_back PageDown h = refl
key_back End h = refl
key_back Home h = refl
key_back LeftArrow h = refl
key_back RightArrow h = refl
key_back UpArrow h = refl
key_back DownArrow h = refl
key_back Select h = refl
key_back Print h = refl
key_back Execute h = refl
key_back PrintScreen h = refl
key_back Insert h = refl
key_back Delete h = refl
key_back Help h = refl
key_back LeftWindows h = refl
key_back RightWindows h = refl
key_back Applications h = refl
key_back Sleep h = refl
key_back Numpad0 h = refl
key_back Numpad1 h = refl
key_back Numpad2 h = refl
key_back Numpad3 h = refl
key_back Numpad4 h = refl
key_back Numpad5 h = refl
key_back Numpad6 h = refl
key_back Numpad7 h = refl
key_back Numpad8 h = refl
key_back Numpad9 h = refl
key_back Multiply h = refl
key_back Add h = refl
key_back Separator h = refl
key_back Subtract h = refl
key_back Decimal h = refl
key_back Divide h = refl
key_back (Function n) h = ap (option_map Function) (dec_back n h)
key_back NumLock h = refl
key_back ScrollLock h = refl
key_back Copy h = refl
key_back Cut h = refl
key_back Paste h = refl
key_back BrowserBack h = refl
key_back BrowserForward h = refl
key_back BrowserRefresh h = refl
key_back BrowserStop h = refl
key_back BrowserSearch h = refl
key_back BrowserFavorites h = refl
key_back BrowserHome h = refl
key_back VolumeMute h = refl
key_back VolumeDown h = refl
key_back VolumeUp h = refl
key_back MediaNextTrack h = refl
key_back MediaPrevTrack h = refl
key_back MediaStop h = refl
key_back MediaPlayPause h = refl
key_back ApplicationLeftArrow h = refl
key_back ApplicationRightArrow h = refl
key_back ApplicationUpArrow h = refl
key_back ApplicationDownArrow h = refl
key_back KeyPadHome h = refl
key_back KeyPadEnd h = refl
key_back KeyPadPageUp h = refl
key_back KeyPadPageDown h = refl
key_back KeyPadBegin h = refl
key_back InternalPasteStart h = refl
key_back InternalPasteEnd h = refl
