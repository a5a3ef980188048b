-- The plain presses in the table, from what is computed. Assumes nothing.
use Rattle.std.proofs.Common.{◌≡◌, ℕ, ◌+◌, ◌-◌, ◌<◌, ◌≤◌, true, false, ◌&&◌, eqb, ltb, leb, List, [], map, length, get_or, None, sym, refl, ap, ◌∙◌, subst, arith}
use Rattle.std.proofs.lemmas.List.FromFn.{get_or-range_with_len}
use Rattle.std.proofs.lemmas.List.{get_or-map}
use Rattle.std.proofs.lemmas.Bool.{both_ways, and_parts, eqb-true, ltb-true, leb-true}
use Rattle.std.specs.List.{range_with_len}
use Rattle.character.specs.Characters.{within}
use Rattle.encode.specs.Plain.{plain}
use Rattle.keycode.specs.declared.key.KeyCode.{KeyCode}
use Rattle.keycode.specs.declared.key.KeyCode.TheVariants.{Char, Hyper, Super, Meta, Cancel, Backspace, Tab, Clear, Enter, Shift, Escape, LeftShift, RightShift, Control, LeftControl, RightControl, Alt, LeftAlt, RightAlt, Menu, LeftMenu, RightMenu, Pause, CapsLock, PageUp, PageDown, End, Home, LeftArrow, RightArrow, UpArrow, DownArrow, Select, Print, Execute, PrintScreen, Insert, Delete, Help, LeftWindows, RightWindows, Applications, Sleep, Numpad0, Numpad1, Numpad2, Numpad3, Numpad4, Numpad5, Numpad6, Numpad7, Numpad8, Numpad9, Multiply, Add, Separator, Subtract, Decimal, Divide, Function, NumLock, ScrollLock, Copy, Cut, Paste, BrowserBack, BrowserForward, BrowserRefresh, BrowserStop, BrowserSearch, BrowserFavorites, BrowserHome, VolumeMute, VolumeDown, VolumeUp, MediaNextTrack, MediaPrevTrack, MediaStop, MediaPlayPause, ApplicationLeftArrow, ApplicationRightArrow, ApplicationUpArrow, ApplicationDownArrow, KeyPadHome, KeyPadEnd, KeyPadPageUp, KeyPadPageDown, KeyPadBegin, InternalPasteStart, InternalPasteEnd}
use Rattle.basic.proofs.Computed.{under, wanted, keyed, Computed, computed}
use Rattle.basic.specs.Facts.{typed}

-- two functions that give the same list over numbers give the same at each of them
pub same_at : {X : Type 0} (f g : ℕ → X) (a n : ℕ) → length (range_with_len a n) ≡ n → map f (range_with_len a n) ≡ map g (range_with_len a n) → (m : ℕ) → a ≤ m → m < a + n → f m ≡ g m
same_at {X} f g a n count same m lo hi = sym (at f) ∙ (ap (λ (l : List X). get_or l (m - a) (f m)) same ∙ at g)
  where
    at : (h : ℕ → X) → get_or (map h (range_with_len a n)) (m - a) (f m) ≡ h m
    at h = get_or-map h (range_with_len a n) (m - a) 0 (f m) (omega (arith, count)) ∙ ap h (get_or-range_with_len a n (m - a) 0 (omega arith) ∙ omega arith)

-- the row of one key under the sets of SHIFT, ALT and CTRL
everywhere : (i : ℕ) → get_or (keyed under).everywhere i [] ≡ get_or (keyed wanted).everywhere i []
everywhere i = ap (λ (c : Computed). get_or c.presses.everywhere i []) computed

no : {X : Type 0} → false ≡ true → X
no e = absurd (both_ways false refl e)

module _ (m : ℕ) where
  under_all : (key : KeyCode) → map (under key) (range_with_len 0 8) ≡ map (wanted key) (range_with_len 0 8) → ltb m 8 ≡ true → under key m ≡ wanted key m
  under_all key same h = same_at (under key) (wanted key) 0 8 refl same m (omega arith) (ltb-true m 8 h)

  function : (n : ℕ) → (within 1 20 n && ltb m 8) ≡ true → under (Function n) m ≡ wanted (Function n) m
  function n h =
      let p = and_parts (within 1 20 n) (ltb m 8) h in
      let q = and_parts (leb 1 n) (leb n 20) p.0 in
      under_all (Function n) (same_at (λ n. map (under (Function n)) (range_with_len 0 8)) (λ n. map (wanted (Function n)) (range_with_len 0 8)) 1 20 refl (ap (λ (c : Computed). c.presses.functions) computed) n (leb-true 1 n q.0) (let le = leb-true n 20 q.1 in omega arith)) p.1

  single : (key : KeyCode) → under key 0 ≡ wanted key 0 → eqb m 0 ≡ true → under key m ≡ wanted key m
  single key same h = subst (λ (i : ℕ). under key i ≡ wanted key i) (sym (eqb-true m 0 h)) same

  back_tab : ltb m 2 ≡ true → under Tab m ≡ wanted Tab m
  back_tab h = same_at (under Tab) (wanted Tab) 0 2 refl (ap (λ (c : Computed). c.presses.tabs) computed) m (omega arith) (ltb-true m 2 h)

  alone : (i : ℕ) → get_or (keyed under).alone i None ≡ get_or (keyed wanted).alone i None
  alone i = ap (λ (c : Computed). get_or c.presses.alone i None) computed

  -- every plain press but that of a character stands under its bytes
  pub stands : (key : KeyCode) → plain key m ≡ true → typed key ≡ false → under key m ≡ wanted key m
  stands (Char c) h t = no (sym t)
  stands Hyper h t = no h
  stands Super h t = no h
  stands Meta h t = no h
  stands Cancel h t = no h
  stands Backspace h t = single Backspace (alone 1) h
  stands Tab h t = back_tab h
  stands Clear h t = no h
  stands Enter h t = single Enter (alone 0) h
  stands Shift h t = no h
  stands Escape h t = no h
  stands LeftShift h t = no h
  stands RightShift h t = no h
  stands Control h t = no h
  stands LeftControl h t = no h
  stands RightControl h t = no h
  stands Alt h t = no h
  stands LeftAlt h t = no h
  stands RightAlt h t = no h
  stands Menu h t = no h
  stands LeftMenu h t = no h
  stands RightMenu h t = no h
  stands Pause h t = no h
  stands CapsLock h t = no h
  stands PageUp h t = single PageUp (alone 4) h
  stands PageDown h t = single PageDown (alone 5) h
  stands End h t = under_all End (everywhere 5) h
  stands Home h t = under_all Home (everywhere 4) h
  stands LeftArrow h t = under_all LeftArrow (everywhere 3) h
  stands RightArrow h t = under_all RightArrow (everywhere 2) h
  stands UpArrow h t = under_all UpArrow (everywhere 0) h
  stands DownArrow h t = under_all DownArrow (everywhere 1) h
  stands Select h t = no h
  stands Print h t = no h
  stands Execute h t = no h
  stands PrintScreen h t = no h
  stands Insert h t = single Insert (alone 2) h
  stands Delete h t = single Delete (alone 3) h
  stands Help h t = no h
  stands LeftWindows h t = no h
  stands RightWindows h t = no h
  stands Applications h t = no h
  stands Sleep h t = no h
  stands Numpad0 h t = no h
  stands Numpad1 h t = no h
  stands Numpad2 h t = no h
  stands Numpad3 h t = no h
  stands Numpad4 h t = no h
  stands Numpad5 h t = no h
  stands Numpad6 h t = no h
  stands Numpad7 h t = no h
  stands Numpad8 h t = no h
  stands Numpad9 h t = no h
  stands Multiply h t = no h
  stands Add h t = no h
  stands Separator h t = no h
  stands Subtract h t = no h
  stands Decimal h t = no h
  stands Divide h t = no h
  stands (Function n) h t = function n h
  stands NumLock h t = no h
  stands ScrollLock h t = no h
  stands Copy h t = no h
  stands Cut h t = no h
  stands Paste h t = no h
  stands BrowserBack h t = no h
  stands BrowserForward h t = no h
  stands BrowserRefresh h t = no h
  stands BrowserStop h t = no h
  stands BrowserSearch h t = no h
  stands BrowserFavorites h t = no h
  stands BrowserHome h t = no h
  stands VolumeMute h t = no h
  stands VolumeDown h t = no h
  stands VolumeUp h t = no h
  stands MediaNextTrack h t = no h
  stands MediaPrevTrack h t = no h
  stands MediaStop h t = no h
  stands MediaPlayPause h t = no h
  stands ApplicationLeftArrow h t = no h
  stands ApplicationRightArrow h t = no h
  stands ApplicationUpArrow h t = no h
  stands ApplicationDownArrow h t = no h
  stands KeyPadHome h t = no h
  stands KeyPadEnd h t = no h
  stands KeyPadPageUp h t = no h
  stands KeyPadPageDown h t = no h
  stands KeyPadBegin h t = no h
  stands InternalPasteStart h t = no h
  stands InternalPasteEnd h t = no h
