-- Which tables of key events are lawful. Assumes nothing.
use Rattle.std.specs.Prelude.{Bool, false, not, ◌&&◌, ◌||◌, [], ◌∷◌, length, is_some, Some, None, Option, ◌==◌, nat_lt}
use Rattle.keycode.specs.Names.{place}
use Rattle.keycode.specs.declared.key.KeyCode.TheVariants.{Escape}
use Rattle.keycode.specs.declared.key.KeyEvent.{KeyEvent}
use Rattle.keymap.specs.Stored.{Stored, value_of, some_key, begins_with}

-- whether a press is plain Escape
abbrev pub is_plain_escape : KeyEvent → Bool
is_plain_escape e = place e.key == place Escape && e.modifiers.0 == 0

abbrev pub plain_escape : Option KeyEvent → Bool
plain_escape None = false
plain_escape (Some e) = is_plain_escape e

-- whether a longer key starts with ESC
abbrev pub longer_escape : Stored KeyEvent → Bool
longer_escape s = some_key (λ k. begins_with (27 ∷ []) k && nat_lt 1 (length k)) s

-- a table of key events is lawful: it has no empty key and, where ESC alone is plain Escape, a longer key starts with ESC
abbrev pub lawful : Stored KeyEvent → Bool
lawful s = not (is_some (value_of s [])) && (not (plain_escape (value_of s (27 ∷ []))) || longer_escape s)
