-- The eleven modifiers. Assumes nothing.
use Rattle.std.specs.Prelude.{◌^◌, List, map}
use Rattle.std.specs.List.{range_with_len}
use Rattle.keycode.specs.declared.modifiers.Modifiers.{Modifiers}

-- SHIFT 1, ALT 2, CTRL 4, SUPER 8, LEFT_ALT 16, RIGHT_ALT 32, LEFT_CTRL 64, RIGHT_CTRL 128, LEFT_SHIFT 256, RIGHT_SHIFT 512,
-- ENHANCED_KEY 1,024: each is a bit of its own
abbrev pub members : List Modifiers
members = map (λ k. record { 0 = 2 ^ k }) (range_with_len 0 11)
