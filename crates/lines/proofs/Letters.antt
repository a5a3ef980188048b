-- The texts of the sets of modifiers differ, so that each set is read from its own. Assumes nothing.
use Rattle.std.proofs.Common.{◌≡◌, ℕ, ◌<◌, List, [], map, get_or, Some, None, Option, sym, refl, ap, ◌∙◌, zero-add}
use Rattle.std.proofs.lemmas.List.FromFn.{get_or-map-range_with_len}
use Rattle.std.specs.List.{range_with_len}
use Rattle.keycode.specs.Names.{place_from}
use Rattle.keycode.specs.declared.modifiers.Modifiers.{Modifiers}
use Rattle.lines.specs.Mods.{mods_text, mods_texts, set_of}

pub text_at : (m : ℕ) → m < 16 → get_or mods_texts m [] ≡ mods_text m
unfolding mods_texts
text_at m lt = get_or-map-range_with_len mods_text 0 16 m m [] lt (zero-add m)

abbrev set : ℕ → Option Modifiers
set m = Some (record { 0 = m })

all_read_back : map (λ m. set_of (mods_text m)) (range_with_len 0 16) ≡ map set (range_with_len 0 16)
unfolding mods_texts place_from
all_read_back = refl

pub read_back : (m : ℕ) → m < 16 → set_of (mods_text m) ≡ Some (record { 0 = m })
read_back m lt =
    sym (get_or-map-range_with_len (λ k. set_of (mods_text k)) 0 16 m m None lt (zero-add m))
    ∙ (ap (λ (l : List (Option Modifiers)). get_or l m None) all_read_back ∙ get_or-map-range_with_len set 0 16 m m None lt (zero-add m))
