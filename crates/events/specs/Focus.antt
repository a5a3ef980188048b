-- The report of focus: XTerm Control Sequences, "FocusIn/FocusOut": ESC [ I as the focus comes, ESC [ O as it goes.
-- Assumes nothing.
use Rattle.std.specs.Prelude.{ℕ, cond, List, [], ◌∷◌, ◌==◌}
use Rattle.events.specs.declared.event.Report.{Report}
use Rattle.events.specs.declared.event.Seen.{Seen}
use Rattle.events.specs.declared.event.Seen.TheVariants.{NoReport, More, Found}

-- kind 1, and 1 where the focus came, 0 where it went
abbrev pub focus_report : ℕ → Report
focus_report came = record { kind = 1; first = came; second = 0 }

-- behind ESC [
abbrev pub behind_bracket : List ℕ → Seen
behind_bracket [] = More
behind_bracket (b ∷ bs) = cond (b == 73) (Found 3 (focus_report 1)) (cond (b == 79) (Found 3 (focus_report 0)) NoReport)

-- behind ESC
abbrev pub behind_esc : List ℕ → Seen
behind_esc [] = More
behind_esc (b ∷ bs) = cond (b == 91) (behind_bracket bs) NoReport

abbrev pub focus : List ℕ → Seen
focus [] = NoReport
focus (b ∷ bs) = cond (b == 27) (behind_esc bs) NoReport
