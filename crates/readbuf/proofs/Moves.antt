-- Held bytes that are moved to the front. Assumes nothing.
use Rattle.std.proofs.Common.{◌≡◌, ℕ, ◌+◌, ◌-◌, ◌≤◌, List, length, take, drop, sym, ap, ◌∙◌, arith}
use Rattle.std.proofs.Math.Seq.{paste}
use Rattle.std.proofs.lemmas.List.Edits.{take-paste}
use Rattle.std.proofs.lemmas.List.{length-drop}
use Rattle.std.proofs.lemmas.Slice.{between_is}

pub moved : (bytes after : List ℕ) (start end : ℕ) → start ≤ end → end ≤ length bytes → after ≡ paste bytes 0 (drop start bytes) (end - start) → drop 0 (take (end - start) after) ≡ drop start (take end bytes)
moved bytes after start end h k e =
    let z : 0 + (end - start) ≡ end - start = omega arith in
    ap (take (end - start)) e
    ∙ (ap (λ (n : ℕ). take n (paste bytes 0 (drop start bytes) (end - start))) (sym z)
    ∙ (take-paste bytes 0 (drop start bytes) (end - start) (omega arith) (simp length-drop (omega arith)) ∙ between_is bytes start end))
