use Rattle.std.proofs.Common.{ℕ, ◌+◌, sym, ap, ◌∙◌}
use Rattle.text.specs.declared.kinds.Character.TheVariants.{Scalar}
use Rattle.text.specs.Rows.{ranges}
use Rattle.text.proofs.Decoded.{exactly}
use Rattle.text.proofs.Encoded.{read_back}
use Rattle.text.proofs.Fitting.{ranges_count}
use Rattle.text.proofs.Readings.{reading_empty, reading_of_none, reading_whole, reading_partial, reading_ill_formed, counted, stays}
use Rattle.text.proofs.utf8.character.Goals as goal

pub returns-then-is_empty : goal.returns-then-is_empty
returns-then-is_empty c =
    let bytes = c.args.bytes.now in
    let v = reading_empty bytes c.if-is_empty.ensures in
    record { value = v; count = counted bytes _ v; bytes = exactly bytes _ v; stays = stays bytes _ v; back = read_back }

pub returns-in_default : goal.returns-in_default
returns-in_default c =
    let bytes = c.args.bytes.now in
    let v = reading_of_none bytes c.if-is_empty.ensures c.in_default.ensures in
    record { value = v; count = counted bytes _ v; bytes = exactly bytes _ v; stays = stays bytes _ v; back = read_back }

pub returns-then-more-row : goal.returns-then-more-row
returns-then-more-row c =
    let bytes = c.args.bytes.now in
    let row = c.in-Some.row in
    let n = c.fitting-more.result in
    let w = reading_whole bytes (ranges row) n c.if-is_empty.ensures c.in-Some.ensures c.fitting-more.ensures.value (c.if-more-row.true ∙ sym (ranges_count row.more _)) in
    let v = ap (λ (x : ℕ). Scalar x (n + 1)) c.scalar_of.ensures ∙ w in
    record { value = v; count = counted bytes _ v; bytes = exactly bytes _ v; stays = stays bytes _ v; back = read_back }

pub returns-then-len-bytes : goal.returns-then-len-bytes
returns-then-len-bytes c =
    let bytes = c.args.bytes.now in
    let row = c.in-Some.row in
    let v = reading_partial bytes (ranges row) _ c.if-is_empty.ensures c.in-Some.ensures c.fitting-more.ensures.value (λ q. c.if-more-row.false (q ∙ ranges_count row.more _)) c.if-len-bytes.true in
    record { value = v; count = counted bytes _ v; bytes = exactly bytes _ v; stays = stays bytes _ v; back = read_back }

pub returns-else-len-bytes : goal.returns-else-len-bytes
returns-else-len-bytes c =
    let bytes = c.args.bytes.now in
    let row = c.in-Some.row in
    let v = reading_ill_formed bytes (ranges row) _ c.if-is_empty.ensures c.in-Some.ensures c.fitting-more.ensures.value (λ q. c.if-more-row.false (q ∙ ranges_count row.more _)) c.if-len-bytes.false in
    record { value = v; count = counted bytes _ v; bytes = exactly bytes _ v; stays = stays bytes _ v; back = read_back }
