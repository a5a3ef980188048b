use Rattle.std.proofs.Common.{ℕ, ◌-◌, ◌≤◌, List, ◌++◌, length, take, drop, ap, ◌∙◌, arith, length-take}
use Rattle.press_lines.proofs.Back.{line_length, made_is, request_back}
use Rattle.press_lines.proofs.press_line.Goals as goal

pub overflow_sub-line : goal.overflow_sub-line
overflow_sub-line c = omega (arith, line_length c.args.event, ap length (c.as_slice-line.ensures.value ∙ c.key_line-whole.ensures.value))

pub slice_bounds-extend-count : goal.slice_bounds-extend-count
slice_bounds-extend-count c = omega (arith, line_length c.args.event, ap length (c.as_slice-line.ensures.value ∙ c.key_line-whole.ensures.value))

pub slice_bounds-extend-start : goal.slice_bounds-extend-start
slice_bounds-extend-start c = omega (arith, line_length c.args.event, ap length (c.as_slice-line.ensures.value ∙ c.key_line-whole.ensures.value))

pub extend-requires : goal.extend-requires
extend-requires c = omega (arith, c.written-out.ensures.len, ap length c.as_slice-line.ensures.value, c.key_line-whole.ensures.len, length-take (length c.as_slice-line.result.now - 1 - 3) (drop 3 c.as_slice-line.result.now))

pub returns : goal.returns
returns c =
    let line = c.as_slice-line.result.now in
    let out = c.extend.new.out.items in
    let same = c.as_slice-line.ensures.value ∙ c.key_line-whole.ensures.value in
    let made = c.extend.ensures.bytes ∙ ap (λ (l : List ℕ). l ++ take (length line - 1 - 3) (drop 3 line)) c.written-out.ensures.bytes in
    let is = made_is c.args.event line out same made in
    let short : length out ≤ 41 = omega (arith, length-take (length line - 1 - 3) (drop 3 line), c.extend.ensures.len, c.written-out.ensures.len, ap length c.as_slice-line.ensures.value, c.key_line-whole.ensures.len) in
    record { value = is; len = short; back = request_back c.args.event out c.key_line-whole.ensures.room is (omega (arith, length-take (length line - 1 - 3) (drop 3 line), c.extend.ensures.len, c.written-out.ensures.len, ap length c.as_slice-line.ensures.value, c.key_line-whole.ensures.len)) }
