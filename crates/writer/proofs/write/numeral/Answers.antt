use Rattle.std.proofs.Common.{◌≡◌, ℕ, ◌%◌, ◌/◌, ◌++◌, List, [], ◌∷◌, length, take, drop, reverse, sym, refl, ap, ◌∙◌, arith, append-nil, append_assoc, length-append}
use Rattle.std.proofs.lemmas.List.{length-reverse, drop_all, drop-append-le}
use Rattle.arrayvec.specs.ArrayVec.{array_vec_len}
use Rattle.writer.specs.Numbers.{in_base, hex_digit}
use Rattle.writer.proofs.Digits.{base_one, base_more_length, refilled, turned_more, turned_behind}
use Rattle.writer.proofs.write.numeral.Goals as goal

pub loop-rest-init : goal.loop-rest-init
loop-rest-init g c =
    let was = c.args.out.now.items in
    let none = drop_all (length was) was (omega arith) in
    (sym (ap (λ (l : List ℕ). was ++ l) none ∙ append-nil was), sym (ap (λ (l : List ℕ). in_base c.args.base c.args.n ++ reverse l) none ∙ append-nil (in_base c.args.base c.args.n)), omega arith)

pub push-requires : goal.push-requires
push-requires g c =
    let i = c.loop-rest.invariant in
    let low = drop (array_vec_len c.args.out.now) c.loop-rest.out.items in
    (omega arith, omega (arith, c.requires.room, ap length i.0, length-append c.args.out.now.items low, ap length i.1, length-append (in_base c.args.base c.loop-rest.rest) (reverse low), length-reverse low, base_more_length c.args.base (omega arith) c.loop-rest.rest (omega arith)))

pub loop-rest-preserved : goal.loop-rest-preserved
loop-rest-preserved g c =
    let i = c.loop-rest.invariant in
    let was = c.args.out.now.items in
    let low = drop (length was) c.loop-rest.out.items in
    let d = hex_digit (c.loop-rest.rest % c.args.base) in
    let now : c.push.new.self.items ≡ c.loop-rest.out.items ++ (d ∷ []) = c.push.ensures.items ∙ ap (λ (x : ℕ). c.loop-rest.out.items ++ (x ∷ [])) c.hex_digit.ensures in
    let e : drop (length was) c.push.new.self.items ≡ low ++ (d ∷ []) = ap (drop (length was)) now ∙ drop-append-le (length was) c.loop-rest.out.items (d ∷ []) i.2 in (
      now ∙ (ap (λ (l : List ℕ). l ++ (d ∷ [])) i.0 ∙ (append_assoc was low (d ∷ []) ∙ ap (λ (l : List ℕ). was ++ l) (sym e))),
      turned_more c.args.base (omega arith) _ low c.loop-rest.rest (omega arith) i.1 ∙ ap (λ (l : List ℕ). in_base c.args.base (c.loop-rest.rest / c.args.base) ++ reverse l) (sym e),
      omega (arith, c.push.ensures.len, i.2),
    )

pub push-requires-2 : goal.push-requires-2
push-requires-2 g c =
    let i = c.loop-rest.invariant in
    let low = drop (array_vec_len c.args.out.now) c.loop-rest.out.items in
    (omega arith, omega (arith, c.requires.room, ap length i.0, length-append c.args.out.now.items low, ap length i.1, length-append (in_base c.args.base c.loop-rest.rest) (reverse low), length-reverse low, ap length (base_one c.args.base (omega arith) c.loop-rest.rest (omega arith))))

pub turn-requires : goal.turn-requires
turn-requires g c = omega (arith, c.len-start.ensures.value, c.push-2.ensures.len, c.loop-rest.invariant.2, ap length c.as_mut_slice.ensures.value)

pub returns : goal.returns
returns g c =
    let i = c.loop-rest.invariant in
    let was = c.args.out.now.items in
    let now : c.as_mut_slice.result.now ≡ c.loop-rest.out.items ++ (hex_digit c.loop-rest.rest ∷ []) =
    c.as_mut_slice.ensures.value ∙ (c.push-2.ensures.items ∙ ap (λ (x : ℕ). c.loop-rest.out.items ++ (x ∷ [])) c.hex_digit-2.ensures) in
    let done : c.turn.new.bytes ≡ was ++ in_base c.args.base c.args.n =
    c.turn.ensures
    ∙ (ap (λ (s : ℕ). take s c.as_mut_slice.result.now ++ reverse (drop s c.as_mut_slice.result.now)) c.len-start.ensures.value
    ∙ (ap (λ (l : List ℕ). take (length was) l ++ reverse (drop (length was) l)) now
    ∙ turned_behind c.args.base (omega arith) was c.loop-rest.out.items _ c.loop-rest.rest (omega arith) i.0 i.1 i.2)) in
    let low = drop (length was) c.loop-rest.out.items in
    let long : length c.turn.new.bytes ≡ length c.push-2.new.self.items = omega (arith, ap length done, length-append was (in_base c.args.base c.args.n), ap length i.1, length-append (in_base c.args.base c.loop-rest.rest) (reverse low), length-reverse low, ap length (base_one c.args.base (omega arith) c.loop-rest.rest (omega arith)), ap length i.0, length-append was low, c.push-2.ensures.len) in
    let is = refilled (length c.push-2.new.self.items) c.push-2.new.self.items c.turn.new.bytes long refl ∙ done in
    record { bytes = is; len = ap length is ∙ length-append was (in_base c.args.base c.args.n) }
