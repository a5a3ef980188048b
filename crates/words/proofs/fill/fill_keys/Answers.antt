use Rattle.std.proofs.Common.{◌+◌, [], ◌∷◌, drop, Ok, Err, arith}
use Rattle.std.proofs.lemmas.List.{drop_all}
use Rattle.std.proofs.lemmas.Result.{err_from_is_err_and}
use Rattle.filling.proofs.Enough.{takes_all}
use Rattle.filling.proofs.Fillings.{puts_more, puts_stops, puts_all}
use Rattle.filling.specs.Filling.{Puts}
use Rattle.words.specs.Words.{key_word, key_words}
use Rattle.words.proofs.Rows.{words_length, words_more, keys_short, keys_once}
use Rattle.words.proofs.fill.fill_keys.Goals as goal

pub returns-in_err-fill_key : goal.returns-in_err-fill_key
returns-in_err-fill_key c =
    let i = c.loop-place.place in
    let p = err_from_is_err_and c.from_residual.result c.from_residual.ensures.1 in
    let f : Puts c.args.map.now c.fill_key.new.map (Err c.in_err-fill_key.field-0.0) key_words =
    puts_stops c.loop-place.invariant (key_word i ∷ []) (drop (i + 1) key_words) (words_more i (omega arith)) c.in_err-fill_key.ensures in
    rw (p.1, p.2) (record {
      lender = f.lender;
      fills = f.fills;
      takes = takes_all c.args.map.now c.fill_key.new.map (Err c.in_err-fill_key.field-0.0) key_words keys_short keys_once f.fills;
    })

pub loop-place-preserved : goal.loop-place-preserved
loop-place-preserved c =
    let i = c.loop-place.place in
    puts_more c.loop-place.invariant (key_word i ∷ []) (drop (i + 1) key_words) (words_more i (omega arith)) c.in_ok-fill_key.ensures

pub returns : goal.returns
returns c =
    let f : Puts c.args.map.now c.loop-place.map (Ok tt) key_words =
    puts_all c.loop-place.invariant (drop_all c.loop-place.place key_words (omega (arith, words_length))) in
    record { lender = f.lender; fills = f.fills; takes = takes_all c.args.map.now c.loop-place.map (Ok tt) key_words keys_short keys_once f.fills }
