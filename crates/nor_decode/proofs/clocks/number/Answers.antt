-- One more bit: twice the sum and the bit.
use Rattle.std.proofs.Common.{◌≡◌, ◌∙◌, ap, take, arith}
use Rattle.std.proofs.lemmas.List.{take_more, take_all, length-take-le}
use Rattle.nor_base.specs.Decoding.{number}
use Rattle.nor_decode.proofs.NumberLemmas.{number_below, number_fits, number_push}
use Rattle.nor_decode.proofs.clocks.number.Goals as goal

pub overflow_mul-sum : goal.overflow_mul-sum
overflow_mul-sum c =
    let so_far = length-take-le c.loop-symbol.symbol-index c.args.bits.now (omega arith) in
    omega (arith, number_fits 31 (take c.loop-symbol.symbol-index c.args.bits.now) (omega arith))

pub overflow_add-sum : goal.overflow_add-sum
overflow_add-sum c =
    let so_far = length-take-le c.loop-symbol.symbol-index c.args.bits.now (omega arith) in
    omega (arith, number_fits 31 (take c.loop-symbol.symbol-index c.args.bits.now) (omega arith))

pub loop-symbol-preserved : goal.loop-symbol-preserved
loop-symbol-preserved c =
    let one_more = take_more c.args.bits.now c.loop-symbol.symbol-index 0 (omega arith) in
    rw (one_more, number_push) (cc)

pub returns-clause-fits : goal.returns-clause-fits
returns-clause-fits c =
    let whole : take c.loop-symbol.symbol-index c.args.bits.now ≡ c.args.bits.now = take_all _ _ (omega arith) in
    let value : c.loop-symbol.sum ≡ number c.args.bits.now = c.loop-symbol.invariant ∙ ap number whole in
    omega (arith, number_below c.args.bits.now)
