use Rattle.std.proofs.Common.{◌≡◌, ◌<◌, ◌≤◌, ◌/◌, ◌%◌, sum, take, length, arith, ap, ◌∙◌}
use Rattle.std.proofs.lemmas.List.{take_all}
use Rattle.nor_hex.specs.Record.{pair_bytes}
use Rattle.nor_hex.proofs.PairLemmas.{length-pair_bytes, sum_step, decode_step}
use Rattle.nor_hex.proofs.digits.decode.Goals as goal

pub loop-i-preserved : goal.loop-i-preserved
loop-i-preserved c =
    let below : c.loop-i.i < length (pair_bytes c.args.digits.now) = omega (arith, length-pair_bytes c.args.digits.now) in
    let inside : c.loop-i.i < length c.loop-i.bytes = omega arith in
    record {
      summed = sum_step (pair_bytes c.args.digits.now) c.loop-i.i c.loop-i.sum c.pair-byte.result below c.loop-i.invariant.summed c.pair-byte.ensures;
      decoded = decode_step (pair_bytes c.args.digits.now) c.loop-i.bytes c.loop-i.i c.pair-byte.result below inside c.loop-i.invariant.decoded c.pair-byte.ensures;
    }

pub returns-clause-sum : goal.returns-clause-sum
returns-clause-sum c =
    let done : length (pair_bytes c.args.digits.now) ≤ c.loop-i.i = omega (arith, length-pair_bytes c.args.digits.now) in
    c.loop-i.invariant.summed ∙ ap (λ bytes. sum bytes % 256) (take_all c.loop-i.i (pair_bytes c.args.digits.now) done)

pub returns-clause-bytes : goal.returns-clause-bytes
returns-clause-bytes c =
    let all : length c.args.digits.now / 2 ≡ c.loop-i.i = omega arith in
    let done : length (pair_bytes c.args.digits.now) ≤ c.loop-i.i = omega (arith, length-pair_bytes c.args.digits.now) in
    ap (λ n. take n c.loop-i.bytes) all ∙ c.loop-i.invariant.decoded ∙ take_all c.loop-i.i (pair_bytes c.args.digits.now) done
