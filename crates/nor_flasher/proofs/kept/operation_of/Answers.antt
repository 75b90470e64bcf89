-- The clocks in two parts, of which one sends and the other samples.
use Rattle.std.proofs.Common.{arith}
use Rattle.nor_flasher.proofs.OperationLemmas.{cut}
use Rattle.nor_flasher.proofs.kept.operation_of.Goals as goal

pub overflow_cast-result : goal.overflow_cast-result
overflow_cast-result c =
    let op = c.is_carried.ensures.carried.0 c.if-not-is_carried.false in
    let parts = cut _ c.args.clocks.now c.split_at.result.0.now c.split_at.result.1.now c.count_bits.result op c.count_bits.ensures.count c.split_at.ensures.front c.split_at.ensures.back in
    omega (arith, parts.few)

pub returns : goal.returns
returns c =
    let op = c.is_carried.ensures.carried.0 c.if-not-is_carried.false in
    (cut _ c.args.clocks.now c.split_at.result.0.now c.split_at.result.1.now c.count_bits.result op c.count_bits.ensures.count c.split_at.ensures.front c.split_at.ensures.back).spelled
