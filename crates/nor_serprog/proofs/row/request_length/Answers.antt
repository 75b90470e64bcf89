-- A request by the bytes that its clocks send.
use Rattle.std.proofs.Common.{rules}
use Rattle.nor_base.specs.Decoding.{bytes_of_bits}
use Rattle.nor_serprog.proofs.LengthLemmas.{asked_by}
use Rattle.nor_serprog.proofs.row.request_length.Goals as goal

pub returns : goal.returns
returns c =
    let carried = c.in_ok-bits.ensures.carried in
    asked_by c.args.limits.now c.args.step.now (bytes_of_bits c.in_ok-bits.bits.now) carried.0 _ c.requires (search rules) (search rules)
