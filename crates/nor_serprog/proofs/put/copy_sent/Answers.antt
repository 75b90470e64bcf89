-- One more byte.
use Rattle.std.proofs.Common.{arith}
use Rattle.nor_base.specs.Decoding.{bytes_of_bits}
use Rattle.nor_serprog.proofs.CarriedLemmas.{length_of_bytes}
use Rattle.nor_serprog.proofs.PieceLemmas.{copied_more, copied_all}
use Rattle.nor_serprog.proofs.put.copy_sent.Goals as goal

pub overflow_add-from : goal.overflow_add-from
overflow_add-from c = omega (arith, length_of_bytes c.args.bits.now)

pub loop-place-preserved : goal.loop-place-preserved
loop-place-preserved c =
    copied_more (bytes_of_bits c.args.bits.now) c.loop-place.part c.args.from c.loop-place.place c.byte_sent.result (omega arith) (omega arith) c.byte_sent.ensures c.loop-place.invariant

pub returns : goal.returns
returns c =
    copied_all (bytes_of_bits c.args.bits.now) c.loop-place.part c.args.from c.loop-place.place _ (omega arith) c.loop-place.auto.part c.loop-place.invariant
