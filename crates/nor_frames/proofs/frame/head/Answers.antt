-- All of the address bytes asked for were gone over.
use Rattle.nor_frames.proofs.HeadLemmas.{head_is}
use Rattle.nor_frames.proofs.frame.head.Goals as goal

pub returns : goal.returns
returns c =
    head_is c.args.instr.now.width c.from.result c.loop-byte.byte-index c.args.instr.now.address c.args.instr.now.op c.loop-byte.bytes.items c.to_be_bytes-address.result
    c.from.ensures c.requires c.to_be_bytes-address.ensures c.loop-byte.invariant c.loop-byte-test.false
