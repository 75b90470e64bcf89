-- The nibbles of the two clocks of the byte.
use Rattle.nor_base.specs.Decoding.{nibble}
use Rattle.nor_decode.proofs.ByteLemmas.{nibbles_at}
use Rattle.nor_decode.proofs.seen.byte_of_nibbles.Goals as goal

pub returns : goal.returns
returns c = rw (nibbles_at c.args.clocks.now c.args.i c.requires) (cc)
