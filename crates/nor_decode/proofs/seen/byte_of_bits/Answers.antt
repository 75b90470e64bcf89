-- The number of the eight clocks of the byte.
use Rattle.std.proofs.Common.{◌∙◌}
use Rattle.nor_decode.proofs.ByteLemmas.{byte_at}
use Rattle.nor_decode.proofs.seen.byte_of_bits.Goals as goal

pub returns : goal.returns
returns c = c.byte.ensures ∙ byte_at c.args.clocks.now c.args.i c.requires
