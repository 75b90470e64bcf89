-- Lane by lane.
use Rattle.std.proofs.Common.{rules}
use Rattle.nor_decode.proofs.LaneLemmas.{mask_is}
use Rattle.nor_decode.proofs.clocks.byte.Goals as goal

pub returns : goal.returns
returns c = mask_is c.args.bits.now c.requires (search rules)
