-- All digits are spelled.
use Rattle.std.proofs.Common.{arith}
use Rattle.nor_script.proofs.PairLemmas.{all_put}
use Rattle.nor_script.proofs.hexadecimal.decode_pairs.Goals as goal

pub returns : goal.returns
returns c =
    all_put c.args.digits.now c.loop-i.bytes c.loop-i.i c.requires.pairs (omega (arith, c.loop-i.auto.bytes)) (omega (arith, c.loop-i.auto.bytes)) c.loop-i.invariant
