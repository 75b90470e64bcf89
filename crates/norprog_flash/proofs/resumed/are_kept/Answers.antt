-- The pieces are all.
use Rattle.std.proofs.Common.{◌<◌, length, arith}
use Rattle.norprog_flash.proofs.ResumedLemmas.{piece_inside}
use Rattle.norprog_flash.proofs.resumed.are_kept.Goals as goal

pub returns-clause-kept : goal.returns-clause-kept
returns-clause-kept c _ k below same at inside =
    let within : k < c.div_ceil-number-end.result =
    piece_inside (length c.args.held.now) c.args.grain.size k c.div_ceil-number-end.result c.requires.some c.div_ceil-number-end.ensures below
    in
    c.loop-number.invariant k (omega (arith, within, c.loop-number-test.false)) same at inside
