-- The walk ends behind the last of them, or where there are no more cells.
use Rattle.std.proofs.Common.{refl, arith}
use Rattle.nor_cells.proofs.TouchedLemmas.{between_marked}
use Rattle.nor_cells.proofs.touched.mark.Goals as goal

pub returns : goal.returns
returns c =
    between_marked c.args.start c.args.end _ c.min-last.result c.loop-c.c c.args.marks.now c.loop-c.marks c.if-end-start.false refl c.min-last.ensures
    c.loop-c.invariant.same_length c.loop-c.invariant.each c.loop-c.invariant.from c.loop-c.invariant.ends (omega (arith, c.loop-c-test.false))
