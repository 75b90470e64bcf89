-- One size more; no content is so long that a larger one would show.
use Rattle.std.proofs.Common.{arith, subst}
use Rattle.nor_cells.specs.Marks.{MarkedBy}
use Rattle.nor_cells.specs.Wrap.{TellsApart}
use Rattle.nor_cells.proofs.WrapLemmas.{wrap_next, wrap_all, shifted}
use Rattle.nor_cells.proofs.wrap.mark_wraps.Goals as goal

pub loop-k-preserved : goal.loop-k-preserved
loop-k-preserved c = record {
  low = omega (arith, c.loop-k.invariant.low);
  marked = wrap_next c.args.content.now c.loop-k.k c.args.marks.now c.loop-k.marks c.mark_wrap.new.marks c.loop-k.invariant.low c.loop-k.invariant.marked
      (subst (λ far. MarkedBy (TellsApart c.args.content.now far) c.loop-k.marks c.mark_wrap.new.marks) (shifted c.loop-k.k (omega (arith, c.loop-k-test.true, c.loop-k.auto.k-end))) c.mark_wrap.ensures);
}

pub returns : goal.returns
returns c = wrap_all c.args.content.now c.loop-k.k c.args.marks.now c.loop-k.marks c.requires.small (omega (arith, c.loop-k-test.false)) c.loop-k.invariant.marked
