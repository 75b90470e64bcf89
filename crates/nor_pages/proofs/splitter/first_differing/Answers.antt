-- Byte by byte, from the first.
use Rattle.nor_pages.proofs.SpanLemmas.{none_here, begins_here}
use Rattle.nor_pages.proofs.splitter.first_differing.Goals as goal

pub returns-then-differs : goal.returns-then-differs
returns-then-differs c =
    begins_here c.args.blank c.args.have.now c.args.want.now c.loop-i.i c.old_over.result c.differs.result c.loop-i-test.true c.old_over.ensures c.differs.ensures c.if-differs.true
    c.loop-i.invariant

pub loop-i-preserved : goal.loop-i-preserved
loop-i-preserved c =
    none_here c.args.blank c.args.have.now c.args.want.now c.loop-i.i c.old_over.result c.differs.result c.loop-i-test.true c.old_over.ensures c.differs.ensures c.if-differs.false
    c.loop-i.invariant
