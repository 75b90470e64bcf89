-- Byte by byte, from the last.
use Rattle.std.proofs.Common.{arith}
use Rattle.nor_pages.proofs.SpanLemmas.{this_one, not_this_one}
use Rattle.nor_pages.proofs.splitter.last_differing.Goals as goal

pub returns-then-differs-clause-run : goal.returns-then-differs-clause-run
returns-then-differs-clause-run c =
    this_one c.args.blank c.args.have.now c.args.want.now c.args.first c.loop-last.last c.old_over.result c.differs.result c.loop-last-test.true c.old_over.ensures c.differs.ensures
    c.if-differs.true c.loop-last.invariant.so

pub loop-last-preserved : goal.loop-last-preserved
loop-last-preserved c = record {
  from = omega (arith, c.loop-last-test.true);
  upto = omega (arith, c.loop-last.invariant.upto, c.loop-last-test.true);
  so =
      not_this_one c.args.blank c.args.have.now c.args.want.now c.args.first c.loop-last.last c.old_over.result c.differs.result c.loop-last-test.true c.old_over.ensures c.differs.ensures
      c.if-differs.false c.loop-last.invariant.so;
}
