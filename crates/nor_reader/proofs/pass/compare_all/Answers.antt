-- Piece by piece.
use Rattle.std.proofs.Common.{[], length, take, refl, ◌∙◌, arith}
use Rattle.nor_loop.specs.Reads.{chunk}
use Rattle.nor_reader.specs.Reads.{reads}
use Rattle.nor_reader.proofs.AgainLemmas.{again_not}
use Rattle.nor_reader.proofs.CutLemmas.{cut_all, cut_begins, cut_read, again_cut}
use Rattle.nor_reader.proofs.pass.compare_all.Goals as goal

pub loop-done-init : goal.loop-done-init
loop-done-init g c = record {
  within = omega arith;
  cut = cut_begins c.args.first c.args.limits.now.asked (length c.args.bytes.now) (g.W.ByteOut.held c.args.to.now) (g.R.ByteIn.ahead c.args.from.now)
      c.args.by c.args.at 0 [] c.requires.some c.requires.few refl;
  reads = refl;
  writes = refl;
}

pub loop-done-preserved : goal.loop-done-preserved
loop-done-preserved g c =
    let ok = c.in_default.ensures in
    record {
      within = omega arith;
      cut = again_cut c.args.first c.args.limits.now.asked c.loop-done.next _ _ _ _ _ _ c.args.by c.args.at c.args.bytes.now c.loop-done.done c.min-len.result
          c.loop-done-test.true c.min-len.ensures c.args.limits.now.some_asked c.loop-done.invariant.cut ok.read;
      reads = ok.counts.0 ∙ c.loop-done.invariant.reads;
      writes = ok.counts.1 ∙ c.loop-done.invariant.writes;
    }

pub returns-in-Err-clause-again : goal.returns-in-Err-clause-again
returns-in-Err-clause-again g c =
    let cut = c.loop-done.invariant.cut in
    let r = reads c.args.limits.now.asked c.args.by in
    again_not r _ _ _ _ _ _ c.args.at c.args.bytes.now c.loop-done.done c.min-len.result c.in-Err.why (omega arith) (omega (arith, cut.some))
    (omega (arith, cut.few))
    (cut_read c.args.first r _ _ _ _ (chunk c.args.at (take c.loop-done.done c.args.bytes.now)) c.requires.few cut.cut) c.in-Err.ensures.read

pub returns-clause-cut : goal.returns-clause-cut
returns-clause-cut g c =
    cut_all c.args.first c.args.limits.now.asked c.loop-done.next _ _ _ _ c.args.by c.args.at c.args.bytes.now c.loop-done.done c.loop-done-test.false
    c.loop-done.invariant.cut

pub returns-clause-again : goal.returns-clause-again
returns-clause-again g c =
    cut_read c.args.first (reads c.args.limits.now.asked c.args.by) _ _ _ _ (chunk c.args.at c.args.bytes.now) c.requires.few (returns-clause-cut g c)
