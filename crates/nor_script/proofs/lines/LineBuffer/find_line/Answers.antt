-- Until a line is there, or none is left.
use Rattle.std.proofs.Common.{[], ◌∙◌}
use Rattle.nor_script.proofs.StreamLaws.{reads_then}
use Rattle.nor_script.proofs.ReaderLemmas.{find_failed, stays, comes_reads, searched}
use Rattle.nor_script.proofs.lines.LineBuffer.find_line.Goals as goal

pub returns-in_err-pull-clause-lines : goal.returns-in_err-pull-clause-lines
returns-in_err-pull-clause-lines g c =
    let same = c.loop-searched-test.ensures.0 in
    find_failed _ _ _ c.from_residual.result _ c.from_residual.ensures.1
    (reads_then _ _ _ [] [] (stays _ _ c.loop-searched.self c.mark_line.new.self same c.loop-searched.invariant.reads) c.in_err-pull.ensures.bytes.0) c.in_err-pull.ensures.bytes.1

pub loop-searched-preserved : goal.loop-searched-preserved
loop-searched-preserved g c =
    let same = c.loop-searched-test.ensures.0 in
    let comes = c.in_ok-pull.ensures.bytes in
    let seen = searched _ _ _ c.held-searched.result.now c.held-searched.ensures c.loop-searched-test.ensures.1 comes in record {
      reads = reads_then _ _ _ [] [] (stays _ _ c.loop-searched.self c.mark_line.new.self same c.loop-searched.invariant.reads) (comes_reads _ _ _ comes);
      within = seen.0;
      none = seen.1;
      count = c.in_ok-pull.ensures.count ∙ c.loop-searched.invariant.count;
    }
