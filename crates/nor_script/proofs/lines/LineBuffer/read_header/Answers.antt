-- The header, where as many bytes came.
use Rattle.std.proofs.Common.{◌<◌, ◌≤◌, [], length, rules}
use Rattle.nor_script.proofs.StreamLaws.{reads_then}
use Rattle.nor_script.proofs.ReaderLemmas.{header_failed, header_short, header_told, comes_reads}
use Rattle.nor_script.proofs.lines.LineBuffer.read_header.Goals as goal

pub returns-in_err-pull-clause-bytes : goal.returns-in_err-pull-clause-bytes
returns-in_err-pull-clause-bytes g c =
    header_failed _ _ c.from_residual.result _ c.from_residual.ensures.1
    (reads_then _ _ _ [] [] c.loop-self.invariant.reads c.in_err-pull.ensures.bytes.0) c.in_err-pull.ensures.bytes.1

pub returns-then-branch-eq0-clause-bytes : goal.returns-then-branch-eq0-clause-bytes
returns-then-branch-eq0-clause-bytes g c =
    let comes = c.in_ok-pull.ensures.bytes in
    let short : length c.loop-self.self.held < 12 = search rules in
    (reads_then _ _ _ [] [] c.loop-self.invariant.reads (comes_reads _ _ _ comes), header_short _ _ _ short comes (search rules))

pub returns-clause-bytes : goal.returns-clause-bytes
returns-clause-bytes g c =
    let enough : 12 ≤ length c.loop-self.self.held = search rules in
    header_told _ _ c.loop-self.self.held c.skip_header.new.self.held c.skip_header.result c.loop-self.invariant.reads enough c.skip_header.ensures
