-- What stands behind the first line.
use Rattle.std.proofs.Common.{◌<◌, ◌≤◌, ◌+◌, length, rules}
use Rattle.nor_script.proofs.StreamLaws.{reads_none}
use Rattle.nor_script.proofs.ReaderLemmas.{goes_past, something_behind}
use Rattle.nor_script.proofs.lines.LineBuffer.goes_on.Goals as goal

pub returns-then-held-line-clause-bytes : goal.returns-then-held-line-clause-bytes
returns-then-held-line-clause-bytes g c =
    let more : length c.args.self.now.line + 1 < length c.args.self.now.held = search rules in
    (reads_none _, goes_past _ _ _ c.requires.line.first more)

pub returns-clause-bytes : goal.returns-clause-bytes
returns-clause-bytes g c =
    let fits : length c.args.self.now.held ≤ length c.args.self.now.line + 1 = search rules in
    something_behind _ _ _ _ _ c.requires.line.first fits c.in_ok-pull.ensures.bytes (search rules)
