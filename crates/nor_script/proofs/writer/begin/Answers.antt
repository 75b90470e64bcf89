-- The header line's bytes.
use Rattle.nor_base.specs.Script.{header}
use Rattle.nor_script.proofs.writer.begin.Goals as goal

pub returns-clause-bytes : goal.returns-clause-bytes
unfolding header
returns-clause-bytes g c = c.put_all.ensures.bytes
