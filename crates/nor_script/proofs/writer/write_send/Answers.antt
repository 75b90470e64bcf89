-- The line's bytes.
use Rattle.nor_base.specs.Script.{step_line}
use Rattle.nor_script.proofs.writer.write_send.Goals as goal

pub returns-clause-bytes : goal.returns-clause-bytes
unfolding step_line
returns-clause-bytes g c = c.put_parts.ensures.bytes
