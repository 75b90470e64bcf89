-- By the form of its row.
use Rattle.nor_laws.proofs.VerifyLaws.{verify_keeps}
use Rattle.nor_laws.proofs.verifying_reads.Goals as goal

pub returns : goal.returns
returns c = verify_keeps
