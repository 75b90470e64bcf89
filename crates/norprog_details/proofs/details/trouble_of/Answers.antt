-- At most one question.
use Rattle.std.proofs.Common.{[]}
use Rattle.norprog_details.specs.Details.{NoLook}
use Rattle.norprog_details.proofs.LookLemmas.{asked}
use Rattle.norprog_files.proofs.FilesLemmas.{adds_none}
use Rattle.norprog_details.proofs.details.trouble_of.Goals as goal

pub returns-then-not-is_read : goal.returns-then-not-is_read
returns-then-not-is_read g c = ([], adds_none _, NoLook)

pub returns-then-eq : goal.returns-then-eq
returns-then-eq g c = (_, c.device_trouble.ensures, asked _)

pub returns-else-eq : goal.returns-else-eq
returns-else-eq g c = (_, c.trouble.ensures, asked _)
