-- A question, and perhaps a reading.
use Rattle.std.proofs.Common.{[]}
use Rattle.norprog_details.specs.Details.{NoLook}
use Rattle.norprog_details.proofs.LookLemmas.{asked, both, read}
use Rattle.norprog_files.proofs.FilesLemmas.{adds_both, adds_none}
use Rattle.norprog_details.proofs.details.held_by.Goals as goal

pub returns-in_default : goal.returns-in_default
returns-in_default g c = ([], adds_none _, NoLook)

pub returns-then-not-is_regular : goal.returns-then-not-is_regular
returns-then-not-is_regular g c = (_, c.is_regular.ensures, asked _)

pub returns-in-Ok : goal.returns-in-Ok
returns-in-Ok g c = (_, adds_both c.is_regular.ensures c.read.ensures.did, both (asked _) (read _ (λ text. text.items) c.read.result))

pub returns : goal.returns
returns g c = (_, adds_both c.is_regular.ensures c.read.ensures.did, both (asked _) (read _ (λ text. text.items) c.read.result))
