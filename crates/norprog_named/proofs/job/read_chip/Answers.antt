-- The tables of a chip that is named, where it has a file.
use Rattle.std.proofs.Common.{[]}
use Rattle.norprog_common.specs.Chip.{origin_of}
use Rattle.norprog_files.proofs.FilesLemmas.{adds_none}
use Rattle.norprog_named.specs.Job.{NoChip}
use Rattle.norprog_named.proofs.JobLemmas.{chip_read}
use Rattle.norprog_named.proofs.job.read_chip.Goals as goal

pub returns-in-Some : goal.returns-in-Some
returns-in-Some g c =
    let did = c.read_tables.ensures in
    rw c.in-Some.is (did.0, did.1, chip_read (origin_of c.in-Some.chip) c.read_tables.result did.0 did.2)

pub returns-in-None : goal.returns-in-None
returns-in-None g c = rw c.in-None.is ([], adds_none _, NoChip _)
