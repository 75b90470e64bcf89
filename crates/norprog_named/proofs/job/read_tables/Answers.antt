-- The file of the tables was read, or can't be; a chip of a size has none.
use Rattle.std.proofs.Common.{[]}
use Rattle.norprog_files.proofs.FilesLemmas.{adds_none}
use Rattle.norprog_named.specs.Job.{NoTables}
use Rattle.norprog_named.proofs.JobLemmas.{sheet_read, tables_read}
use Rattle.norprog_named.proofs.job.read_tables.Goals as goal

pub returns-in-Sfdp : goal.returns-in-Sfdp
returns-in-Sfdp g c = rw c.in-Sfdp.is (_, c.read.ensures.did, tables_read c.in-Sfdp.file.now c.in-Sfdp.bits.now c.read.result c.read.ensures.refused)

pub returns-in-Uniform : goal.returns-in-Uniform
returns-in-Uniform g c = rw c.in-Uniform.is ([], adds_none _, NoTables c.in-Uniform.field-0 _)

pub returns-in-Sheet : goal.returns-in-Sheet
returns-in-Sheet g c = rw c.in-Sheet.is (_, c.read-in-Sheet.ensures.did, sheet_read c.in-Sheet.file.now c.read-in-Sheet.result c.read-in-Sheet.ensures.refused)
