-- Why a part isn't written.
use Rattle.std.proofs.Common.{arith}
use Rattle.nor_base.proofs.FaultLaws.{handed_on}
use Rattle.nor_hex.specs.Converted.{Unwritable}
use Rattle.nor_hex.proofs.ConvertLemmas.{unreadable}
use Rattle.nor_hex.proofs.converted.write_part.Goals as goal

pub returns-in_err-read_part-clause-stopped : goal.returns-in_err-read_part-clause-stopped
returns-in_err-read_part-clause-stopped g c = handed_on _ _ _ c.from_residual.ensures.1 (unreadable _ c.in_err-read_part.ensures.short)

pub returns-in-Err-clause-stopped : goal.returns-in-Err-clause-stopped
returns-in-Err-clause-stopped g c = Unwritable c.in-Err.ensures.count
