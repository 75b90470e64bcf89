-- The files, and then their job.
use Rattle.std.proofs.Common.{refl}
use Rattle.nor_base.proofs.FaultLaws.{answered}
use Rattle.norprog_files.proofs.FilesLemmas.{adds_both}
use Rattle.norprog_named.specs.Flash.{EndsFlash, NoInput, Worked}
use Rattle.norprog_named.proofs.flash_files.flash.Goals as goal

pub returns-in_err-texts-clause-ends : goal.returns-in_err-texts-clause-ends
returns-in_err-texts-clause-ends g c =
    let did = c.in_err-texts.ensures in (
      did.0,
      did.1,
      answered _ (EndsFlash _ _ _) _ (NoInput _ _ did.2 refl) c.from_residual.ensures.1,
    )

pub returns-clause-ends : goal.returns-clause-ends
returns-clause-ends g c =
    let read = c.in_ok-texts.ensures in
    let work = c.flash_job.ensures.ends in
    (_, adds_both read.1 work.1, Worked _ _ read.0 work.0 _ read.2 c.job_for-job.ensures work.2)

pub flash_job-requires : goal.flash_job-requires
flash_job-requires g c = record { whole = c.job_for-job.ensures.ask.content }
