-- Each stage's refusal.
use Rattle.std.proofs.Common.{◌≡◌, false, true, ap}
use Rattle.nor_job.specs.Task.{Task}
use Rattle.nor_base.proofs.FaultLaws.{handed_on}
use Rattle.nor_job.proofs.FaultLemmas.{has_image, refuses_image}
use Rattle.nor_job.proofs.job.job_of.Goals as goal

pub returns-in_err-consistent-clause-refused : goal.returns-in_err-consistent-clause-refused
returns-in_err-consistent-clause-refused c =
    handed_on _ _ _ c.from_residual.ensures.1 (c.in_err-consistent.ensures.refused c.args.len)

pub returns-in_err-image-clause-refused : goal.returns-in_err-image-clause-refused
returns-in_err-image-clause-refused c =
    handed_on _ _ _ c.from_residual-in_err-image.ensures.1
    (refuses_image c.args.inputs.now c.args.len c.in_err-image.field-0.0 c.in_ok-consistent.ensures.consistent c.in_err-image.ensures.refused)

pub returns-in_err-image-clause-only_memory : goal.returns-in_err-image-clause-only_memory
returns-in_err-image-clause-only_memory c = λ image regions m accepted.
    handed_on _ _ _ c.from_residual-in_err-image.ensures.1 (c.in_err-image.ensures.only_memory image accepted.named.imaged.spelled)

pub sized_chip-requires : goal.sized_chip-requires
sized_chip-requires c =
    let its = has_image c.args.inputs.now c.in_ok-image.image c.in_ok-consistent.ensures.consistent c.in_ok-image.ensures.image in
    let chosen = c.in_ok-chosen.ensures.chosen c.in_ok-image.image its in
    record { named = (c.in_ok-image.image, chosen.0, chosen.1) }

pub returns-clause-job : goal.returns-clause-job
returns-clause-job c =
    let its = has_image c.args.inputs.now c.in_ok-image.image c.in_ok-consistent.ensures.consistent c.in_ok-image.ensures.image in
    let chosen = c.in_ok-chosen.ensures.chosen c.in_ok-image.image its in
    record {
      regions = chosen.0;
      accepted = c.in_ok-meaning.ensures.chip c.in_ok-image.image chosen.0 chosen.1;
      chosen = chosen.2;
      start = c.in_ok-meaning.ensures.start;
      base = ap (λ (t : Task). t.base) c.inputs.view_is;
      verify = ap (λ (t : Task). t.verify) c.inputs.view_is;
    }

pub returns-in_err-chosen-clause-refused : goal.returns-in_err-chosen-clause-refused
returns-in_err-chosen-clause-refused c =
    handed_on _ _ _ c.from_residual-in_err-chosen.ensures.1 (c.in_err-chosen.ensures.refused c.args.len)

pub returns-in_err-meaning-clause-only_memory : goal.returns-in_err-meaning-clause-only_memory
returns-in_err-meaning-clause-only_memory c = λ image regions m accepted.
    let both : false ≡ true = c.in_err-meaning.ensures.accepted image regions m accepted in
    absurd (cc)
