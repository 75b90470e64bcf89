-- The job's first region without a byte is the only one.
use Rattle.std.proofs.Common.{◌≡◌, ◌∙◌, ap}
use Rattle.nor_base.proofs.FaultLaws.{handed_on}
use Rattle.nor_hex.specs.Image.{byte_at}
use Rattle.nor_target.specs.Shares.{chosen_regions, first_empty}
use Rattle.nor_job.proofs.OneLemmas.{one_first, only_first}
use Rattle.nor_job.specs.declared.job.Job.{Job}
use Rattle.nor_job.proofs.shares.empty_region.Goals as goal

pub returns-in_err-job-clause-only_memory : goal.returns-in_err-job-clause-only_memory
returns-in_err-job-clause-only_memory c = λ image regions m accepted.
    handed_on _ _ _ c.from_residual.ensures.1 (c.in_err-job.ensures.only_memory image regions m accepted)

pub returns-clause-found : goal.returns-clause-found
returns-clause-found c =
    let job = c.in_ok-job.ensures.job in
    let chosen : c.in_ok-regions.regions.items ≡ chosen_regions job.regions c.args.inputs.now.regions c.in_ok-job.job.meaning.size =
    c.in_ok-regions.ensures.regions job.regions job.accepted.named.layout
    ∙ ap (λ (j : Job). chosen_regions job.regions c.args.inputs.now.regions j.meaning.size) c.job.view_is in
    let found : c.first_empty.result ≡ first_empty (byte_at c.in_ok-job.job.image) c.args.inputs.now.base c.in_ok-job.job.meaning.size c.in_ok-regions.regions.items =
    c.first_empty.ensures
    ∙ ap (λ (j : Job). first_empty (byte_at j.image) j.base j.meaning.size c.as_slice.result.now) c.job.view_is
    ∙ ap (λ base. first_empty (byte_at c.in_ok-job.job.image) base c.in_ok-job.job.meaning.size c.as_slice.result.now) job.base
    ∙ ap (first_empty (byte_at c.in_ok-job.job.image) c.args.inputs.now.base c.in_ok-job.job.meaning.size) c.as_slice.ensures.value in
    one_first c.args.inputs.now c.args.len c.in_ok-job.job.image job.regions c.in_ok-job.job.meaning c.in_ok-regions.regions.items c.first_empty.result job.accepted
    chosen found

pub returns-clause-only : goal.returns-clause-only
returns-clause-only c = λ index has. only_first c.args.inputs.now c.args.len c.first_empty.result index (returns-clause-found c) has
