-- The page that was said is one of a meaning that is accepted.
use Rattle.std.proofs.Common.{◌∙◌, ap, sym}
use Rattle.nor_base.specs.Parameters.{Parameters}
use Rattle.nor_job.specs.Chip.{fits}
use Rattle.nor_job.proofs.PageLemmas.{paged_accepted}
use Rattle.nor_job.proofs.chip.paged.Goals as goal

pub invariant_of-result : goal.invariant_of-result
invariant_of-result c =
    paged_accepted _ c.in-Some.page c.meaning.invariant
    (ap (λ (m : Parameters). fits m c.in-Some.page) c.meaning.view_is ∙ sym c.fits.ensures ∙ c.if-not-fits.false)
