-- The parameters built are those of the small chip with an open page.
use Rattle.std.proofs.Common.{◌∙◌}
use Rattle.test_samples.proofs.ChipsAccepted.{open_page_built}
use Rattle.test_samples.proofs.open_page_chip.Goals as goal

pub invariant_of-result : goal.invariant_of-result
invariant_of-result c = open_page_built _ (c.result.view_is ∙ c.small_chip.ensures)
