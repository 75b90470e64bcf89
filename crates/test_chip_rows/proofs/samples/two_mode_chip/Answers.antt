-- The parameters built are those of the small chip with both modes.
use Rattle.std.proofs.Common.{◌∙◌}
use Rattle.test_chip_rows.proofs.Accepted.{two_mode_built}
use Rattle.test_chip_rows.proofs.samples.two_mode_chip.Goals as goal

pub invariant_of-result : goal.invariant_of-result
invariant_of-result c = two_mode_built c.args.switch _ (c.result.view_is ∙ c.small_chip.ensures)
