-- The parameters built are those that are accepted.
use Rattle.std.proofs.Common.{◌∙◌}
use Rattle.test_samples.proofs.ChipsAccepted.{plain_built}
use Rattle.test_samples.proofs.plain_chip.Goals as goal

pub invariant_of-result : goal.invariant_of-result
invariant_of-result c =
    plain_built _ c.args.size c.args.erases c.args.map.now c.regions_of.result.items (c.result.view_is ∙ c.small_chip.ensures) c.regions_of.ensures c.requires.accepted
