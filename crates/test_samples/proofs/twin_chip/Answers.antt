-- The parameters built are those of the chip with two kinds of sectors.
use Rattle.test_samples.proofs.ChipsAccepted.{twin_built}
use Rattle.test_samples.proofs.twin_chip.Goals as goal

pub invariant_of-result : goal.invariant_of-result
invariant_of-result c =
    twin_built c.args.dedicated c.args.leave c.then_some.result c.regions_of.result.items c.then_some.ensures c.regions_of.ensures
