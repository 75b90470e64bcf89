-- The parameters built are those of a large chip.
use Rattle.std.proofs.Common.{◌≡◌}
use Rattle.std.specs.Bool.{then_some}
use Rattle.test_samples.proofs.ChipsAccepted.{large_built}
use Rattle.test_samples.proofs.large_with.Goals as goal

pub invariant_of-result : goal.invariant_of-result
invariant_of-result c =
    let sectors : c.then_some.result ≡ then_some c.args.dedicated 0x21 = c.then_some.ensures in
    let blocks : c.then_some-2.result ≡ then_some c.args.dedicated 0xDC = c.then_some-2.ensures in
    large_built c.args.switch c.args.dedicated c.args.quad3 c.then_some.result c.then_some-2.result c.regions_of.result.items sectors blocks c.regions_of.ensures
