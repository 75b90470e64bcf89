-- The parameters asked for are accepted.
use Rattle.std.proofs.Common.{refl}
use Rattle.test_samples.specs.Chips.{mapped}
use Rattle.test_samples.proofs.Acceptance.{accepted}
use Rattle.test_samples.proofs.mapped_chip.Goals as goal

pub plain_chip-requires-clause-accepted : goal.plain_chip-requires-clause-accepted
plain_chip-requires-clause-accepted c = accepted mapped refl
