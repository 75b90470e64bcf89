-- By computation.
use Rattle.std.proofs.Common.{refl}
use Rattle.std.specs.Fmt.{digits}
use Rattle.nor_waves.specs.Wires.{changes}
use Rattle.nor_waves.specs.Ticks.{clocks_ticks, step_ticks, ticks}
use Rattle.nor_waves.specs.Waves.{stamp, changes_from, waves}
use Rattle.nor_waves.proofs.worked.texts_worked.Goals as goal

pub returns-clause-nothing : goal.returns-clause-nothing
unfolding changes clocks_ticks step_ticks ticks stamp changes_from waves digits
returns-clause-nothing c = refl

pub returns-clause-bit : goal.returns-clause-bit
unfolding changes clocks_ticks step_ticks ticks stamp changes_from waves digits
returns-clause-bit c = refl

pub returns-clause-bits : goal.returns-clause-bits
unfolding changes clocks_ticks step_ticks ticks stamp changes_from waves digits
returns-clause-bits c = refl
