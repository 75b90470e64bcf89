-- Laws of which steps are the planned work.
use Rattle.std.specs.Prelude.{◌≡◌, ℕ, Bool, List}
use Rattle.nor_base.specs.declared.meaning.Start.{Start}
use Rattle.nor_base.specs.declared.step.Step.{Step}
use Rattle.nor_base.specs.Parameters.{Parameters}
use Rattle.nor_base.specs.Chip.{begins4}
use Rattle.nor_base.specs.Planned.{planned, ArePlanned, IsWorkable}
use Rattle.nor_base.specs.Clocks.{CanAllBeSpelled}

-- the chip has each planned instruction, in the mode at its place, and each fits its clocks
abbrev pub PlannedCanBeSpelled : Type 0
PlannedCanBeSpelled = (m : Parameters) (start : Start) (verify : Bool) (have want : List ℕ) → IsWorkable m start have want
    → CanAllBeSpelled m (begins4 m start) (planned m start verify have want)

-- there are steps that are the planned work
abbrev pub ThereIsPlannedWork : Type 0
ThereIsPlannedWork = (m : Parameters) (start : Start) (verify : Bool) (have want : List ℕ) → IsWorkable m start have want
    → (steps : List Step) × ArePlanned m start verify have want steps

-- and no others are
abbrev pub OnePlannedWork : Type 0
OnePlannedWork = (m : Parameters) (start : Start) (verify : Bool) (have want : List ℕ) (xs ys : List Step) → IsWorkable m start have want
    → ArePlanned m start verify have want xs → ArePlanned m start verify have want ys → xs ≡ ys
