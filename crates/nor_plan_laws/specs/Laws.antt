-- Laws of the planned work.
use Rattle.std.specs.Prelude.{ℕ, Bool, List}
use Rattle.std.specs.List.{AllByRecursion}
use Rattle.nor_base.specs.declared.meaning.Start.{Start}
use Rattle.nor_base.specs.declared.step.Step.{Step}
use Rattle.nor_base.specs.Parameters.{Parameters}
use Rattle.nor_base.specs.Chip.{Setting, IsChipOf, ready}
use Rattle.nor_base.specs.Run.{trail, DoesTaskOnEvery}
use Rattle.nor_base.specs.Planned.{IsWorkable, ArePlanned, planned_units, IsInTheMaking}

-- planned work does the task on every chip
abbrev pub PlannedDoesTask : Type 0
PlannedDoesTask = (m : Parameters) (start : Start) (verify : Bool) (have want : List ℕ) (steps : List Step) → IsWorkable m start have want
    → ArePlanned m start verify have want steps → DoesTaskOnEvery m start have want steps

-- after each of its transactions at most one unit is in the making
abbrev pub OneUnitInTheMaking : Type 0
OneUnitInTheMaking = (m : Parameters) (start : Start) (verify : Bool) (have want : List ℕ) (steps : List Step) → IsWorkable m start have want
    → ArePlanned m start verify have want steps → (s : Setting) → IsChipOf m start s
    → AllByRecursion (λ d. IsInTheMaking (planned_units m start have want) have want d.array) (trail s (ready s have) steps)
