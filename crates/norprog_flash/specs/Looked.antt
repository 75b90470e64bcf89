-- What shows of a job without what its chip holds (this project's).
use Rattle.std.specs.Prelude.{◌≡◌, ℕ, ⊤, Bool, true, false}
use Rattle.nor_base.specs.Parameters.{Parameters}
use Rattle.nor_job.specs.declared.fault.BuildFault.{BuildFault}
use Rattle.nor_job.specs.declared.fault.BuildFault.TheVariants as fault
use Rattle.nor_job.specs.Causes.{AreNamed, RefusesInputs}
use Rattle.nor_job.specs.Chip.{HasChip}
use Rattle.nor_job.specs.Task.{Task}

-- a fault shows without the content; one of the chip only where that is known
abbrev pub shows_early : Bool → BuildFault → Bool
shows_early known (fault.Sfdp why) = known
shows_early known (fault.Sheet why) = known
shows_early known (fault.Status number) = known
shows_early known fault.ModeImpossible = known
shows_early known fault.ContentSize = false
shows_early known other = true

-- where the chip is known, it has a meaning and the mode that it begins in
abbrev pub IfKnown : Bool → Task → Type 0
IfKnown true t = (m : Parameters) × HasChip t m
IfKnown false t = ⊤

-- neither contradiction, image nor layout is refused, nor is a chip that is known
abbrev pub IsSoundEarly : Bool → Task → Type 0
IsSoundEarly known t = AreNamed t × IfKnown known t

-- such a fault refuses a build, whatever the length of the content
abbrev pub RefusesEarly : Bool → Task → BuildFault → Type 0
RefusesEarly known t why = (shows_early known why ≡ true) × ((len : ℕ) → RefusesInputs t len why)
