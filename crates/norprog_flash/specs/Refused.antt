-- Why there is no planned work (this project's).
use Rattle.std.specs.Prelude.{◌⊎◌, ⊤, ℕ, List, length}
use Rattle.nor_base.specs.declared.meaning.Start.{Start}
use Rattle.nor_base.specs.Parameters.{Parameters}
use Rattle.nor_base.specs.Strategies.{strategy}
use Rattle.nor_geometry.specs.Plan.{IsFaultOf}
use Rattle.nor_hex.specs.Image.{Pairs}
use Rattle.nor_job.specs.declared.fault.BuildFault.{BuildFault}
use Rattle.nor_job.specs.declared.fault.BuildFault.TheVariants as fault
use Rattle.nor_job.specs.Causes.{AreAccepted, RefusesInputs}
use Rattle.nor_job.specs.Status.{start_of}
use Rattle.nor_job.specs.Task.{Task}
use Rattle.nor_job.specs.Wanted.{wanted}
use Rattle.nor_layout.specs.Region.{Region}

-- the lowest address of the chip at fault; or a growth was refused
abbrev pub IsCause : Parameters → Start → List ℕ → List ℕ → BuildFault → Type 0
IsCause m start content goal (fault.Plan why) = IsFaultOf m (strategy m start) 0 content goal (length content) why
IsCause m start content goal fault.Memory = ⊤
IsCause m start content goal other = ⊥

-- what is reported of a fault of a plan whose inputs are accepted and whose content and lines are in memory
abbrev pub late : BuildFault → BuildFault
late (fault.Plan why) = fault.Plan why
late other = fault.Memory

-- the inputs are accepted, and the plan to the target of the old bytes stopped for that cause
pub record StopsPlanning (t : Task) (content old : List ℕ) (why : BuildFault) : Type 0 where
  pub image : Pairs
  pub regions : List Region
  pub m : Parameters
  pub accepted : AreAccepted t (length content) image regions m
  pub cause : IsCause m (start_of t) content (wanted t image regions old) why

-- the inputs are refused; or so
abbrev pub RefusesWork : Task → List ℕ → List ℕ → BuildFault → Type 0
RefusesWork t content old why = RefusesInputs t (length content) why ⊎ StopsPlanning t content old why
