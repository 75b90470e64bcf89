-- What shows of a job before its chip is read (this project's).
use Rattle.std.specs.Prelude.{◌≡◌, ◌⊎◌, ◌&&◌, not, ℕ, Bool, true, false, is_some, List, []}
use Rattle.nor_base.specs.Array.{is_filled}
use Rattle.nor_base.specs.Parameters.{Parameters}
use Rattle.nor_job.specs.Chip.{HasChip, RefusesChip}
use Rattle.nor_job.specs.declared.fault.BuildFault.{BuildFault}
use Rattle.nor_job.specs.Task.{Task}
use Rattle.nor_job.specs.declared.fault.BuildFault.TheVariants.{Contradiction, Memory}
use Rattle.norprog_common.specs.Rules.{BreaksRules, IsGiven, LacksPart, MeetsRules}
use Rattle.norprog_common.specs.declared.faults.Refusal.{Refusal}
use Rattle.norprog_common.specs.declared.faults.Refusal.TheVariants.{Build}
use Rattle.norprog_common.specs.declared.rules.ImageRules.{ImageRules}
use Rattle.norprog_flash.specs.declared.job.Job.{Job}
use Rattle.norprog_flash.specs.Task.{flash_task}
use Rattle.norprog_read.specs.declared.asked.Known.{Known}
use Rattle.norprog_read.specs.declared.asked.Known.TheVariants.{Own, Tables}
use Rattle.norprog_flash.specs.Looked as work

-- a chip is known by a file of its tables, by its size or by its sheet, and not by its own tables
abbrev pub is_known : Known → Bool
is_known Own = false
is_known other = true

-- the tables of the file, where there is one
abbrev pub file_tables : Known → List ℕ
file_tables (Tables file) = file.now
file_tables other = []

abbrev pub early_task : Job → Task
early_task job = flash_task job (file_tables job.ask.known) 0

-- there is a layout, and none of its regions is named
abbrev pub is_unnamed : Job → Bool
is_unnamed job = is_some job.layout && not (is_filled job.regions.now)

-- the image of a task keeps the rules, as far as that shows: of a chip that isn't known, that it gives each address of each named region a byte
abbrev pub MeetsEarly : ImageRules → Bool → Task → Type 0
MeetsEarly rules false t = rules.full ≡ true → is_filled t.regions ≡ true → IsGiven t
MeetsEarly rules true t = (m : Parameters) × HasChip t m × MeetsRules rules t m.size

-- it breaks one; or the chip is refused
abbrev pub BreaksEarly : ImageRules → Bool → Task → Refusal → Type 0
BreaksEarly rules false t why = (rules.full ≡ true) × LacksPart t why
BreaksEarly rules true t why = ((fault : BuildFault) × (why ≡ Build fault) × RefusesChip t fault) ⊎ ((size : ℕ) × BreaksRules rules t size why)

-- the job has no fault that shows before its chip is read
pub record IsSoundEarly (job : Job) : Type 0 where
  pub named : is_unnamed job ≡ false
  pub sound : work.IsSoundEarly (is_known job.ask.known) (early_task job)
  pub meets : MeetsEarly job.rules (is_known job.ask.known) (early_task job)

-- it has this one
pub data RefusesEarly (job : Job) : Refusal → Type 0 where
  Unnamed : is_unnamed job ≡ true → RefusesEarly job (Build (Contradiction 5))
  Unsound : (why : BuildFault) → is_unnamed job ≡ false → work.RefusesEarly (is_known job.ask.known) (early_task job) why → RefusesEarly job (Build why)
  NoMemory : RefusesEarly job (Build Memory)
  Breaking : (why : Refusal) → BreaksEarly job.rules (is_known job.ask.known) (early_task job) why → RefusesEarly job why
