-- The chip that a command line asks for which does no build, and how it begins (this project's).
use Rattle.std.specs.Prelude.{◌≡◌, ◌⊎◌, ℕ, Bool, false, ◌&&◌, List, [], Option, None, Some, option_map, unwrap_or, is_some, codes}
use Rattle.nor_base.specs.Parameters.{Parameters}
use Rattle.nor_job.specs.declared.fault.BuildFault.TheVariants as fault
use Rattle.nor_job.specs.Chip.{HasChip, RefusesChip}
use Rattle.nor_job.specs.Task.{Task, contradiction}
use Rattle.norprog_common.specs.Chip.{Origin, origin_of, chosen_origin, task_chip}
use Rattle.norprog_common.specs.Values.{part_of, said_status}
use Rattle.norprog_common.specs.declared.faults.Refusal.{Refusal}
use Rattle.norprog_common.specs.declared.faults.Refusal.TheVariants.{Build}
use Rattle.norprog_common.specs.declared.given.ChipArgs.{ChipArgs}
use Rattle.norprog_common.specs.declared.given.SetupArgs.{SetupArgs}
use Rattle.norprog_common.specs.declared.setup.Setup.{Setup}

-- the chip that the options name, and the family's name, `generic` where none is given
abbrev pub chip_asked : ChipArgs → Option Origin
chip_asked given =
    chosen_origin (option_map (λ t. t.now) given.sfdp) (option_map (λ t. t.now) given.uniform) (option_map (λ t. t.now) given.sheet)
    (option_map (λ t. t.now) given.bits)

abbrev pub family_asked : ChipArgs → List ℕ
family_asked given = unwrap_or (option_map (λ t. t.now) given.part) (codes "generic")

-- a chip and a family are named, and the status is of its form
abbrev pub is_setup : SetupArgs → Bool
is_setup given =
    is_some (chip_asked given.chip) && is_some (part_of (family_asked given.chip)) && is_some (said_status (option_map (λ t. t.now) given.status))

-- each value is the one that its text spells, and of the page nothing is said
pub record AsksSetup (given : SetupArgs) (setup : Setup) : Type 0 where
  pub chip : chip_asked given.chip ≡ Some (origin_of setup.chip)
  pub part : part_of (family_asked given.chip) ≡ Some setup.part
  pub status : said_status (option_map (λ t. t.now) given.status) ≡ Some setup.status
  pub mode4 : setup.mode4 ≡ given.mode4
  pub quad : setup.quad ≡ given.quad
  pub erased_only : setup.erased_only ≡ given.erased_only
  pub page : setup.page ≡ None

-- the task of a chip whose tables are these bytes; it has neither image nor layout
abbrev pub setup_task : Setup → List ℕ → Task
setup_task setup tables = record {
  hex = [];
  image = None;
  layout = None;
  regions = [];
  chip = task_chip (origin_of setup.chip) tables;
  part = setup.part;
  status = setup.status;
  mode4 = setup.mode4;
  quad = setup.quad;
  base = 0;
  verify = false;
  erased_only = setup.erased_only;
  page = setup.page;
}

-- the inputs don't contradict one another, and give the chip these parameters
pub record IsKnown (t : Task) (m : Parameters) : Type 0 where
  pub consistent : contradiction t ≡ None
  pub chip : HasChip t m

-- why there is no such chip; no earlier cause holds
abbrev pub RefusesChipOf : Task → Refusal → Type 0
RefusesChipOf t (Build (fault.Contradiction number)) =
    (contradiction t ≡ Some number) ⊎ ((contradiction t ≡ None) × RefusesChip t (fault.Contradiction number))
RefusesChipOf t (Build (fault.Sfdp why)) = (contradiction t ≡ None) × RefusesChip t (fault.Sfdp why)
RefusesChipOf t (Build (fault.Sheet why)) = (contradiction t ≡ None) × RefusesChip t (fault.Sheet why)
RefusesChipOf t (Build (fault.Status number)) = (contradiction t ≡ None) × RefusesChip t (fault.Status number)
RefusesChipOf t (Build fault.ModeImpossible) = (contradiction t ≡ None) × RefusesChip t fault.ModeImpossible
RefusesChipOf t other = ⊥
