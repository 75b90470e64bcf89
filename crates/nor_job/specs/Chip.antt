-- What the inputs of a build say of the chip, and why they are refused for it (this project's; the meaning of SFDP bytes is JESD216B's).
use Rattle.std.specs.Prelude.{◌≡◌, ℕ, Bool, true, false, ◌%◌, ◌^◌, ◌==◌, ◌&&◌, nat_le, not, if◌then◌else◌, Option, Some, None, Result, Ok, Err}
use Rattle.std.specs.List.{list_any}
use Rattle.nor_base.specs.declared.meaning.Part.{Part}
use Rattle.nor_base.specs.declared.meaning.Width.TheVariants.{Three}
use Rattle.nor_base.specs.Chip.{IsPossible, may_page}
use Rattle.nor_base.specs.Parameters.{Parameters}
use Rattle.nor_base.specs.Uniform.{uniform_of}
use Rattle.nor_sfdp.specs.declared.fault.SfdpFault.{SfdpFault}
use Rattle.nor_sfdp.specs.declared.fault.SfdpFault.TheVariants.{Density}
use Rattle.nor_sfdp.specs.Reading.{meaning_of}
use Rattle.nor_sheet.specs.declared.fault.SheetFault.{SheetFault}
use Rattle.nor_sheet.specs.Meaning.{is_below}
use Rattle.nor_sheet.specs.Text.{IsSheet, Refuses}
use Rattle.nor_job.specs.declared.fault.BuildFault.{BuildFault}
use Rattle.nor_job.specs.declared.fault.BuildFault.TheVariants as fault
use Rattle.nor_job.specs.Status.{start_of, status_fault}
use Rattle.nor_job.specs.Task.{Task, Origin, Sfdp, Uniform, Sheet}

-- what a size alone says of a chip: it is a multiple of 4096 from 4096 to 16 MiB
unfoldable pub uniform_says : ℕ → Result Parameters SfdpFault
uniform_says size = if nat_le 4096 size && (nat_le size (2 ^ 24) && (size % 4096 == 0)) then Ok (uniform_of size) else Err Density

-- the chip has this meaning by its SFDP bytes, its size or its sheet
abbrev pub OriginSays : Origin → Part → Parameters → Type 0
OriginSays (Sfdp bytes bits) part m = meaning_of bytes bits part ≡ Ok m
OriginSays (Uniform size) part m = uniform_says size ≡ Ok m
OriginSays (Sheet text) part m = IsSheet text m

-- a chip of this meaning may have a page of so many bytes, and has no erase of fewer
abbrev pub fits : Parameters → ℕ → Bool
fits m page = may_page m page && not (list_any (is_below page) m.erases)

-- a meaning with the page that was said, where a chip of it may have that
abbrev pub paged : Option ℕ → Parameters → Option Parameters
paged None m = Some m
paged (Some page) m = if fits m page then Some (record m { page = page; open_page = false }) else None

-- a meaning, under the profile that programs erased bytes alone where it is asked for
abbrev pub profiled : Bool → Parameters → Parameters
profiled erased_only m = if erased_only then record m { erased_only = true } else m

-- a chip of this origin has these parameters, with the page that was said, under that profile where it is asked for
pub record IsMeaning (origin : Origin) (part : Part) (page : Option ℕ) (erased_only : Bool) (m : Parameters) : Type 0 where
  pub own : Parameters
  pub says : OriginSays origin part own
  pub its : Parameters
  pub with_page : paged page own ≡ Some its
  pub profile : m ≡ profiled erased_only its

abbrev pub ChipSays : Task → Parameters → Type 0
ChipSays t m = IsMeaning t.chip t.part t.page t.erased_only m

-- the inputs give the chip these parameters, it is idle and unprotected as far as its status is told, and it has the mode that it begins in
pub record HasChip (t : Task) (m : Parameters) : Type 0 where
  pub means : ChipSays t m
  pub idle : status_fault t.status ≡ None
  pub possible : IsPossible m (start_of t)

-- why SFDP bytes or a size give no meaning
abbrev pub RefusesTables : Origin → Part → SfdpFault → Type 0
RefusesTables (Sfdp bytes bits) part why = meaning_of bytes bits part ≡ Err why
RefusesTables (Uniform size) part why = uniform_says size ≡ Err why
RefusesTables (Sheet text) part why = ⊥

-- why a sheet gives none
abbrev pub RefusesSheet : Origin → SheetFault → Type 0
RefusesSheet (Sfdp bytes bits) why = ⊥
RefusesSheet (Uniform size) why = ⊥
RefusesSheet (Sheet text) why = Refuses text why

-- what a refusal for the chip says of the inputs; no earlier cause of these holds
abbrev pub RefusesChip : Task → BuildFault → Type 0
RefusesChip t (fault.Contradiction number) = (number ≡ 6) × ((m : Parameters) × OriginSays t.chip t.part m × (paged t.page m ≡ None))
RefusesChip t (fault.Sfdp why) = RefusesTables t.chip t.part why
RefusesChip t (fault.Sheet why) = RefusesSheet t.chip why
RefusesChip t (fault.Status number) = ((m : Parameters) × ChipSays t m) × (status_fault t.status ≡ Some number)
RefusesChip t fault.ModeImpossible =
    (m : Parameters) × ChipSays t m × (status_fault t.status ≡ None) × ((start_of t).mode4 ≡ true) × (m.width ≡ Three)
RefusesChip t fault = ⊥
