-- Which inputs a build accepts, and why it refuses the others before anything is read or written (this project's).
use Rattle.std.specs.Prelude.{◌≡◌, ◌≢◌, ◌⊎◌, ℕ, List, [], Option, Some, None}
use Rattle.nor_base.specs.Chip.{IsPossible}
use Rattle.nor_base.specs.Parameters.{Parameters}
use Rattle.nor_hex.specs.declared.fault.HexFault.{HexFault}
use Rattle.nor_hex.specs.declared.fault.HexFault.TheVariants as hex
use Rattle.nor_hex.specs.Image.{GivesBytes, Pairs}
use Rattle.nor_hex.specs.Faults.{IsImage, IsFault}
use Rattle.nor_layout.specs.declared.fault.LayoutFault.{LayoutFault}
use Rattle.nor_layout.specs.declared.fault.LayoutFault.TheVariants as layout
use Rattle.nor_layout.specs.Region.{Region}
use Rattle.nor_layout.specs.Text.{IsLayout, IsFirstFault}
use Rattle.nor_layout.specs.Chosen.{first_unknown}
use Rattle.nor_job.specs.declared.fault.BuildFault.{BuildFault}
use Rattle.nor_job.specs.declared.fault.BuildFault.TheVariants as fault
use Rattle.nor_job.specs.Chip.{ChipSays, HasChip, RefusesChip}
use Rattle.nor_job.specs.Status.{start_of, status_fault}
use Rattle.nor_job.specs.Task.{Task, contradiction}

-- the regions that the layout's text spells; without a text there are none
abbrev pub LayoutSays : Option (List ℕ) → List Region → Type 0
LayoutSays None regions = regions ≡ []
LayoutSays (Some text) regions = IsLayout text regions

-- an image that was given, which gives bytes, is the image; else that of the HEX text
abbrev pub ImageSays : Option Pairs → List ℕ → Pairs → Type 0
ImageSays None text image = IsImage text image
ImageSays (Some given) text image = (image ≡ given) × GivesBytes image

-- no contradiction, and this is the image
pub record HasImage (t : Task) (image : Pairs) : Type 0 where
  pub consistent : contradiction t ≡ None
  pub spelled : ImageSays t.image t.hex image

-- and each named region is one of the layout's
pub record HasRegions (t : Task) (image : Pairs) (regions : List Region) : Type 0 where
  pub imaged : HasImage t image
  pub layout : LayoutSays t.layout regions
  pub known : first_unknown regions t.regions ≡ None

-- and the chip has these parameters, is idle and unprotected as far as its status is told, has the mode that it begins
-- in, and as many bytes as the content
pub record AreAccepted (t : Task) (len : ℕ) (image : Pairs) (regions : List Region) (m : Parameters) : Type 0 where
  pub named : HasRegions t image regions
  pub means : ChipSays t m
  pub idle : status_fault t.status ≡ None
  pub possible : IsPossible m (start_of t)
  pub size : len ≡ m.size

-- neither contradiction, image nor layout is refused
abbrev pub AreNamed : Task → Type 0
AreNamed t = (image : Pairs) × (regions : List Region) × HasRegions t image regions

-- why there is no image: the first fault of the HEX text, where none was given; or memory ran out
pub data RefusesImage (given : Option Pairs) (text : List ℕ) : BuildFault → Type 0 where
  OfText : (why : HexFault) → given ≡ None → why ≢ hex.Memory → IsFault text why → RefusesImage given text (fault.Hex why)
  OutOfMemory : RefusesImage given text fault.Memory

-- the layout's first fault, or the first name that no region has
abbrev pub RefusesLayout : Task → LayoutFault → Type 0
RefusesLayout t layout.Memory = ⊥
RefusesLayout t (layout.UnknownRegion index) =
    (regions : List Region) × LayoutSays t.layout regions × (first_unknown regions t.regions ≡ Some index)
RefusesLayout t fault = (text : List ℕ) × (t.layout ≡ Some text) × IsFirstFault text fault

-- what a refusal says of the inputs that comes before anything is read or written; but for Memory, which says of contradictions
-- alone that there is none, no earlier cause holds
abbrev pub RefusesInputs : Task → ℕ → BuildFault → Type 0
RefusesInputs t len (fault.Contradiction number) = (contradiction t ≡ Some number) ⊎ (AreNamed t × RefusesChip t (fault.Contradiction number))
RefusesInputs t len (fault.Hex why) = (contradiction t ≡ None) × (t.image ≡ None) × (why ≢ hex.Memory) × IsFault t.hex why
RefusesInputs t len (fault.Layout why) = ((image : Pairs) × HasImage t image) × RefusesLayout t why
RefusesInputs t len (fault.Sfdp why) = AreNamed t × RefusesChip t (fault.Sfdp why)
RefusesInputs t len (fault.Sheet why) = AreNamed t × RefusesChip t (fault.Sheet why)
RefusesInputs t len (fault.Status number) = AreNamed t × RefusesChip t (fault.Status number)
RefusesInputs t len fault.ModeImpossible = AreNamed t × RefusesChip t fault.ModeImpossible
RefusesInputs t len fault.ContentSize = AreNamed t × ((m : Parameters) × HasChip t m × (len ≢ m.size))
RefusesInputs t len (fault.Plan why) = ⊥
RefusesInputs t len fault.ContentShort = ⊥
RefusesInputs t len fault.Read = ⊥
RefusesInputs t len fault.Write = ⊥
RefusesInputs t len fault.Memory = contradiction t ≡ None
