-- What the image of a job has to give, and where it has to lie (this project's).
use Rattle.std.specs.Prelude.{◌≡◌, ◌≢◌, ℕ, ◌+◌, ◌-◌, ◌^◌, ◌<◌, ◌≤◌, Bool, true, false, ◌||◌, count_by, List, length, slice_get, Option, Some, None, is_some}
use Rattle.std.specs.List.{filter_map, list_any}
use Rattle.nor_base.specs.Array.{is_filled}
use Rattle.nor_base.specs.Parameters.{Parameters}
use Rattle.nor_base.specs.Target.{is_ignored}
use Rattle.nor_hex.specs.Image.{Pairs, byte_at}
use Rattle.nor_job.specs.Causes.{AreAccepted, ImageSays, LayoutSays, RefusesInputs}
use Rattle.nor_job.specs.Shares.{HasFirstEmpty}
use Rattle.nor_job.specs.Task.{Task}
use Rattle.nor_job.specs.declared.fault.BuildFault.{BuildFault}
use Rattle.nor_job.specs.declared.fault.BuildFault.TheVariants as fault
use Rattle.nor_layout.specs.Region.{Region}
use Rattle.nor_target.specs.Shares.{chosen_regions, given_in, region_named, share_in}
use Rattle.norprog_common.specs.declared.faults.Gap.{Gap}
use Rattle.norprog_common.specs.declared.faults.Refusal.{Refusal}
use Rattle.norprog_common.specs.declared.faults.Refusal.TheVariants.{Beyond, BinLength, Build, EmptyRegion, Nowhere, Partial}
use Rattle.norprog_common.specs.declared.faults.Stray.{Stray}
use Rattle.norprog_common.specs.declared.rules.ImageRules.{ImageRules}

-- those of a job that is to be strict, and whole, and of an image that has to be as long as the chip
abbrev pub job_rules : Bool → Bool → Bool → ImageRules
job_rules strict whole exact = record { exact = exact; strict = strict; full = whole; inside = whole; lands = whole }

-- there are some
abbrev pub are_some : ImageRules → Bool
are_some rules = rules.exact || (rules.strict || (rules.full || (rules.inside || rules.lands)))

-- ---- an image and regions
-- from an address of the chip on this is the lowest to which the image gives no byte
pub record IsNextMissing (image : ℕ → Option ℕ) (base start at : ℕ) : Type 0 where
  pub from : start ≤ at
  pub missing : image (base + at) ≡ None
  pub lowest : (a : ℕ) → start ≤ a → a < at → image (base + a) ≢ None

-- the image gives each address of the region a byte
abbrev pub IsFilled : (ℕ → Option ℕ) → ℕ → Region → Type 0
IsFilled image base region = (a : ℕ) → region.start ≤ a → a ≤ region.end → image (base + a) ≢ None

-- each of the regions
abbrev pub AreFilled : (ℕ → Option ℕ) → ℕ → List Region → Type 0
AreFilled image base regions = (i : ℕ) (region : Region) → slice_get regions i ≡ Some region → IsFilled image base region

-- this is the lowest address of the region to which it gives none
pub record IsMissing (image : ℕ → Option ℕ) (base : ℕ) (region : Region) (at : ℕ) : Type 0 where
  pub next : IsNextMissing image base region.start at
  pub within : at ≤ region.end

-- one of the regions lacks a byte there, and has so many of so many; those before it lack none. No chip has the address FFFFFFFFh
pub record IsGap (image : ℕ → Option ℕ) (base : ℕ) (regions : List Region) (gap : Gap) : Type 0 where
  pub region : Region
  pub here : slice_get regions gap.index ≡ Some region
  pub missing : IsMissing image base region gap.first
  pub given : gap.given ≡ length (given_in image base (2 ^ 32 - 1) region)
  pub size : gap.size ≡ region.end + 1 - region.start
  pub earlier : (i : ℕ) (other : Region) → i < gap.index → slice_get regions i ≡ Some other → IsFilled image base other

-- ---- a job
-- the image of the task, and the regions of its layout
pub record Spells (t : Task) (image : Pairs) (regions : List Region) : Type 0 where
  pub spelled : ImageSays t.image t.hex image
  pub layout : LayoutSays t.layout regions

-- the regions that are named, in the order of the names
abbrev pub named_regions : Task → List Region → List Region
named_regions t regions = filter_map (region_named regions) t.regions

-- the image gives each address of each named region a byte
abbrev pub IsGiven : Task → Type 0
IsGiven t = (image : Pairs) × (regions : List Region) × Spells t image regions × AreFilled (byte_at image) t.base (named_regions t regions)

-- why not: this is missing; or memory ran out
pub data LacksPart (t : Task) : Refusal → Type 0 where
  Gapped : (image : Pairs) (regions : List Region) (gap : Gap) → Spells t image regions → IsGap (byte_at image) t.base (named_regions t regions) gap
      → LacksPart t (Partial gap)
  Unallotted : LacksPart t (Build fault.Memory)

-- the image's address is one of a chip of this size
pub record IsInside (base size at : ℕ) : Type 0 where
  pub from : base ≤ at
  pub to : at < base + size

abbrev pub LiesInside : Pairs → ℕ → ℕ → Type 0
LiesInside image base size = (at : ℕ) → byte_at image at ≢ None → IsInside base size at

-- this is the lowest address of the image that is none
pub record IsFirstOutside (image : Pairs) (base size at : ℕ) : Type 0 where
  pub given : byte_at image at ≢ None
  pub outside : IsInside base size at → ⊥
  pub lowest : (a : ℕ) → a < at → byte_at image a ≢ None → IsInside base size a

-- and so many addresses of the image are none
pub record IsStray (image : Pairs) (base size : ℕ) (stray : Stray) : Type 0 where
  pub first : IsFirstOutside image base size stray.first
  pub count : stray.count ≡ count_by (λ pair. is_ignored base (λ a. true) size pair.0) image

-- the image gives some of these regions of a chip a byte
abbrev pub lands_in : (ℕ → Option ℕ) → ℕ → ℕ → List Region → Bool
lands_in image base size regions = list_any (λ region. is_some (share_in image base size region)) regions

abbrev pub lands : Task → Pairs → List Region → Parameters → Bool
lands t image regions m = lands_in (byte_at image) t.base m.size (chosen_regions regions t.regions m.size)

-- of inputs that are accepted
pub record HasAll (t : Task) (len : ℕ) (Says : Pairs → List Region → Parameters → Type 0) : Type 0 where
  pub image : Pairs
  pub regions : List Region
  pub m : Parameters
  pub accepted : AreAccepted t len image regions m
  pub says : Says image regions m

-- the image of a task keeps the rules
pub record MeetsRules (rules : ImageRules) (t : Task) (len : ℕ) : Type 0 where
  pub exact : rules.exact ≡ true → HasAll t len (λ image regions m. length image ≡ m.size)
  pub strict : rules.strict ≡ true → HasFirstEmpty t len None
  pub full : rules.full ≡ true → is_filled t.regions ≡ true → IsGiven t
  pub inside : rules.inside ≡ true → HasAll t len (λ image regions m. LiesInside image t.base m.size)
  pub lands : rules.lands ≡ true → HasAll t len (λ image regions m. lands t image regions m ≡ true)

-- it breaks one; or the inputs of a task that has rules are refused
pub data BreaksRules (rules : ImageRules) (t : Task) (len : ℕ) : Refusal → Type 0 where
  Unaccepted : (why : BuildFault) → are_some rules ≡ true → RefusesInputs t len why → BreaksRules rules t len (Build why)
  Unlike : (given : ℕ) (wanted : ℕ) → rules.exact ≡ true → HasAll t len (λ image regions m. (given ≡ length image) × (wanted ≡ m.size) × (given ≢ wanted))
      → BreaksRules rules t len (BinLength (record { given = given; wanted = wanted }))
  Empty : (index : ℕ) → rules.strict ≡ true → HasFirstEmpty t len (Some index) → BreaksRules rules t len (EmptyRegion index)
  Lacking : (why : Refusal) → rules.full ≡ true → LacksPart t why → BreaksRules rules t len why
  Straying : (stray : Stray) → rules.inside ≡ true → HasAll t len (λ image regions m. IsStray image t.base m.size stray) → BreaksRules rules t len (Beyond stray)
  Landless : rules.lands ≡ true → HasAll t len (λ image regions m. lands t image regions m ≡ false) → BreaksRules rules t len Nowhere
  OutOfMemory : BreaksRules rules t len (Build fault.Memory)
