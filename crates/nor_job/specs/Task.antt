-- What a build is asked for, as plain data, and when its parts contradict one another (this project's).
use Rattle.std.specs.Prelude.{ℕ, Bool, true, false, not, ◌&&◌, ◌||◌, if◌then◌else◌, List, Option, Some, None, is_some, option_map}
use Rattle.nor_base.specs.declared.meaning.Part.{Part}
use Rattle.nor_base.specs.Array.{is_filled}
use Rattle.nor_hex.specs.Image.{Pairs}
use Rattle.nor_sfdp.specs.Reading.{is_generic}
use Rattle.nor_job.specs.declared.inputs.Source.{Source}
use Rattle.nor_job.specs.declared.inputs.Source.TheVariants as source
use Rattle.nor_job.specs.declared.inputs.Inputs.TheInside.{Inside}

-- where the meaning of a chip comes from: its SFDP bytes and configuration bits, a size, or a sheet
pub data Origin : Type 0 where
  Sfdp : List ℕ → List ℕ → Origin
  Uniform : ℕ → Origin
  Sheet : List ℕ → Origin

abbrev pub origin_of : Source → Origin
origin_of (source.Sfdp bytes bits) = Sfdp bytes.now bits.now
origin_of (source.Uniform size) = Uniform size
origin_of (source.Sheet text) = Sheet text.now

pub record Task : Type 0 where
  pub hex : List ℕ
  pub image : Option Pairs
  pub layout : Option (List ℕ)
  pub regions : List (List ℕ)
  pub chip : Origin
  pub part : Part
  pub status : Option ℕ
  pub mode4 : Bool
  pub quad : Bool
  pub base : ℕ
  pub verify : Bool
  pub erased_only : Bool
  pub page : Option ℕ

abbrev pub task_of : Inside → Task
task_of inputs = record {
  hex = inputs.hex.now;
  image = option_map (λ image. image.now) inputs.image;
  layout = option_map (λ text. text.now) inputs.layout;
  regions = inputs.regions.now;
  chip = origin_of inputs.chip;
  part = inputs.part;
  status = inputs.status;
  mode4 = inputs.mode4;
  quad = inputs.quad;
  base = inputs.base;
  verify = inputs.verify;
  erased_only = inputs.erased_only;
  page = inputs.page;
}

abbrev pub has_no_tables : Origin → Bool
has_no_tables (Sfdp bytes bits) = false
has_no_tables (Uniform size) = true
has_no_tables (Sheet text) = true

-- the first contradiction of the inputs: regions without a layout; a status with part Generic; a status together with
-- `mode4` or `quad`; a chip without SFDP bytes of another part
unfoldable pub contradiction : Task → Option ℕ
contradiction t =
    if not (is_some t.layout) && is_filled t.regions then Some 1
    else if is_some t.status && is_generic t.part then Some 2
    else if is_some t.status && (t.mode4 || t.quad) then Some 3
    else if has_no_tables t.chip && not (is_generic t.part) then Some 4
    else None
