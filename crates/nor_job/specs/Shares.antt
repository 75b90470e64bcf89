-- What the image of a job gives its chosen regions (this project's).
use Rattle.std.specs.Prelude.{◌≡◌, ℕ, List, Option, Some}
use Rattle.nor_base.specs.Parameters.{Parameters}
use Rattle.nor_hex.specs.Image.{Pairs, byte_at}
use Rattle.nor_layout.specs.Region.{Region}
use Rattle.nor_target.specs.Shares.{chosen_regions, first_empty}
use Rattle.nor_job.specs.Causes.{AreAccepted}
use Rattle.nor_job.specs.Task.{Task}

-- the index, from 0, of the first chosen region to which the image gives no byte
abbrev pub first_empty_of : Task → Pairs → List Region → Parameters → Option ℕ
first_empty_of t image regions m = first_empty (byte_at image) t.base m.size (chosen_regions regions t.regions m.size)

-- the inputs are accepted, and this is the index of the first chosen region to which their image gives no byte, or there is none
pub record HasFirstEmpty (t : Task) (len : ℕ) (index : Option ℕ) : Type 0 where
  pub image : Pairs
  pub regions : List Region
  pub m : Parameters
  pub accepted : AreAccepted t len image regions m
  pub empty : first_empty_of t image regions m ≡ index

-- the inputs aren't accepted, or their image gives each chosen region a byte
abbrev pub HasNoneEmpty : Task → ℕ → Type 0
HasNoneEmpty t len = (index : ℕ) → HasFirstEmpty t len (Some index) → ⊥
