-- Which part of a chip is read (this project's).
use Rattle.std.specs.Prelude.{◌≡◌, ◌<◌, ◌≤◌, ◌+◌, ◌^◌, ◌&&◌, ◌||◌, ℕ, Bool, true, false, not, is_some, List, [], Option, None, Some}
use Rattle.nor_hex.specs.Image.{byte_at, Pairs}
use Rattle.nor_job.specs.Causes.{HasRegions, RefusesInputs}
use Rattle.nor_job.specs.declared.fault.BuildFault.{BuildFault}
use Rattle.nor_job.specs.Task.{Task}
use Rattle.nor_layout.specs.Chosen.{is_chosen}
use Rattle.nor_layout.specs.Region.{Region}
use Rattle.norprog_common.specs.declared.faults.Refusal.{Refusal}
use Rattle.norprog_common.specs.declared.faults.Refusal.TheVariants.{Build}
use Rattle.norprog_flash.specs.declared.job.Job.{Job}
use Rattle.norprog_flash.specs.Task.{flash_task}
use Rattle.norprog_read.specs.declared.asked.Span.{Span}

-- the address is chosen, and an image gives it a byte, whose address 0 takes the one at `base`
pub record Gets (image : Pairs) (base : ℕ) (choice : ℕ → Bool) (a : ℕ) : Type 0 where
  pub chosen : choice a ≡ true
  pub below : base + a < 2 ^ 32
  pub given : is_some (byte_at image (base + a)) ≡ true

-- so by a task's image and layout
abbrev pub GetsByte : Task → Pairs → List Region → ℕ → Type 0
GetsByte t image regions a = Gets image t.base (is_chosen regions t.regions) a

-- the address is one of these
abbrev pub LiesIn : Span → ℕ → Type 0
LiesIn span a = (span.low ≤ a) × (a < span.high)

-- each address that gets a byte of a task's image is one of these
abbrev pub Spans : Task → Span → Type 0
Spans t span = (image : Pairs) (regions : List Region) → HasRegions t image regions → (a : ℕ) → GetsByte t image regions a → LiesIn span a

-- no more than the part of a chip is to be read that the image is for: that is asked for, and the image isn't a blank one
abbrev pub goes_near : Job → Bool
goes_near job = job.near && not job.blank

-- a chip may be larger, or not all of it is read
abbrev pub may_go_on : Job → Bool
may_go_on job = job.ask.any_size || goes_near job

-- near which addresses the chip of a job is read: all of it is; or only these, of which each is that gets a byte
pub data IsNear (job : Job) : Option Span → Type 0 where
  All : goes_near job ≡ false → IsNear job None
  Around : (span : Span) → goes_near job ≡ true → Spans (flash_task job [] 0) span → IsNear job (Some span)

-- these can't be told, since the inputs are refused, whatever the chip
pub data RefusesNear (job : Job) : Refusal → Type 0 where
  Unspanned : (fault : BuildFault) → goes_near job ≡ true → ((len : ℕ) → RefusesInputs (flash_task job [] 0) len fault) → RefusesNear job (Build fault)

-- no address from this one on gets a byte
abbrev pub GetsNone : (ℕ → Type 0) → ℕ → Type 0
GetsNone gets from = (a : ℕ) → from ≤ a → gets a → ⊥

-- each address from one up to another, which is past `from`, gets a byte; none does from `from` on and before them
pub record IsNextPiece (gets : ℕ → Type 0) (from : ℕ) (piece : ℕ × ℕ) : Type 0 where
  pub past : from < piece.1
  pub order : piece.0 ≤ piece.1
  pub upto : piece.1 ≤ 2 ^ 32
  pub none_before : (a : ℕ) → from ≤ a → a < piece.0 → gets a → ⊥
  pub each : (a : ℕ) → piece.0 ≤ a → a < piece.1 → gets a
