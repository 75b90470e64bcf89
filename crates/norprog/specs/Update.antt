-- The update of a chip, from what it holds to what it must hold (this project's).
use Rattle.std.specs.Prelude.{ℕ, Bool, ◌<◌, ⊤, List, length}
use Rattle.nor_base.specs.declared.meaning.Start.{Start}
use Rattle.nor_base.specs.declared.step.Step.{Step}
use Rattle.nor_base.specs.Device.{Ahead, IsAtEnd}
use Rattle.nor_base.specs.Parameters.{Parameters}
use Rattle.nor_base.specs.Planned.{ArePlanned, IsWorkable}
use Rattle.nor_base.specs.Strategies.{strategy}
use Rattle.nor_geometry.specs.Plan.{IsFault}
use Rattle.nor_hex.specs.Image.{Pairs}
use Rattle.nor_job.specs.declared.fault.BuildFault.{BuildFault}
use Rattle.nor_job.specs.declared.fault.BuildFault.TheVariants as fault
use Rattle.nor_job.specs.Status.{start_of}
use Rattle.nor_job.specs.Task.{Task}
use Rattle.nor_job.specs.Wanted.{wanted}
use Rattle.nor_layout.specs.Region.{Region}

-- an update: the chip's parameters and how it begins, whether what is written is read back, what the chip holds and what it must hold
pub record Update : Type 0 where
  pub m : Parameters
  pub start : Start
  pub verify : Bool
  pub have : List ℕ
  pub want : List ℕ

abbrev pub update : Parameters → Start → Bool → List ℕ → List ℕ → Update
update m start verify have want = record { m = m; start = start; verify = verify; have = have; want = want }

-- what the inputs ask of a content
abbrev pub asked : Task → Pairs → List Region → Parameters → List ℕ → Update
asked t image regions m content = update m (start_of t) t.verify content (wanted t image regions content)

-- work can do it
abbrev pub CanBeDone : Update → Type 0
CanBeDone u = IsWorkable u.m u.start u.have u.want

-- the steps are those of its planned work
abbrev pub IsDoneBy : Update → List Step → Type 0
IsDoneBy u steps = ArePlanned u.m u.start u.verify u.have u.want steps

-- why the work on what was read of a content ended early: the reader ended before the content did; whatever the rest of the chip
-- holds, the address that is named is the lowest at fault; a device failed (its count tells it), or a growth was refused
abbrev pub WorkCause : Update → Ahead → BuildFault → Type 0
WorkCause u after fault.ContentShort = (length u.have < u.m.size) × IsAtEnd after
WorkCause u after (fault.Plan why) = IsFault u.m (strategy u.m u.start) 0 u.have u.want why
WorkCause u after fault.Read = ⊤
WorkCause u after fault.Write = ⊤
WorkCause u after fault.Memory = ⊤
WorkCause u after other = ⊥
