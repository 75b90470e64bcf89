-- The content of a chip, read as a whole (this project's).
use Rattle.std.specs.Prelude.{◌≡◌, ◌<◌, ◌≤◌, ℕ, ⊤, List, length}
use Rattle.nor_base.specs.Device.{Ahead, Gives, IsAtEnd}
use Rattle.nor_job.specs.declared.fault.BuildFault.{BuildFault}
use Rattle.nor_job.specs.declared.fault.BuildFault.TheVariants as fault
use Rattle.nor_job.specs.declared.job.Job.{Job}
use Rattle.nor_job.specs.Filled.{target_from}

-- a reader gave what a job's chip holds, and this is what the chip must hold
pub record IsRead (job : Job) (before after : Ahead) (have want : List ℕ) : Type 0 where
  pub whole : length have ≡ job.meaning.size
  pub given : Gives before have after
  pub goal : want ≡ target_from job 0 have

-- why a content of so many bytes wasn't read as a whole: the reader ended before it did; or the reader failed (its count
-- tells it), or a growth was refused
abbrev pub ReadCause : ℕ → List ℕ → Ahead → BuildFault → Type 0
ReadCause len part after fault.ContentShort = (length part < len) × IsAtEnd after
ReadCause len part after fault.Read = length part < len
ReadCause len part after fault.Memory = ⊤
ReadCause len part after other = ⊥

-- some of a content of so many bytes was read
pub record StopsRead (len : ℕ) (before after : Ahead) (why : BuildFault) : Type 0 where
  pub part : List ℕ
  pub within : length part ≤ len
  pub given : Gives before part after
  pub cause : ReadCause len part after why
