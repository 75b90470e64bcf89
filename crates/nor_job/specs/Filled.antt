-- A stretch of the content that a reader filled, and its target (this project's).
use Rattle.std.specs.Prelude.{ℕ, ◌<◌, ⊤, List, length, map, Result, Ok, Err}
use Rattle.std.specs.List.{enumerate_from}
use Rattle.nor_base.specs.Device.{Ahead, Gives, IsAtEnd}
use Rattle.nor_base.specs.Target.{target_byte}
use Rattle.nor_hex.specs.Image.{byte_at}
use Rattle.nor_job.specs.declared.fault.BuildFault.{BuildFault}
use Rattle.nor_job.specs.declared.fault.BuildFault.TheVariants as fault
use Rattle.nor_job.specs.declared.job.Job.{Job}
use Rattle.nor_layout.specs.Chosen.{has}

-- the target of a part of the content that begins at an address
abbrev pub target_from : Job → ℕ → List ℕ → List ℕ
target_from job at part = map (λ p. target_byte (byte_at job.image) job.base (has job.chosen) p.0 p.1) (enumerate_from at part)

-- why a window wasn't filled: the reader ended, or it failed
abbrev pub WindowCause : Ahead → BuildFault → Type 0
WindowCause after fault.ContentShort = IsAtEnd after
WindowCause after fault.Read = ⊤
WindowCause after other = ⊥

-- a window was filled; or fewer bytes were read
abbrev pub FillsWindow : Ahead → Ahead → Result (Unit {0}) BuildFault → List ℕ → Type 0
FillsWindow before after (Ok u) window = Gives before window after
FillsWindow before after (Err why) window = (part : List ℕ) × (length part < length window) × Gives before part after × WindowCause after why
