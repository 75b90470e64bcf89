-- Why what a chip holds wasn't read, and what reader and writer count of it (this project's).
use Rattle.std.specs.Prelude.{◌≡◌, ℕ, ◌<◌, List, length, Result, Ok, Err}
use Rattle.nor_base.specs.Device.{Ahead, Gives, IsAtEnd, raised}
use Rattle.nor_job.specs.declared.fault.BuildFault.TheVariants as fault
use Rattle.norprog_common.specs.declared.faults.Refusal.{Refusal}
use Rattle.norprog_common.specs.declared.faults.Refusal.TheVariants.{Build}

-- fewer bytes than the content has were read
abbrev pub ReadsLess : ℕ → Ahead → Ahead → Type 0
ReadsLess len before after = (part : List ℕ) × (length part < len) × Gives before part after

-- it ended, the reader failed, or memory was refused before anything was read
abbrev pub StopsReading : ℕ → Ahead → Ahead → Refusal → Type 0
StopsReading len before after (Build fault.ContentShort) = ReadsLess len before after × IsAtEnd after
StopsReading len before after (Build fault.Read) = ReadsLess len before after
StopsReading len before after (Build fault.Memory) = after ≡ before
StopsReading len before after other = ⊥

abbrev pub of_reader : Refusal → ℕ
of_reader (Build fault.Read) = 1
of_reader other = 0

-- the reader's count of failures rises by one exactly where Read is answered
abbrev pub CountsReader : {T : Type 0} → ℕ → ℕ → Result T Refusal → Type 0
CountsReader before after (Ok x) = after ≡ before
CountsReader before after (Err why) = after ≡ raised before (of_reader why)

abbrev pub of_writer : Refusal → ℕ
of_writer (Build fault.Write) = 1
of_writer other = 0

-- the writer's count of failures rises by one exactly where Write is answered
abbrev pub CountsWriter : {T : Type 0} → ℕ → ℕ → Result T Refusal → Type 0
CountsWriter before after (Ok x) = after ≡ before
CountsWriter before after (Err why) = after ≡ raised before (of_writer why)
