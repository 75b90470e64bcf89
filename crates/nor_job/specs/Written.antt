-- What was read and written for a job, and which device's count of failures rose where it ended early.
use Rattle.std.specs.Prelude.{◌≡◌, ◌<◌, ℕ, List, Option, Result, Ok, Err, slice_index}
use Rattle.nor_base.specs.Device.{raised, Ahead}
use Rattle.nor_job.specs.declared.fault.BuildFault.{BuildFault}
use Rattle.nor_job.specs.declared.fault.BuildFault.TheVariants as fault

-- what a reader had ahead and has, and what a writer held and holds
pub record Passed : Type 0 where
  pub ahead : Ahead
  pub rest : Ahead
  pub begun : Option (List ℕ)
  pub ended : Option (List ℕ)

abbrev pub passed : Ahead → Ahead → Option (List ℕ) → Option (List ℕ) → Passed
passed ahead rest begun ended = record { ahead = ahead; rest = rest; begun = begun; ended = ended }

abbrev pub of_writer : BuildFault → ℕ
of_writer fault.Write = 1
of_writer other = 0

abbrev pub of_reader : BuildFault → ℕ
of_reader fault.Read = 1
of_reader other = 0

-- the writer's count of failures rises by one exactly where Write is answered
abbrev pub CountsWriter : {T : Type 0} → ℕ → ℕ → Result T BuildFault → Type 0
CountsWriter before after (Ok x) = after ≡ before
CountsWriter before after (Err fault) = after ≡ raised before (of_writer fault)

-- the reader's count of failures rises by one exactly where Read is answered
abbrev pub CountsReader : {T : Type 0} → ℕ → ℕ → Result T BuildFault → Type 0
CountsReader before after (Ok x) = after ≡ before
CountsReader before after (Err fault) = after ≡ raised before (of_reader fault)

-- numbers below 256
abbrev pub AreBytes : List ℕ → Type 0
AreBytes bytes = (k : ℕ) → slice_index bytes k < 256
