-- What the log of a device's work says (this project's).
use Rattle.std.specs.Prelude.{ℕ, List, Option}
use Rattle.nor_base.specs.declared.meaning.Start.{Start}
use Rattle.nor_base.specs.declared.step.Step.{Step}
use Rattle.nor_base.specs.Chip.{Setting, Chip}
use Rattle.nor_base.specs.Device.{Ahead}
use Rattle.nor_base.specs.Parameters.{Parameters}
use Rattle.nor_base.specs.Wire.{Wire, wire}
use Rattle.nor_loop.specs.Log.{Operation, HasLogged}
use Rattle.nor_loop.specs.Loop.{EveryChipEnds, EveryChipHoldsPart, MayBe, Work}
use Rattle.nor_loop.specs.Reads.{Chunk}
use Rattle.nor_loop.specs.Steps.{next_clocks}

-- what went out and came back is a log. Every ready chip that explains it ends with the goal of what it held, and some chip explains it
pub record ClosesLoop (old new : Wire) (m : Parameters) (start : Start) (goal : List ℕ → List ℕ) : Type 0 where
  pub log : List Operation
  pub wire : HasLogged old new log
  pub every : EveryChipEnds m start goal log
  pub some : (s : Setting) × (held : List ℕ) × (after : Chip) × MayBe m start log s held after

-- what went out and was answered before a row of steps, of which the first stopped, is a log. Every chip that explains the log has at most
-- one unit in the making, also after it did some of the row, of a poll any number of status reads
pub record BreaksLoop (before : Wire) (w : Work) (c : Chunk) (row : List Step) : Type 0 where
  pub held : Option (List ℕ)
  pub ahead : Ahead
  pub log : List Operation
  pub wire : HasLogged before (wire held ahead) log
  pub every : (reads : ℕ) → EveryChipHoldsPart w c log (next_clocks reads row)
