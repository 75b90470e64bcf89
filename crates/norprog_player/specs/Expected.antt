-- What is played, and what the chip behind a device has to be (this project's).
use Rattle.std.specs.Prelude.{ℕ, Bool, List}
use Rattle.nor_base.specs.declared.meaning.Part.{Part}
use Rattle.nor_base.specs.declared.meaning.Start.{Start}
use Rattle.nor_base.specs.declared.step.Step.{Step}
use Rattle.nor_base.specs.Parameters.{Parameters}
use Rattle.norprog_player.specs.declared.expected.Expected.{Expected}

-- its part, how it begins, the tables that it has to have, and whether it is trusted
pub record Expectation : Type 0 where
  pub part : Part
  pub start : Start
  pub tables : List ℕ
  pub trusted : Bool

abbrev pub expectation_of : Expected → Expectation
expectation_of e = record { part = e.part; start = e.start; tables = e.tables.now; trusted = e.trusted }

-- what is played: steps, on a chip that is to be so, of this meaning and content; and the most status reads of one poll
pub record Play : Type 0 where
  pub steps : List Step
  pub expected : Expectation
  pub meaning : Parameters
  pub content : List ℕ
  pub limit : ℕ

abbrev pub play_of : List Step → Expectation → Parameters → List ℕ → ℕ → Play
play_of steps expected m content limit = record { steps = steps; expected = expected; meaning = m; content = content; limit = limit }
