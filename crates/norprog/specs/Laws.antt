-- The laws by which planned work does what a build promises (this project's).
use Rattle.nor_laws.specs.Laws.{EventsAreTrail}
use Rattle.nor_laws.specs.Spelling.{HasSpelling}
use Rattle.nor_plan_laws.specs.Exists.{PlannedCanBeSpelled}
use Rattle.nor_plan_laws.specs.Fewest.{NoScriptProgramsLess}
use Rattle.nor_plan_laws.specs.Laws.{PlannedDoesTask, OneUnitInTheMaking}
use Rattle.nor_plan_laws.specs.Least.{ErasesBlocks, ErasesApart, ErasesLargest, NoScriptErasesLess}
use Rattle.nor_plan_laws.specs.Runs.{PlannedErasesNeeded, ErasesOnce, ErasesCounted, ProgramsCounted, PlannedIsVerified, NoneVerifies}

-- what holds of planned work
pub record Laws : Type 0 where
  pub done : PlannedDoesTask
  pub making : OneUnitInTheMaking
  pub trail : EventsAreTrail
  pub exact : PlannedErasesNeeded
  pub once : ErasesOnce
  pub erases : ErasesCounted
  pub programs : ProgramsCounted
  pub blocks : ErasesBlocks
  pub apart : ErasesApart
  pub largest : ErasesLargest
  pub verified : PlannedIsVerified
  pub unverified : NoneVerifies
  pub least : NoScriptErasesLess
  pub fewest : NoScriptProgramsLess
  pub spelled : PlannedCanBeSpelled
  pub has : HasSpelling
