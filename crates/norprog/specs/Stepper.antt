-- The steps of the work on a content, window after window (this project's).
use Rattle.std.specs.Prelude.{◌≡◌, ℕ, ◌%◌, ◌<◌, ◌≤◌, List, ◌++◌, length}
use Rattle.nor_base.specs.declared.step.Step.{Step}
use Rattle.nor_base.specs.Operations.{Op}
use Rattle.nor_base.specs.Planned.{planned}
use Rattle.nor_base.specs.Strategies.{strategy}
use Rattle.nor_geometry.specs.Window.{IsWindowSize}
use Rattle.nor_select.specs.Streamed.{next}
use Rattle.nor_steps.specs.Lines.{steps_of}
use Rattle.nor_steps.specs.Stretch.{extent}
use Rattle.nor_steps.specs.Work.{stretch_ops}
use Rattle.nor_steps.specs.Writing.{Writing, fresh, written_on}
use Rattle.norprog.specs.Update.{Update, update, CanBeDone}

-- the steps of the planned work
abbrev pub steps_by : Update → List Step
steps_by u = steps_of (planned u.m u.start u.verify u.have u.want)

-- that work before its first operation
abbrev pub begun : Update → Writing
begun u = fresh u.m u.start (strategy u.m u.start) u.verify

-- the operations, and the steps, of its units that start before an address
abbrev pub ops_upto : Update → ℕ → List Op
ops_upto u at = stretch_ops (begun u) (extent 0 at u.have u.want)

abbrev pub steps_upto : Update → ℕ → List Step
steps_upto u at = steps_of (next (begun u).streaming (ops_upto u at))

-- how far the steps of a work are made: up to which address of what the chip holds and must hold, in windows of which size
pub record Stepping : Type 0 where
  pub work : Writing
  pub have : List ℕ
  pub want : List ℕ
  pub at : ℕ
  pub window : ℕ

abbrev pub update_of : Stepping → Update
update_of s = update s.work.streaming.meaning s.work.streaming.start s.work.verify s.have s.want

-- these steps
abbrev pub made : Stepping → List Step
made s = steps_upto (update_of s) s.at

-- it is at a window's start, or at the end of the chip; the steps that are made are those with which the work's windows begin, and after
-- all of them come some that leave the mode that was entered
pub record IsAtWindow (s : Stepping) : Type 0 where
  pub workable : CanBeDone (update_of s)
  pub window : IsWindowSize s.work.streaming.meaning s.window
  pub within : s.at ≤ length s.have
  pub aligned : s.at < length s.have → s.at % s.window ≡ 0
  pub state : s.work ≡ written_on (begun (update_of s)) (ops_upto (update_of s) s.at)
  pub ahead : List Step
  pub begins : steps_upto (update_of s) (length s.have) ≡ made s ++ ahead
  pub leave : List Step
  pub whole : steps_by (update_of s) ≡ steps_upto (update_of s) (length s.have) ++ leave

-- these are the steps of the next window
pub record MakesMore (s t : Stepping) (steps : List Step) : Type 0 where
  pub ready : IsAtWindow t
  pub same : update_of t ≡ update_of s
  pub further : s.at < t.at
  pub those : made t ≡ made s ++ steps
