-- How far work has come (this project's).
use Rattle.std.specs.Prelude.{ℕ, ◌/◌, Bool, false, length}
use Rattle.nor_base.specs.declared.step.Step.{Step}
use Rattle.nor_base.specs.Step.{step_clocks}

-- how many steps are done, and how many bytes of theirs went over the bus, of all; and whether a line about that is open: one was written,
-- and none failed
pub record Far : Type 0 where
  pub steps : ℕ
  pub bytes : ℕ
  pub all_steps : ℕ
  pub all_bytes : ℕ
  pub is_open : Bool

-- none of so many is done, and no line was written
abbrev pub none_done : ℕ → ℕ → Far
none_done all_steps all_bytes = record { steps = 0; bytes = 0; all_steps = all_steps; all_bytes = all_bytes; is_open = false }

-- the bytes of a step on the bus: eight clocks for each
abbrev pub step_bytes : Step → ℕ
step_bytes x = length (step_clocks x) / 8
