-- Which steps a script may have (this project's).
use Rattle.std.specs.Prelude.{◌≡◌, ℕ, Bool, false, true, ◌&&◌, List, []}
use Rattle.std.specs.List.{list_all}
use Rattle.nor_base.specs.declared.step.Step.{Step}
use Rattle.nor_base.specs.declared.step.Step.TheVariants.{Send, Poll, Verify}
use Rattle.nor_base.specs.Array.{is_filled, are_bytes}
use Rattle.nor_base.specs.Sample.{is_symbol}

-- symbols, and not none
abbrev pub are_clocks : List ℕ → Bool
are_clocks clocks = is_filled clocks && list_all is_symbol clocks

-- a step that a script may have: clocks that are symbols and not none, and for a Verify some bytes expected
abbrev pub is_step : Step → Bool
is_step (Send clocks) = are_clocks clocks
is_step (Poll clocks) = are_clocks clocks
is_step (Verify clocks expect) = are_clocks clocks && is_filled expect

-- the clocks of a step
abbrev pub step_clocks : Step → List ℕ
step_clocks (Send clocks) = clocks
step_clocks (Poll clocks) = clocks
step_clocks (Verify clocks expect) = clocks

-- the bytes that a step expects
abbrev pub expected : Step → List ℕ
expected (Verify clocks expect) = expect
expected other = []

-- a step that reads
abbrev pub verifies : Step → Bool
verifies (Send clocks) = false
verifies (Poll clocks) = false
verifies (Verify clocks expect) = true

-- a step that a script may have; what it expects are bytes
pub record IsStep (step : Step) : Type 0 where
  pub passes : is_step step ≡ true
  pub bytes : are_bytes (expected step) ≡ true
