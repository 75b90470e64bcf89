-- A listing has one list of steps (this project's).
use Rattle.std.specs.Prelude.{◌≡◌, Bool, ◌<◌, ◌^◌, List, length}
use Rattle.std.specs.List.{AllByRecursion}
use Rattle.nor_base.specs.declared.step.Step.{Step}
use Rattle.nor_base.specs.Parameters.{Parameters}
use Rattle.nor_base.specs.Step.{IsStep, step_clocks}
use Rattle.nor_listing.specs.Listing.{listing}

-- a step that a script may have, of fewer than 2^64 clocks; std's `decimal` is right for its numbers
pub record IsListable (step : Step) : Type 0 where
  pub is_one : IsStep step
  pub few : length (step_clocks step) < 2 ^ 64

-- fewer than 2^64 of them
pub record AreListable (steps : List Step) : Type 0 where
  pub few : length steps < 2 ^ 64
  pub each : AllByRecursion IsListable steps

-- of one meaning and first address mode, steps with one listing are the same
abbrev pub OneListing : Type 0
OneListing = (m : Parameters) (mode4 : Bool) (xs ys : List Step) → AreListable xs → AreListable ys
    → listing m mode4 xs ≡ listing m mode4 ys → xs ≡ ys
