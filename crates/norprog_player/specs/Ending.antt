-- How steps end on the chip behind a device (this project's).
use Rattle.std.specs.Prelude.{◌≡◌, ◌≢◌, ℕ, Bool, true, false, List, length, Err}
use Rattle.nor_base.specs.Wire.{Wire}
use Rattle.nor_cells.specs.Compared.{IsCompared, IsReadBack}
use Rattle.nor_cells.specs.Edges.{IsBlank}
use Rattle.nor_reader.specs.declared.difference.Mismatch.{Mismatch}
use Rattle.nor_serprog.specs.declared.limits.Limits.{Limits}
use Rattle.nor_serprog.specs.Done.{HasDoneAll}
use Rattle.nor_serprog.specs.Steps.{AreCarried, IsFirstNotCarried}
use Rattle.norprog_device.specs.declared.failure.Failure.TheVariants.{Carried}
use Rattle.norprog_device.specs.declared.doing.Stop.{Stop}
use Rattle.norprog_device.specs.Doing.{Doing, StopsSteps}
use Rattle.norprog_device.specs.Reported.{failure_by}
use Rattle.norprog_player.specs.declared.course.Course.{Course}
use Rattle.norprog_player.specs.declared.ending.Ending.{Ending}
use Rattle.norprog_player.specs.declared.ending.Ending.TheVariants.{Done, Unlike, Failed}
use Rattle.norprog_player.specs.declared.ending.Unlike.{Unlike as Unlikeness}
use Rattle.norprog_player.specs.Access.{access_of}
use Rattle.norprog_player.specs.Asked.{BeginsWith, Inquiry, IsUnknown, inquiry}
use Rattle.norprog_player.specs.Compared.{Comparison, comparison}
use Rattle.norprog_player.specs.Expected.{Expectation, expectation_of}
use Rattle.norprog_player.specs.Likeness.{Compares, ComparesWhole}

-- whether the chip isn't trusted and its content is blank, so that it says nothing of which chip it is
abbrev pub SaysBlank : Expectation → List ℕ → Bool → Type 0
SaysBlank x content true = (x.trusted ≡ false) × IsBlank content
SaysBlank x content false = x.trusted ≡ false → IsBlank content → ⊥

-- what the chip is asked before the steps
abbrev pub asks : Limits → Course → Inquiry
asks limits c = inquiry (expectation_of c.expected) limits c.turns

-- what of it is compared before them, and after them: what the steps touch, and by which another chip shows, by the instructions that it is
-- read by
abbrev pub first : Limits → Course → Comparison
first limits c =
    comparison limits (access_of c.meaning.now c.expected.start) c.content.now (IsCompared c.meaning.now c.expected.start c.content.now c.steps.now)

abbrev pub again : Limits → Course → Comparison
again limits c =
    comparison limits (access_of c.meaning.now c.expected.start) c.left.now (IsReadBack (IsCompared c.meaning.now c.expected.start c.content.now c.steps.now) c.left.now)

-- how the device does the steps
abbrev pub doing : Limits → Course → Doing
doing limits c = record { limits = limits; turns = c.turns; m = c.meaning.now }

-- each step is an operation of the device; the chip was asked and compared, unless it is trusted
pub record Begins (limits : Limits) (c : Course) (before between : Wire) : Type 0 where
  pub carried : AreCarried limits c.steps.now
  pub begins : BeginsWith c.expected.trusted (asks limits c) (first limits c) before between

-- and then the device did all steps
pub record DoesAll (limits : Limits) (c : Course) (before after : Wire) : Type 0 where
  pub between : Wire
  pub begins : Begins limits c before between
  pub does : HasDoneAll between after limits c.turns c.steps.now

-- how steps end on a device of these limits, after the test of its line
pub data EndsOnChip (limits : Limits) (c : Course) (before after : Wire) : Ending → Type 0 where
  -- this one is the first that is no operation of the device: nothing was sent
  NotCarried : (at : ℕ) → IsFirstNotCarried limits c.steps.now at → after ≡ before → EndsOnChip limits c before after (Failed at Carried)
  -- each is, but the chip isn't known to be the one that is expected: no step was sent
  NotKnown : (why : Unlikeness) → AreCarried limits c.steps.now → c.expected.trusted ≡ false → IsUnknown (asks limits c) (first limits c) before after why
      → EndsOnChip limits c before after (Unlike why)
  -- the device halted at a step, or memory was refused for the next ones
  Stopped : (between : Wire) (stop : Stop) → Begins limits c before between → StopsSteps (doing limits c) between after c.steps.now stop
      → stop.why ≢ Carried → EndsOnChip limits c before after (Failed stop.step stop.why)
  -- all were done, but the chip isn't known to hold what they leave
  NotLeft : (reached : Wire) (why : Mismatch) → DoesAll limits c before reached → c.expected.trusted ≡ false
      → ComparesWhole reached after (again limits c) (Err why) → EndsOnChip limits c before after (Failed (length c.steps.now) (failure_by why))
  -- all were done, and it holds that, unless it is trusted
  AllDone : (reached : Wire) (blank : Bool) → DoesAll limits c before reached → Compares (again limits c) c.expected.trusted reached after
      → SaysBlank (expectation_of c.expected) c.content.now blank → EndsOnChip limits c before after (Done (length c.steps.now) blank)
