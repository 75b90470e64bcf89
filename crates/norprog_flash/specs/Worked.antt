-- How work on a chip went (this project's).
use Rattle.std.specs.Prelude.{◌≡◌, ◌⊎◌, ◌<◌, ◌≤◌, ◌^◌, ℕ, Bool, List, length, Result, Ok, Err}
use Rattle.nor_base.specs.declared.step.Step.{Step}
use Rattle.nor_reader.specs.AtOnce.{at_once}
use Rattle.nor_reader.specs.declared.difference.Mismatch.{Mismatch}
use Rattle.nor_reader.specs.declared.by.ReadBy.{ReadBy}
use Rattle.nor_job.specs.Status.{start_of}
use Rattle.nor_reader.specs.Laws.{GivesBy}
use Rattle.nor_reader.specs.Twice.{ReadsWhole}
use Rattle.nor_serprog.specs.Done.{HasDoneAll}
use Rattle.nor_serprog.specs.Steps.{AreCarried, IsFirstNotCarried}
use Rattle.nor_base.specs.Wire.{Wire}
use Rattle.norprog_device.specs.Doing.{Doing, StopsSteps}
use Rattle.norprog_device.specs.declared.doing.Stop.{Stop}
use Rattle.norprog_device.specs.declared.failure.Failure.{Failure}
use Rattle.norprog_device.specs.declared.failure.Failure.TheVariants.{Carried}
use Rattle.norprog_device.specs.Reported.{failure_by}
use Rattle.norprog_flash.specs.declared.ending.Ending.{Ending}
use Rattle.norprog_flash.specs.declared.ending.Ending.TheVariants.{Done, Failed}
use Rattle.norprog_flash.specs.Begun.{Session}
use Rattle.norprog_flash.specs.Near.{may_go_on}
use Rattle.norprog_flash.specs.Task.{task_on}
use Rattle.norprog_read.specs.declared.asked.Span.{Span}
use Rattle.norprog_read.specs.End.{past, EndsPast, GivesPast}
use Rattle.norprog_read.specs.Span.{came}
use Rattle.norprog_flash.specs.Work.{Plan}

-- how a chip is read back: which bytes it must hold, which part of them it must give, by which instruction, and whether it may be larger
pub record Back : Type 0 where
  pub bytes : List ℕ
  pub part : Span
  pub by : ReadBy
  pub larger : Bool

-- the part lies in the bytes, whose addresses are below 2^32
pub record HasPart (back : Back) : Type 0 where
  pub order : back.part.low ≤ back.part.high
  pub within : back.part.high ≤ length back.bytes
  pub begins : back.part.low < 2 ^ 32
  pub few : length back.bytes ≤ 2 ^ 32

-- the part of the chip was read, by reads of no more than so many bytes, and then past its end, unless it may be larger, and gave just these
-- bytes; or one of the two readings ended so
abbrev pub ReadsBack : ℕ → Back → Wire → Wire → Result (Unit {0}) Mismatch → Type 0
ReadsBack most back before after (Ok u) =
    let p = past most back.by back.bytes in
    (all : Wire) × ReadsWhole p.reads before all (Ok tt) (came back.part back.bytes) × GivesPast all after p back.larger
ReadsBack most back before after (Err why) =
    let p = past most back.by back.bytes in
    ReadsWhole p.reads before after (Err why) (came back.part back.bytes)
    ⊎ ((all : Wire) × ReadsWhole p.reads before all (Ok tt) (came back.part back.bytes) × EndsPast all after p (Err why))

-- the steps of work, and how the chip is read back after them
pub record Flashing : Type 0 where
  pub steps : List Step
  pub back : Back

abbrev pub flashing : List Step → Back → Flashing
flashing steps back = record { steps = steps; back = back }

-- all steps were done, and then the chip was read back with this result
pub record HasWorked (d : Doing) (before after : Wire) (f : Flashing) (result : Result (Unit {0}) Mismatch) : Type 0 where
  pub done : Wire
  pub steps : HasDoneAll before done d.limits d.turns f.steps
  pub gives : ReadsBack (at_once d.limits) f.back done after result

-- all steps were done, and the chip didn't give what it must hold
pub record HasMissed (d : Doing) (before after : Wire) (f : Flashing) (why : Failure) : Type 0 where
  pub mismatch : Mismatch
  pub worked : HasWorked d before after f (Err mismatch)
  pub failed : why ≡ failure_by mismatch

-- what work says: all went well; not all steps were done; or the chip didn't give what it must hold
pub data WorksOut (d : Doing) (before after : Wire) (f : Flashing) : Ending → Type 0 where
  Worked : HasWorked d before after f (Ok tt) → WorksOut d before after f (Done (length f.steps))
  Stopped : (stop : Stop) → StopsSteps d before after f.steps stop → WorksOut d before after f (Failed stop.step stop.why)
  MissedIt : (why : Failure) → HasMissed d before after f why → WorksOut d before after f (Failed (length f.steps) why)

-- how a device does the steps of a session, and how it reads the chip back, by this instruction
abbrev pub doing_in : Session → Doing
doing_in s = record { limits = s.limits; turns = s.job.ask.turns; m = s.reading.meaning }

abbrev pub flashing_in : Session → Plan → ReadBy → Flashing
flashing_in s p by = flashing p.steps (record { bytes = p.goal; part = s.reading.span; by = by; larger = may_go_on s.job })

-- what work that was planned says: some step can't be done by the device, and nothing was sent; or each can, and it went so, in a way by
-- which the chip is read back
pub data GoesOn (s : Session) (before after : Wire) (p : Plan) : Ending → Type 0 where
  Cannot : (step : ℕ) → IsFirstNotCarried s.limits p.steps step → after ≡ before → GoesOn s before after p (Failed step Carried)
  Goes : (by : ReadBy) (ending : Ending) → GivesBy s.reading.meaning (start_of (task_on s.job s.reading)) by → AreCarried s.limits p.steps
      → WorksOut (doing_in s) before after (flashing_in s p by) ending → GoesOn s before after p ending
