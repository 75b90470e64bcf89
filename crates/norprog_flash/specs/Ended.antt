-- How work on the chip behind a device ends (this project's).
use Rattle.std.specs.Prelude.{◌≡◌, ◌≢◌, ℕ, List, [], ◌∷◌, length, Ok}
use Rattle.nor_reader.specs.AtOnce.{at_once}
use Rattle.nor_base.specs.declared.step.Step.{Step}
use Rattle.nor_flasher.specs.Apart.{chip_read, BreaksApart, ChipRead, ClosesApart}
use Rattle.nor_job.specs.Status.{start_of}
use Rattle.nor_reader.specs.declared.by.ReadBy.{ReadBy}
use Rattle.nor_reader.specs.Laws.{GivesBy}
use Rattle.nor_serprog.specs.declared.halt.Halt.{Halt}
use Rattle.nor_serprog.specs.Row.{HasHalted}
use Rattle.nor_serprog.specs.Steps.{IsFirstNotCarried}
use Rattle.norprog_common.specs.declared.given.Aim.TheVariants as aim
use Rattle.nor_base.specs.Wire.{Wire}
use Rattle.norprog_device.specs.declared.failure.Failure.{Failure}
use Rattle.norprog_device.specs.Doing.{HasRested}
use Rattle.norprog_device.specs.declared.failure.Failure.TheVariants.{Carried, Memory}
use Rattle.norprog_device.specs.Reported.{IsFailureAt}
use Rattle.norprog_flash.specs.declared.ending.Ending.{Ending}
use Rattle.norprog_flash.specs.declared.ending.Ending.TheVariants.{Planned, Compared, Done, Failed}
use Rattle.norprog_flash.specs.declared.job.Job.{Job}
use Rattle.norprog_flash.specs.Begun.{HasPlanned, HasRead, Printed, PrintsPlan, Session}
use Rattle.norprog_flash.specs.Task.{dump_of, goal_of, task_on}
use Rattle.norprog_flash.specs.Worked.{doing_in, flashing_in, HasMissed, HasWorked}
use Rattle.norprog_read.specs.declared.asked.Reading.{Reading}
use Rattle.norprog_flash.specs.declared.compared.Comparison.{Comparison}
use Rattle.norprog_flash.specs.Compared.{IsComparison}
use Rattle.norprog_flash.specs.Work.{Plan}

-- the chip was read and planned for, and the plan is to be carried out, from these bytes of the wire on
pub record IsToDo (s : Session) (before read : Wire) (p : Plan) (out : Printed) : Type 0 where
  pub aim : s.job.aim ≡ aim.Work
  pub planned : HasPlanned s before read p out

-- the chip of a session, as it was read
abbrev pub chip_in : Session → ChipRead
chip_in s = let r = s.reading in chip_read r.meaning (start_of (task_on s.job r)) r.content.items r.span.low r.span.high

-- what it must hold in the end, of what it holds
abbrev pub target_in : {s : Session} {before read : Wire} {p : Plan} {out : Printed} → IsToDo s before read p out → List ℕ → List ℕ
target_in {s = s} todo content =
    let work = todo.planned.plan.work in goal_of (task_on s.job s.reading) work.image work.regions (dump_of s.job) content

-- what went over the wire as the content was read, and then in the work, is explained only by chips that end with the target of what
-- they held, and by some chip
abbrev pub EveryChipFlashes : {s : Session} {before read : Wire} {p : Plan} {out : Printed} → IsToDo s before read p out → Wire → Type 0
EveryChipFlashes {s = s} {read = read} {p = p} todo done =
    let chip = todo.planned.read.read in ClosesApart chip.ready chip.held read done (chip_in s) (target_in todo) p.steps

-- or, as far as the work came to a step, which begins a row, only by chips that held what was read, of which at most one unit of the work to
-- the target of what they held is in the making, also after they did some of the row
abbrev pub EveryChipKeeps : {s : Session} {before read : Wire} {p : Plan} {out : Printed} → IsToDo s before read p out → ℕ → List Step → Type 0
EveryChipKeeps {s = s} {read = read} {p = p} todo at row =
    let chip = todo.planned.read.read in BreaksApart chip.ready chip.held read (chip_in s) (target_in todo) p.steps at row

-- the work on a chip that gave this was only planned and printed
pub data IsPlanned (job : Job) (r : Reading) (out : Printed) : Ending → Type 0 where
  Planning : (p : Plan) → PrintsPlan job r p out → IsPlanned job r out Planned

-- what a chip that gave this holds is compared with the target
pub data IsCompared (job : Job) (r : Reading) : Ending → Type 0 where
  Comparing : (c : Comparison) → IsComparison (task_on job r) r.content.items c → IsCompared job r (Compared c)

-- how the work on a chip ends, from its first reading on
pub data EndsWork (s : Session) (before after : Wire) (out : Printed) : Ending → Type 0 where
  -- only the plan is wanted, and nothing was sent after the chip was read
  OnlyPlan : (p : Plan) → s.job.aim ≡ aim.Plan → HasPlanned s before after p out → EndsWork s before after out Planned
  -- it is only compared, and nothing was sent after it was read
  OnlyCompared : (ending : Ending) → s.job.aim ≡ aim.Compare → HasRead (at_once s.limits) s.job before after s.reading → out.after ≡ out.before
      → IsCompared s.job s.reading ending → EndsWork s before after out ending
  -- each step was done, and then the chip gave just what it must hold, in the part that was read, and past its end what one that holds just
  -- this gives, unless it may be larger or only a part was read, by reads of no more bytes than the device gives at once
  AllDone : (p : Plan) (read : Wire) (todo : IsToDo s before read p out) (by : ReadBy)
      → GivesBy s.reading.meaning (start_of (task_on s.job s.reading)) by → (worked : HasWorked (doing_in s) read after (flashing_in s p by) (Ok tt))
      → EveryChipFlashes todo worked.done → EndsWork s before after out (Done (length p.steps))
  -- a step can't be done by this device: nothing was sent after the chip was read
  NotCarried : (p : Plan) (step : ℕ) → IsToDo s before after p out → IsFirstNotCarried s.limits p.steps step → EndsWork s before after out (Failed step Carried)
  -- the device halted at a step
  Halted : (p : Plan) (read : Wire) (todo : IsToDo s before read p out) (halt : Halt) (why : Failure) → why ≢ Carried
      → (halted : HasHalted read after s.limits s.job.ask.turns p.steps halt) → IsFailureAt s.reading.meaning p.steps halt why
      → EveryChipKeeps todo halt.step (halted.at ∷ halted.beyond) → EndsWork s before after out (Failed halt.step why)
  -- memory was refused for the steps from this one on, of which nothing was sent
  Starved : (p : Plan) (read : Wire) (todo : IsToDo s before read p out) (step : ℕ) → (rested : HasRested (doing_in s) read after p.steps step)
      → EveryChipKeeps todo step (rested.next ∷ []) → EndsWork s before after out (Failed step Memory)
  -- each step was done, but then the chip didn't give what it must hold
  Missed : (p : Plan) (read : Wire) (todo : IsToDo s before read p out) (by : ReadBy) (why : Failure) → why ≢ Carried
      → GivesBy s.reading.meaning (start_of (task_on s.job s.reading)) by → (missed : HasMissed (doing_in s) read after (flashing_in s p by) why)
      → EveryChipFlashes todo missed.worked.done → EndsWork s before after out (Failed (length p.steps) why)
