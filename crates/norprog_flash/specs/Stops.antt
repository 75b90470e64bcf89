-- Why work isn't begun (this project's).
use Rattle.std.specs.Prelude.{◌≡◌, ◌⊎◌, ℕ, true, length, Option}
use Rattle.std.specs.Io.KnownBytes.{Appends}
use Rattle.nor_base.specs.Device.{Cuts}
use Rattle.nor_job.specs.declared.fault.BuildFault.{BuildFault}
use Rattle.nor_job.specs.declared.fault.BuildFault.TheVariants.{ContentSize, Memory, Write}
use Rattle.norprog_common.specs.declared.faults.FileName.TheVariants as file
use Rattle.norprog_common.specs.declared.faults.Refusal.{Refusal}
use Rattle.norprog_common.specs.declared.faults.Refusal.TheVariants.{Build, File}
use Rattle.norprog_common.specs.Rules.{BreaksRules}
use Rattle.nor_base.specs.Wire.{Wire}
use Rattle.norprog_flash.specs.declared.ending.Unflashed.{Unflashed}
use Rattle.norprog_flash.specs.declared.ending.Unflashed.TheVariants.{Refused, Device, Unlike, Closed}
use Rattle.norprog_flash.specs.declared.job.Job.{Job}
use Rattle.norprog_flash.specs.Begun.{ask_of, IsPlanOf, Printed, is_closed, rules_on, start_at}
use Rattle.norprog_flash.specs.Dump.{AreOfPart}
use Rattle.norprog_flash.specs.Near.{IsNear, RefusesNear}
use Rattle.norprog_flash.specs.Resumed.{IsOfAnother}
use Rattle.norprog_flash.specs.Task.{dump_of, first_held, task_on}
use Rattle.norprog_flash.specs.Way.{plan_text, work_text}
use Rattle.norprog_read.specs.declared.asked.Ask.{Ask}
use Rattle.norprog_read.specs.declared.asked.Reading.{Reading}
use Rattle.norprog_read.specs.declared.asked.Span.{Span}
use Rattle.norprog_read.specs.declared.fault.Unread.{Unread}
use Rattle.norprog_read.specs.declared.fault.Unread.TheVariants as unread
use Rattle.norprog_read.specs.Chip.{HasReadChip}
use Rattle.norprog_read.specs.Stops.{StopsChip}
use Rattle.norprog_flash.specs.Refused.{RefusesWork}
use Rattle.norprog_flash.specs.Work.{Plan}

-- why a chip isn't read is why work isn't begun
abbrev pub of_reading : Unread → Unflashed
of_reading (unread.Refused why) = Refused why
of_reading (unread.Device why) = Device why
of_reading (unread.Unlike why) = Unlike why

-- the reading of the chip, by reads of no more than so many bytes, stopped so
pub record StopsReading (most : ℕ) (before after : Wire) (ask : Ask) (why : Unflashed) : Type 0 where
  pub stop : Unread
  pub stops : StopsChip most before after ask stop
  pub is : why ≡ of_reading stop

-- its status shows that it can't take work; or the job's image breaks its rules, or has no place in memory
abbrev pub IsUnsuited : Job → Reading → Unflashed → Type 0
IsUnsuited job r (Closed status) = (status ≡ r.status) × (is_closed job (start_at job r.status) r.status ≡ true)
IsUnsuited job r (Refused why) = BreaksRules (rules_on job) (task_on job r) (length r.content.items) why ⊎ (why ≡ Build Memory)
IsUnsuited job r other = ⊥

-- nothing was sent, since it can't be told which part of the chip is to be read; or the chip wasn't read; or it was, and it isn't suited
pub data StopsBefore (most : ℕ) (before after : Wire) (job : Job) : Unflashed → Type 0 where
  NoSpan : (why : Refusal) → RefusesNear job why → after ≡ before → StopsBefore most before after job (Refused why)
  NotRead : (near : Option Span) (why : Unflashed) → IsNear job near → StopsReading most before after (ask_of job near) why
      → StopsBefore most before after job why
  Unsuited : (near : Option Span) (r : Reading) (why : Unflashed) → IsNear job near → HasReadChip most before after (ask_of job near) r
      → IsUnsuited job r why → StopsBefore most before after job why

-- why work on a chip that was read isn't begun, by what was printed till then
pub data CantPlan (job : Job) (r : Reading) (out : Printed) : Refusal → Type 0 where
  -- the dump from which it is resumed isn't of just the part that was read
  OtherPart : (AreOfPart (dump_of job) r.span r.content.items → ⊥) → out.after ≡ out.before → CantPlan job r out (Build ContentSize)
  -- a blank image, or what the chip held before, has no place in memory
  NoPlace : out.after ≡ out.before → CantPlan job r out (Build Memory)
  -- it can't be planned
  Unplanned : (fault : BuildFault) → RefusesWork (task_on job r) r.content.items (first_held job r) fault
      → out.after ≡ out.before → CantPlan job r out (Build fault)
  -- the plan was printed, and the chip isn't the one of that dump
  OnAnother : (p : Plan) → IsPlanOf job r p → IsOfAnother r.meaning r.content.items (first_held job r) p.goal
      → Appends out.before out.after (plan_text job p.lines p.report) → CantPlan job r out (File file.Resume)
  -- the plan, or how to go on, wasn't all printed
  Unprinted : (p : Plan) → IsPlanOf job r p → Cuts out.before out.after (work_text job r p) → CantPlan job r out (Build Write)
  -- they were printed, and then its steps have no place in memory
  NoRoom : (p : Plan) → IsPlanOf job r p → Appends out.before out.after (work_text job r p) → CantPlan job r out (Build Memory)
