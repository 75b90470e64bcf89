-- A chip that was read and planned for (this project's).
use Rattle.std.specs.Prelude.{◌≡◌, ◌||◌, ℕ, Bool, false, not, List, length, Option, None, Some, unwrap_or, if◌then◌else◌}
use Rattle.std.specs.Io.KnownBytes.{Appends}
use Rattle.nor_base.specs.declared.meaning.Start.{Start}
use Rattle.nor_hex.specs.WrittenSegments.{hex_text}
use Rattle.nor_reader.specs.AtOnce.{at_once}
use Rattle.nor_reader.specs.Status.{suits}
use Rattle.nor_serprog.specs.declared.limits.Limits.{Limits}
use Rattle.nor_sfdp.specs.Bits.{is_set}
use Rattle.nor_base.specs.declared.meaning.Part.{Part}
use Rattle.norprog_common.specs.declared.given.Aim.{Aim}
use Rattle.norprog_common.specs.declared.given.Aim.TheVariants.{Work, Compare}
use Rattle.norprog_common.specs.declared.given.Aim.TheVariants as aim
use Rattle.norprog_common.specs.Rules.{MeetsRules}
use Rattle.norprog_common.specs.declared.rules.ImageRules.{ImageRules}
use Rattle.nor_base.specs.Wire.{Wire}
use Rattle.norprog_flash.specs.declared.job.Job.{Job}
use Rattle.norprog_flash.specs.Dump.{AreOfPart}
use Rattle.norprog_flash.specs.Near.{goes_near, IsNear}
use Rattle.norprog_flash.specs.Resumed.{IsOfDump}
use Rattle.norprog_flash.specs.Task.{dump_of, first_held, task_on}
use Rattle.norprog_flash.specs.Way.{work_text}
use Rattle.norprog_read.specs.declared.asked.Ask.{Ask}
use Rattle.norprog_read.specs.declared.asked.Reading.{Reading}
use Rattle.norprog_read.specs.declared.asked.Span.{Span}
use Rattle.norprog_read.specs.Chip.{HasReadChip}
use Rattle.norprog_read.specs.Span.{part_in}
use Rattle.norprog_flash.specs.Work.{IsWork, Plan}

-- the mode that was said, and the quad setting that a status has (QE, S9)
abbrev pub start_at : Job → ℕ → Start
start_at job status = record { mode4 = job.ask.mode4; quad = is_set status 9 }

-- a status shows that the chip can't take work; a comparison is none
abbrev pub closed_by : Aim → Part → Start → ℕ → Bool
closed_by Work part start status = not (suits part start status)
closed_by aim.Plan part start status = not (suits part start status)
closed_by Compare part start status = false

abbrev pub is_closed : Job → Start → ℕ → Bool
is_closed job start status = closed_by job.aim job.ask.part start status

-- what the image has to give on a chip that was read: a region that is erased has to be all there
abbrev pub rules_on : Job → ImageRules
rules_on job = record {
  exact = job.rules.exact;
  strict = job.rules.strict;
  full = job.rules.full || job.blank;
  inside = job.rules.inside;
  lands = job.rules.lands;
}

-- what is asked of a job's chip: its content near these addresses, or all of it
abbrev pub ask_of : Job → Option Span → Ask
ask_of job near = record job.ask { near = near }

-- the chip was read, or no more of it than the job's image is for, by reads of no more than so many bytes, and its status shows that it can
-- take work; the job's image keeps its rules
pub record HasRead (most : ℕ) (job : Job) (before after : Wire) (r : Reading) : Type 0 where
  pub near : Option Span
  pub goes_near : IsNear job near
  pub read : HasReadChip most before after (ask_of job near) r
  pub suited : is_closed job (start_at job r.status) r.status ≡ false
  pub meets : MeetsRules (rules_on job) (task_on job r) (length r.content.items)

-- what is saved of a chip in place of its content: of one that was read in part, that part as Intel HEX
abbrev pub copy_of : Job → Reading → Option (List ℕ)
copy_of job r = if goes_near job then Some (hex_text r.span.low (part_in r.span r.content.items)) else None

abbrev pub saved_of : Job → Reading → List ℕ
saved_of job r = unwrap_or (copy_of job r) r.content.items

-- this is the work from what was read to the target
abbrev pub IsPlanOf : Job → Reading → Plan → Type 0
IsPlanOf job r p = IsWork (task_on job r) r.content.items (first_held job r) p

-- what standard output held before, and holds
pub record Printed : Type 0 where
  pub before : Option (List ℕ)
  pub after : Option (List ℕ)

abbrev pub printed : Option (List ℕ) → Option (List ℕ) → Printed
printed before after = record { before = before; after = after }

-- the work was planned and printed, and then how to go on where it stops on the way; where work is resumed the older dump is of just the part
-- that was read, and the chip may be the one of it
pub record PrintsPlan (job : Job) (r : Reading) (p : Plan) (out : Printed) : Type 0 where
  pub work : IsPlanOf job r p
  pub fits : AreOfPart (dump_of job) r.span r.content.items
  pub kept : IsOfDump r.meaning r.content.items (first_held job r) p.goal
  pub printed : Appends out.before out.after (work_text job r p)

-- work on a chip that gave this, by a device that reported these limits
pub record Session : Type 0 where
  pub job : Job
  pub limits : Limits
  pub reading : Reading

abbrev pub session : Job → Limits → Reading → Session
session job limits r = record { job = job; limits = limits; reading = r }

-- it was read, and nothing else was sent; and the work from what it holds to the target was planned and printed
pub record HasPlanned (s : Session) (before after : Wire) (p : Plan) (out : Printed) : Type 0 where
  pub read : HasRead (at_once s.limits) s.job before after s.reading
  pub plan : PrintsPlan s.job s.reading p out

-- so, whatever went over the wire and was printed meanwhile
abbrev pub IsPlannedOn : Session → Plan → Type 0
IsPlannedOn s p = (before : Wire) × (after : Wire) × (out : Printed) × HasPlanned s before after p out

-- a chip was read so that gave this
abbrev pub IsReadOn : ℕ → Job → Reading → Type 0
IsReadOn most job r = (before : Wire) × (after : Wire) × HasRead most job before after r
