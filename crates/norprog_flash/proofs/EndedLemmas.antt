-- How work that was planned ends.
use Rattle.std.proofs.Common.{◌≡◌, ◌<◌, ℕ, true, List, Option, Result, Ok, Err, IfOk, IfErr, refl, sym, subst}
use Rattle.std.specs.List.{slice_index}
use Rattle.nor_reader.specs.AtOnce.{at_once}
use Rattle.nor_flasher.specs.Laws.{Closes, Breaks, Rests}
use Rattle.nor_job.specs.Status.{start_of}
use Rattle.nor_reader.specs.declared.by.ReadBy.{ReadBy}
use Rattle.nor_reader.specs.Laws.{GivesBy}
use Rattle.norprog_common.specs.declared.given.Aim.TheVariants as aim
use Rattle.nor_base.specs.Wire.{Wire}
use Rattle.nor_serprog.specs.Steps.{AreCarried}
use Rattle.norprog_device.specs.declared.failure.Failure.TheVariants.{Carried}
use Rattle.norprog_flash.specs.declared.ending.Ending.{Ending}
use Rattle.norprog_flash.specs.declared.ending.Ending.TheVariants.{Failed}
use Rattle.norprog_flash.specs.declared.job.Job.{Job}
use Rattle.norprog_flash.specs.Begun.{HasPlanned, HasRead, Printed, Session, printed}
use Rattle.norprog_flash.specs.Ended.{AllDone, EndsWork, Halted, IsCompared, IsPlanned, IsToDo, Missed, NotCarried, OnlyCompared, OnlyPlan, Planning, Starved}
use Rattle.norprog_flash.specs.Stops.{CantPlan}
use Rattle.norprog_common.specs.declared.faults.Refusal.{Refusal}
use Rattle.norprog_read.specs.declared.asked.Reading.{Reading}
use Rattle.norprog_flash.specs.Task.{task_on}
use Rattle.norprog_device.specs.Doing as steps
use Rattle.norprog_device.specs.Doing.{FailedAt}
use Rattle.norprog_flash.specs.Worked.{Cannot, Goes, GoesOn, MissedIt, Stopped, Worked, WorksOut, doing_in, flashing_in}
use Rattle.norprog_device.proofs.CarriedLemmas.{never_carried, never_misses}
use Rattle.norprog_flash.proofs.PlannedLemmas.{every_flashes, every_keeps, every_rests}
use Rattle.norprog_flash.specs.Work.{Plan}

module _ (close : Closes) (break : Breaks) (rest : Rests) (s : Session) (before read : Wire) (p : Plan) (out : Printed) (whole : s.job.ask.content ≡ true)
    (bytes : (a : ℕ) → slice_index s.reading.content.items a < 256) (aims : s.job.aim ≡ aim.Work) (planned : HasPlanned s before read p out) where
  abbrev todo : IsToDo s before read p out
  todo = record { aim = aims; planned = planned }

  worked_ends : (last : Wire) (by : ReadBy) (ending : Ending) → GivesBy s.reading.meaning (start_of (task_on s.job s.reading)) by
      → AreCarried s.limits p.steps → WorksOut (doing_in s) read last (flashing_in s p by) ending → EndsWork s before last out ending
  worked_ends last by ending way carried (Worked worked) =
      AllDone p read todo by way worked (every_flashes s before read p out planned whole bytes close worked.done worked.steps)
  worked_ends last by ending way carried (Stopped it (FailedAt h)) =
      Halted p read todo h.halt h.why (never_carried s.reading.meaning s.limits s.job.ask.turns read last p.steps h.halt h.why carried h.halted h.failed) h.halted h.failed
      (every_keeps s before read p out planned whole bytes break last h.halt h.halted)
  worked_ends last by ending way carried (Stopped it (steps.Starved step rested)) = Starved p read todo step rested (every_rests s before read p out planned whole bytes rest last step rested)
  worked_ends last by ending way carried (MissedIt why missed) =
      Missed p read todo by why (never_misses missed.mismatch why missed.failed) way missed
      (every_flashes s before read p out planned whole bytes close missed.worked.done missed.worked.steps)

  pub goes_ends : (last : Wire) (ending : Ending) → GoesOn s read last p ending → EndsWork s before last out ending
  goes_ends last ending (Goes by it way carried works) = worked_ends last by it way carried works
  goes_ends last ending (Cannot step first same) =
      subst (λ (w : Wire). EndsWork s before w out (Failed step Carried)) (sym same) (NotCarried p step todo first)

-- only the plan was printed
pub plan_ends : (s : Session) (before read : Wire) (out : Printed) (result : Result Ending Refusal) → s.job.aim ≡ aim.Plan
    → HasRead (at_once s.limits) s.job before read s.reading → IfOk result (IsPlanned s.job s.reading out) → IfOk result (EndsWork s before read out)
plan_ends s before read out (Ok ending) aims has (Planning p prints) = OnlyPlan p aims (record { read = has; plan = prints })
plan_ends s before read out (Err why) aims has is = tt

-- it was compared, or not
pub compare_ends : (s : Session) (before read : Wire) (text : Option (List ℕ)) (result : Result Ending Refusal) → s.job.aim ≡ aim.Compare
    → HasRead (at_once s.limits) s.job before read s.reading → IfOk result (IsCompared s.job s.reading) → IfOk result (EndsWork s before read (printed text text))
compare_ends s before read text (Ok ending) aims has is = OnlyCompared ending aims has refl is
compare_ends s before read text (Err why) aims has is = tt

pub compare_refused : (job : Job) (r : Reading) (text : Option (List ℕ)) (result : Result Ending Refusal)
    → IfErr result (λ why. (any : Option (List ℕ)) → CantPlan job r (printed any any) why) → IfErr result (CantPlan job r (printed text text))
compare_refused job r text (Ok ending) is = tt
compare_refused job r text (Err why) is = is text
