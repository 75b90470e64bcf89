-- The end of a plan, and from a job to what a plan promises of its inputs.
use Rattle.std.proofs.Common.{◌≡◌, ℕ, ◌+◌, List, [], ◌⊎◌, length, take, Option, Some, Result, Ok, Err, IfOk, IfErr, inr, refl, sym, ◌∙◌, ap, subst, arith}
use Rattle.std.specs.Io.KnownBytes.{Appends}
use Rattle.nor_base.specs.declared.meaning.Start.{Start}
use Rattle.nor_base.specs.Accepted.{IsAccepted}
use Rattle.nor_base.specs.Device.{Ahead}
use Rattle.nor_base.proofs.DeviceLaws.{Appends-none}
use Rattle.nor_base.specs.Planned.{planned_units}
use Rattle.nor_base.specs.Strategies.{strategy}
use Rattle.nor_geometry.specs.Window.{IsWindowSize}
use Rattle.nor_job.specs.declared.fault.BuildFault.{BuildFault}
use Rattle.nor_job.specs.declared.fault.BuildFault.TheVariants as fault
use Rattle.nor_job.specs.declared.job.Job.{Job}
use Rattle.nor_job.specs.Job.{IsJob}
use Rattle.nor_base.specs.Units.{units}
use Rattle.nor_outline.specs.Outline.{plan_of, stretch_plan, IsStretchPlan}
use Rattle.nor_outline.specs.Told.{unit_outline}
use Rattle.nor_outline.proofs.PlanText.{units_lines}
use Rattle.nor_outline.specs.Lines.{lines_text}
use Rattle.nor_outline.specs.declared.line.PlanLine.{PlanLine}
use Rattle.nor_base.specs.Parameters.{Parameters}
use Rattle.nor_job.specs.Status.{start_of}
use Rattle.nor_job.specs.Task.{Task}
use Rattle.nor_select.specs.Streamed.{last}
use Rattle.nor_laws.specs.Spelling.{HasSpelling}
use Rattle.nor_steps.specs.Stretch.{stretch, extent}
use Rattle.nor_steps.specs.declared.fault.StepsFault.TheVariants as steps
use Rattle.nor_steps.specs.declared.tally.Tally.{Tally}
use Rattle.nor_steps.specs.Writing.{Writing}
use Rattle.nor_plan_laws.specs.Exists.{PlannedCanBeSpelled}
use Rattle.nor_job.specs.Wanted.{wanted, ReadsWithin}
use Rattle.nor_base.specs.Wire.{wire}
use Rattle.norprog.specs.Plan.{IsPlanOf, StopsPlan}
use Rattle.norprog.specs.Planner.{Planning, IsReady, IsPlannedPart, outlined, HasTold, CutsPlan, IsPlanned, told_plan, EndsPlan, PlansJob, PutsPlan}
use Rattle.norprog.specs.declared.report.Report.{Report}
use Rattle.norprog.specs.PlanWindows.{TellsWindows}
use Rattle.nor_job.specs.Filled.{target_from}
use Rattle.norprog.specs.Update.{Update, CanBeDone, IsDoneBy, WorkCause}
use Rattle.norprog.specs.Windows.{first_writing, progress, window_of, job_update, IsAllDone, IsDone, IsKnown, IsCut, IsCutPlan, IsWorked, job_report}
use Rattle.norprog.specs.Stepper.{steps_by}
use Rattle.norprog.proofs.Promise.Build.{asked_is, workable_is, spelled_is, report_is}
use Rattle.norprog.proofs.Content.Joined.{text_begins, lines_tell}
use Rattle.norprog.proofs.Script.Written.{whole_work}
use Rattle.norprog.proofs.Content.Targets.{part_whole}
use Rattle.norprog.proofs.Content.Plans.{told_done}
use Rattle.norprog.proofs.Content.Windows.{cut_after}

-- the lines of a whole chip
whole_lines : (m : Parameters) (start : Start) (part goal : List ℕ) (lines : List PlanLine) → length part ≡ m.size → IsStretchPlan m (strategy m start) (stretch 0 part goal) lines
    → lines ≡ plan_of m start part goal
unfolding units
whole_lines m start part goal lines upto plan =
    sym ((plan part goal (part_whole part) (part_whole goal)).are) ∙ ap (λ n. stretch_plan m (strategy m start) (extent 0 n part goal)) upto

-- where its steps aren't all told
pub close_untold : (job : Job) (v : Writing) (window : ℕ) (a b : Ahead) (x y : Option (List ℕ)) (told : Tally) → IsWindowSize job.meaning window
    → IsAllDone unit_outline job (wire x a) (progress v y b) told → IsCut (IsKnown unit_outline job) job (wire x a) (wire y b) fault.Memory
close_untold job v window a b x y told size done =
    let xs = done.part in
    let its = done.wrote in
    cut_after (IsKnown unit_outline job) unit_outline job v window a b x y x y told its.these steps.Memory size done tt
    (record { bytes = done.bytes; begun = text_begins unit_outline (first_writing job) xs (target_from job 0 xs) its.these fault.Memory its.is }) its.put

pub close_uncounted : (p : Planning) (a : Ahead) → IsReady p → p.at ≡ p.job.meaning.size → CutsPlan p a a fault.Memory
close_uncounted p a ready whole first told x y its put =
    close_untold p.job p.work p.window first a x y p.told ready.window
    (subst (λ n. IsDone unit_outline (window_of p.job 0 n) (progress (first_writing p.job) x first) (progress p.work y a) p.told) whole (told_done p.job p.work p.at first a x y p.told told its put))

-- a job that was planned, of which so much is told
pub planned_is : (t : Task) (len : ℕ) (job : Job) (before after : Ahead) (told : Tally) (lines : List PlanLine) → PlannedCanBeSpelled → HasSpelling
    → IsAccepted job.meaning → IsJob t len job → (done : IsWorked job before after told) → lines ≡ plan_of job.meaning job.start done.part (target_from job 0 done.part)
    → IsPlanned t len before after (told_plan lines (job_report job told))
planned_is t len job before after told lines can spelling accepted is done plan =
    let m = job.meaning in
    let part = done.part in
    let u = job_update job part in
    let same = asked_is t len job is part in
    let w = workable_is job before after told accepted done in
    let spelled = spelled_is can spelling u w in
    record {
      image = job.image;
      regions = is.regions;
      m = m;
      accepted = is.accepted;
      content = part;
      whole = done.upto ∙ sym is.accepted.size;
      given = done.given;
      workable = subst CanBeDone same w;
      are = subst (λ (v : Update). lines ≡ plan_of v.m v.start v.have v.want) same plan;
      steps = steps_by u;
      planned = subst (λ (v : Update). IsDoneBy v (steps_by u)) same spelled.planned;
      told = report_is t len job is part told done.its_tally;
    }

-- all of it was, and its steps are counted
pub ends_plan : (p : Planning) (last_steps : ℕ) → PlannedCanBeSpelled → HasSpelling → IsReady p → p.at ≡ p.job.meaning.size → last_steps ≡ length (last p.work.streaming)
    → EndsPlan p (job_report p.job (record { steps = p.told.steps + last_steps; erases = p.told.erases; erased = p.told.erased; programs = p.told.programs }))
unfolding told_done
ends_plan p last_steps can spelling ready whole count t len first now lines is its =
    let job = p.job in
    let all = subst (λ n. IsPlannedPart (window_of job 0 n) (first_writing job) first now (outlined p.work p.told lines)) whole its in
    let part = all.part in
    let done = told_done job p.work job.meaning.size first now (Some []) (Some (lines_text lines)) p.told lines all refl in
    let work = whole_work unit_outline job p.work first now (Some []) (Some (lines_text lines)) p.told last_steps done count in
    planned_is t len job first now _ lines can spelling ready.accepted is work.0
    (subst (λ (part : List ℕ). lines ≡ plan_of job.meaning job.start part (target_from job 0 part)) (sym work.1)
    (whole_lines job.meaning job.start part (target_from job 0 part) lines all.size all.plan))

-- a writer that took the lines of a plan has its text
pub plan_put : (t : Task) (len : ℕ) (before after : Ahead) (x y : Option (List ℕ)) (lines : List PlanLine) (report : Report) → IsPlanned t len before after (told_plan lines report)
    → Appends x y (lines_text lines) → IsPlanOf t len (wire x before) (wire y after) report
plan_put t len before after x y lines report is put =
    let goal = wanted t is.image is.regions is.content in
    record {
      image = is.image;
      regions = is.regions;
      m = is.m;
      accepted = is.accepted;
      content = is.content;
      whole = is.whole;
      given = is.given;
      workable = is.workable;
      put = subst (Appends x y)
          (ap lines_text is.are ∙ sym (units_lines is.m (strategy is.m (start_of t)) is.content goal (planned_units is.m (start_of t) is.content goal))) put;
      steps = is.steps;
      planned = is.planned;
      told = is.told;
    }

pub plan_stops : (t : Task) (len : ℕ) (job : Job) (before after : Ahead) (x y : Option (List ℕ)) (why : BuildFault) → IsJob t len job
    → IsCut (IsKnown unit_outline job) job (wire x before) (wire y after) why → StopsPlan t len (wire x before) (wire y after) why
plan_stops t len job before after x y why is cut =
    let m = job.meaning in
    let front = take cut.known cut.part in
    record {
      image = job.image;
      regions = is.regions;
      m = m;
      accepted = is.accepted;
      part = cut.part;
      within = omega (arith, cut.within, is.accepted.size);
      given = cut.given;
      cause = subst (λ (u : Update). WorkCause u after why) (asked_is t len job is cut.part) cut.cause;
      window = cut.window;
      its_size = cut.its_size;
      known = cut.known;
      windows = cut.windows;
      bytes = cut.bytes;
      lines = subst (λ (u : Update). TellsWindows u cut.bytes why) (asked_is t len job is front) (lines_tell job front cut.bytes why cut.front);
      put = cut.put;
    }

-- from before the first window to the report, or to what stopped it
pub plans_job : (p q : Planning) (job : Job) (a b : Ahead) (x y : Option (List ℕ)) (r : Result Report BuildFault) → HasTold p a a [] → p.job ≡ job → PutsPlan p q (wire x a) (wire y b)
    → IfOk r (EndsPlan q) → IfOk r (λ report. PlansJob job (wire x a) (wire y b) report)
plans_job p q job a b x y (Ok report) begun same puts ends = λ t len is.
    let so = puts.put a [] x begun (Appends-none x) in
    plan_put t len a b x y so.0 report (ends t len a b so.0 (subst (λ (j : Job). IsJob t len j) (sym (puts.job ∙ same)) is) so.1) so.2
plans_job p q job a b x y (Err why) begun same puts ends = tt

pub cuts_job : (p q : Planning) (job : Job) (a b : Ahead) (x y : Option (List ℕ)) (r : Result Report BuildFault) → HasTold p a a [] → p.job ≡ job → PutsPlan p q (wire x a) (wire y b)
    → IfErr r (λ why. (ahead : Ahead) → CutsPlan q ahead ahead why) → IfErr r (IsCutPlan job (wire x a) (wire y b))
cuts_job p q job a b x y (Ok report) begun same puts ends = tt
cuts_job p q job a b x y (Err why) begun same puts ends =
    let so = puts.put a [] x begun (Appends-none x) in
    subst (λ (j : Job). IsCutPlan j (wire x a) (wire y b) why) (puts.job ∙ same) (ends b a so.0 x y so.1 so.2)

-- the same of a job's inputs
pub stops_inputs : (t : Task) (len : ℕ) (job : Job) (a b : Ahead) (x y : Option (List ℕ)) (Early : BuildFault → Type 0) (r : Result Report BuildFault) → IsJob t len job
    → IfErr r (IsCutPlan job (wire x a) (wire y b)) → IfErr r (λ why. Early why ⊎ StopsPlan t len (wire x a) (wire y b) why)
stops_inputs t len job a b x y Early (Ok report) is cut = tt
stops_inputs t len job a b x y Early (Err why) is cut = inr (plan_stops t len job a b x y why is cut)

pub reads_within : (t : Task) (len : ℕ) (job : Job) (a b : Ahead) (x y : Option (List ℕ)) (r : Result Report BuildFault) → IsJob t len job
    → IfOk r (λ report. PlansJob job (wire x a) (wire y b) report) → IfErr r (IsCutPlan job (wire x a) (wire y b)) → ReadsWithin len a b
reads_within t len job a b x y (Ok report) is plans cut =
    let whole = plans t len is in record { bytes = whole.content; few = omega (arith, whole.whole); given = whole.given }
reads_within t len job a b x y (Err why) is plans cut = record { bytes = cut.part; few = omega (arith, cut.within, is.accepted.size); given = cut.given }
