-- From a job to what a build promises of its inputs.
use Rattle.std.proofs.Common.{◌≡◌, ℕ, zero, suc, ◌+◌, ◌-◌, ◌<◌, ◌≤◌, Bool, true, not, ◌&&◌, cond, nat_lt, nat_le, List, [], ◌∷◌, ◌++◌, length, take, drop, map, Option, refl, sym, ◌∙◌, ap, subst, arith, ltb-true}
use Rattle.std.specs.Prelude.{count_by}
use Rattle.std.specs.List.{fold, slice_index, AllByRecursion}
use Rattle.std.proofs.lemmas.Bool.{and_parts}
use Rattle.std.proofs.lemmas.List.{length-map, take-append-drop}
use Rattle.nor_base.specs.declared.meaning.Start.{Start}
use Rattle.nor_base.specs.declared.meaning.Strategy.{Strategy}
use Rattle.nor_base.specs.declared.step.Step.{Step}
use Rattle.nor_base.specs.Accepted.{IsAccepted}
use Rattle.nor_base.specs.Array.{are_bytes}
use Rattle.nor_base.specs.Chip.{Setting, IsChipOf, begins4, ready}
use Rattle.nor_base.specs.Device.{Ahead}
use Rattle.nor_base.specs.Events.{events, programs_seen}
use Rattle.nor_base.specs.Need.{is_due}
use Rattle.nor_base.specs.Parameters.{Parameters}
use Rattle.nor_base.specs.Planned.{planned, planned_ops, planned_units, ArePlanned, IsInTheMaking}
use Rattle.nor_base.specs.Step.{IsStep}
use Rattle.nor_base.specs.Strategies.{strategy}
use Rattle.nor_base.specs.Target.{is_ignored}
use Rattle.nor_geometry.specs.Plan.{HasPart}
use Rattle.nor_job.specs.declared.fault.BuildFault.{BuildFault}
use Rattle.nor_job.specs.declared.fault.BuildFault.TheVariants as fault
use Rattle.nor_job.specs.declared.job.Job.{Job}
use Rattle.nor_job.specs.Job.{IsJob}
use Rattle.nor_job.specs.Status.{start_of}
use Rattle.nor_job.specs.Task.{Task}
use Rattle.nor_layout.specs.Chosen.{has, is_chosen}
use Rattle.nor_laws.specs.Spelling.{HasSpelling}
use Rattle.nor_steps.specs.declared.tally.Tally.{Tally}
use Rattle.nor_steps.specs.Lines.{step_of}
use Rattle.nor_steps.specs.Tally.{tally_with}
use Rattle.nor_plan_laws.specs.Exists.{PlannedCanBeSpelled}
use Rattle.nor_base.specs.Wire.{wire}
use Rattle.norprog.specs.declared.report.Report.{Report}
use Rattle.norprog.specs.Laws.{Laws}
use Rattle.norprog.specs.Build.{ignored_of, report_of, AreLargest, RunsAsPlanned, IsBuilt, IsLate, IsFrontOf, StopsWork}
use Rattle.norprog.specs.Update.{Update, update, asked, CanBeDone, IsDoneBy, WorkCause}
use Rattle.nor_job.specs.Filled.{target_from}
use Rattle.norprog.specs.Stepper.{steps_by}
use Rattle.norprog.specs.Windows.{job_update, IsWorked, IsScripted, IsCutScript, job_report}
use Rattle.norprog.proofs.Content.Targets.{target_of_parts, part_front}
use Rattle.norprog.proofs.Promise.Counts.{erases_told, erased_told, programs_told}
use Rattle.norprog.proofs.Promise.Filled.{filled, filled_is}
use Rattle.norprog.proofs.Promise.Image.{image_bytes}
use Rattle.norprog.proofs.Promise.OpBytes.{planned_bytes}
use Rattle.norprog.proofs.Promise.Steps.{plain_lowered, steps_spell, steps_pass}
use Rattle.nor_job.proofs.TargetLemmas.{length-target, target_is}

counts_same : {X : Type 0} (f g : X → Bool) (n : ℕ) (xs : List X) → ((x : X) → f x ≡ g x)
    → fold (λ m x. m + cond (f x) 1 0) n xs ≡ fold (λ m x. m + cond (g x) 1 0) n xs
counts_same f g n [] same = refl
counts_same f g n (x ∷ xs) same =
    counts_same f g (n + cond (f x) 1 0) xs same ∙ ap (λ b. fold (λ m y. m + cond (g y) 1 0) (n + cond b 1 0) xs) (same x)

count_same : {X : Type 0} (f g : X → Bool) (xs : List X) → ((x : X) → f x ≡ g x) → count_by f xs ≡ count_by g xs
count_same f g xs same = counts_same f g 0 xs same

ignored_is : (t : Task) (len : ℕ) (job : Job) (is : IsJob t len job)
    → count_by (λ pair. is_ignored job.base (has job.chosen) job.meaning.size pair.0) job.image ≡ ignored_of t job.image is.regions job.meaning
ignored_is t len job is =
    let c = is_chosen is.regions t.regions in
    count_same _ _ job.image (λ pair. ap (λ b. not (nat_le job.base pair.0 && (nat_lt (pair.0 - job.base) job.meaning.size && b))) (is.chosen (pair.0 - job.base)))
    ∙ ap (λ base. count_by (λ pair. is_ignored base c job.meaning.size pair.0) job.image) is.base

-- the update of a job is what its inputs ask
pub asked_is : (t : Task) (len : ℕ) (job : Job) (is : IsJob t len job) (part : List ℕ) → job_update job part ≡ asked t job.image is.regions job.meaning part
asked_is t len job is part =
    let m = job.meaning in
    let goal = target_from job 0 part in
    ap (λ (s : Start). update m s job.verify part goal) is.start ∙ ap (λ v. update m (start_of t) v part goal) is.verify
    ∙ ap (update m (start_of t) t.verify part) (target_is t len job is part)

pub record IsSpelled (u : Update) (steps : List Step) : Type 0 where
  pub each : AllByRecursion IsStep steps
  pub planned : IsDoneBy u steps

pub spelled_is : PlannedCanBeSpelled → HasSpelling → (u : Update) → CanBeDone u → IsSpelled u (steps_by u)
spelled_is spelled spelling u w =
    let these = planned u.m u.start u.verify u.have u.want in
    let plain = plain_lowered u.m u.start (strategy u.m u.start) (planned_ops u.m u.start u.verify u.have u.want) (planned_bytes u.m u.start u.verify u.have u.want w.bytes) in
    let can = spelled u.m u.start u.verify u.have u.want w in
    record { each = steps_pass u.m (begins4 u.m u.start) these plain can; planned = steps_spell spelling u.m (begins4 u.m u.start) these plain can }

-- what is so of each is so of what they are mapped to
mapped_all : {X Y : Type 0} (P : Y → Type 0) (f : X → Y) (xs : List X) → AllByRecursion P (map f xs) → AllByRecursion (λ x. P (f x)) xs
mapped_all P f [] all = tt
mapped_all P f (x ∷ xs) all = (all.0, mapped_all P f xs all.1)

-- numbers below 256 are so at each place, and 0 past their end
bytes_at : (xs : List ℕ) → are_bytes xs ≡ true → (k : ℕ) → slice_index xs k < 256
bytes_at [] h k = omega arith
bytes_at (x ∷ xs) h zero = ltb-true x 256 (and_parts (nat_lt x 256) (are_bytes xs) h).0
bytes_at (x ∷ xs) h (suc k) = bytes_at xs (and_parts (nat_lt x 256) (are_bytes xs) h).1 k

-- what is seen of them on every chip
runs_so : Laws → (u : Update) (ignored : ℕ) (steps : List Step) (report : Report) → CanBeDone u → IsDoneBy u steps → report ≡ report_of u ignored steps
    → (s : Setting) → IsChipOf u.m u.start s → RunsAsPlanned u steps report s (events s (ready s u.have) steps)
runs_so laws u ignored steps report w are told s is =
    let m = u.m in
    let start = u.start in
    let content = u.have in
    let goal = u.want in
    let us = planned_units m start content goal in
    record {
      rising = mapped_all (λ chip. IsInTheMaking us content goal chip.array) (λ e. e.chip) (events s (ready s content) steps)
          (subst (AllByRecursion (λ chip. IsInTheMaking us content goal chip.array)) (sym (laws.trail s (ready s content) steps))
          (laws.making m start u.verify content goal steps w are s is));
      verified = λ asked. laws.verified m start content goal steps w (subst (λ v. ArePlanned m start v content goal steps) asked are) s is;
      erased = λ a. laws.exact m start u.verify content goal steps w are s is a;
      once = λ a. laws.once m start u.verify content goal steps w are s is a;
      least = λ other others a is' does erased.
          laws.least m start other content goal others a w.accepted is' does (sym (laws.exact m start u.verify content goal steps w are s is a) ∙ erased);
      fewest = λ plain small other others is' page does.
          subst (λ n. n ≤ programs_seen (events other (ready other content) others)) (sym (ap (λ (r : Report). r.programs) told))
          (laws.fewest m start other content goal others w (bytes_at content small) plain is' page does);
      erases = laws.erases m start u.verify content goal steps w are s is ∙ sym (ap (λ (r : Report). r.erases) told);
      programs = laws.programs m start u.verify content goal steps w are s is ∙ sym (ap (λ (r : Report). r.programs) told);
    }

largest_so : Laws → (m : Parameters) (by : Strategy) (due : ℕ → Bool) → IsAccepted m → AreLargest m by due
largest_so laws m by due accepted = record {
  legal = λ a b here.
      let is = laws.blocks m by due a b accepted here in
      (is.legal, is.reached, is.here);
  apart = λ a x b c here there. laws.apart m by due a x b c accepted here there;
  largest = λ c legal reached inside. laws.largest m by due c accepted legal reached inside;
}

report_same : (by by' : Strategy) (s s' e e' b b' p p' i i' : ℕ) → by ≡ by' → s ≡ s' → e ≡ e' → b ≡ b' → p ≡ p' → i ≡ i'
    → ◌≡◌ {A = Report} (record { strategy = by; steps = s; erases = e; erased = b; programs = p; ignored = i })
    (record { strategy = by'; steps = s'; erases = e'; erased = b'; programs = p'; ignored = i' })
report_same by by' s s' e e' b b' p p' i i' first steps erases erased programs ignored =
    let one : Strategy → ℕ → ℕ → ℕ → ℕ → ℕ → Report = λ by s e b p i. record { strategy = by; steps = s; erases = e; erased = b; programs = p; ignored = i } in
    ap (λ v. one v s e b p i) first ∙ ap (λ n. one by' n e b p i) steps ∙ ap (λ n. one by' s' n b p i) erases
    ∙ ap (λ n. one by' s' e' n p i) erased ∙ ap (λ n. one by' s' e' b' n i) programs ∙ ap (λ n. one by' s' e' b' p' n) ignored

-- the work of a whole content
pub workable_is : (job : Job) (before after : Ahead) (told : Tally) → IsAccepted job.meaning → (done : IsWorked job before after told) → CanBeDone (job_update job done.part)
workable_is job before after told accepted done = record {
  accepted = accepted;
  have_size = done.upto;
  want_size = length-target job 0 done.part ∙ done.upto;
  bytes = done.bytes;
  sound = done.sound;
}

-- what is told of the planned work of a content is the report of its units and steps
pub report_is : (t : Task) (len : ℕ) (job : Job) (is : IsJob t len job) (part : List ℕ) (told : Tally)
    → told ≡ tally_with (length (planned job.meaning job.start job.verify part (target_from job 0 part))) (planned_ops job.meaning job.start job.verify part (target_from job 0 part))
    → job_report job told ≡ report_of (asked t job.image is.regions job.meaning part) (ignored_of t job.image is.regions job.meaning) (steps_by (job_update job part))
report_is t len job is part told tally =
    let u = job_update job part in
    let us = planned_units u.m u.start u.have u.want in
    report_same _ _ _ _ _ _ _ _ _ _ _ _ refl (ap (λ (v : Tally). v.steps) tally ∙ sym (length-map (planned u.m u.start u.verify u.have u.want) step_of))
    (ap (λ (v : Tally). v.erases) tally ∙ erases_told u.m u.verify u.want us) (ap (λ (v : Tally). v.erased) tally ∙ erased_told u.m u.verify u.want us)
    (ap (λ (v : Tally). v.programs) tally ∙ programs_told u.m u.verify u.want us) (ignored_is t len job is)
    ∙ ap (λ (v : Update). report_of v (ignored_of t job.image is.regions job.meaning) (steps_by u)) (asked_is t len job is part)

pub built_is : (t : Task) (len : ℕ) (job : Job) (before after : Ahead) (x y : Option (List ℕ)) (told : Tally) → Laws → IsAccepted job.meaning → IsJob t len job
    → IsScripted job (wire x before) (wire y after) told → IsBuilt t len (wire x before) (wire y after) (job_report job told)
built_is t len job before after x y told laws accepted is done =
    let m = job.meaning in
    let work = done.work in
    let part = work.part in
    let u = asked t job.image is.regions m part in
    let same : job_update job part ≡ u = asked_is t len job is part in
    let steps = steps_by (job_update job part) in
    let w = workable_is job before after told accepted work in
    let spelled = spelled_is laws.spelled laws.has (job_update job part) w in
    let w' : CanBeDone u = subst CanBeDone same w in
    let are : IsDoneBy u steps = subst (λ (v : Update). IsDoneBy v steps) same spelled.planned in
    let report = report_is t len job is part told work.its_tally in
    record {
      wrote = record {
        image = job.image;
        regions = is.regions;
        m = m;
        accepted = is.accepted;
        content = part;
        whole = work.upto ∙ sym is.accepted.size;
        given = work.given;
        text = _;
        put = done.put;
        steps = steps;
        script = record { each = spelled.each; spelled = refl };
        task = laws.done m u.start u.verify part u.want steps w' are;
      };
      work = record {
        workable = w';
        planned = are;
        runs = runs_so laws u (ignored_of t job.image is.regions m) steps (job_report job told) w' are report;
        unverified = λ no. laws.unverified m u.start part u.want steps (subst (λ v. ArePlanned m u.start v part u.want steps) no are);
        largest = largest_so laws m (strategy m u.start) (is_due m part u.want) accepted;
        told = report;
      };
    }

-- a content that begins so has its target begin so
pub record HasParts (job : Job) (known : ℕ) (part content : List ℕ) : Type 0 where
  pub has : HasPart content (take known part) 0
  pub has' : HasPart (target_from job 0 content) (target_from job 0 (take known part)) 0

parts_are : (job : Job) (known : ℕ) (part content : List ℕ) → take known content ≡ take known part → HasParts job known part content
parts_are job known part content begins =
    let xs = take known content in
    let ys = drop known content in
    let whole : xs ++ ys ≡ content = take-append-drop known content in
    let goal : target_from job 0 (xs ++ ys) ≡ target_from job 0 xs ++ target_from job (length xs) ys = target_of_parts job 0 (length xs) xs ys (omega arith) in
    let target : target_from job 0 xs ++ target_from job (length xs) ys ≡ target_from job 0 content = sym goal ∙ ap (target_from job 0) whole in
    record {
      has = subst (λ (zs : List ℕ). HasPart content zs 0) begins (subst (λ (zs : List ℕ). HasPart zs xs 0) whole (part_front xs ys));
      has' = subst (λ (zs : List ℕ). HasPart (target_from job 0 content) (target_from job 0 zs) 0) begins
          (subst (λ (zs : List ℕ). HasPart zs (target_from job 0 xs) 0) target (part_front (target_from job 0 xs) (target_from job (length xs) ys)));
    }

front_is : (t : Task) (len : ℕ) (job : Job) (before after : Ahead) (x y : Option (List ℕ)) (why : BuildFault) → Laws → IsAccepted job.meaning → (is : IsJob t len job)
    → (cut : IsCutScript job (wire x before) (wire y after) why) → IsFrontOf job.meaning (asked t job.image is.regions job.meaning) cut.part cut.bytes why
front_is t len job before after x y why laws accepted is cut =
    let gives = image_bytes t.image t.hex job.image is.accepted.named.imaged.spelled in
    let fill = filled_is job cut.known cut.part cut.bytes accepted gives cut.windows.within cut.within cut.front in
    let some = filled job cut.known cut.part in
    record {
      window = cut.window;
      its_size = cut.its_size;
      known = cut.known;
      windows = cut.windows;
      workable = (some, fill.begins, subst CanBeDone (asked_is t len job is some) fill.workable);
      begins = λ content begins workable.
          let u = job_update job content in
          let same : u ≡ asked t job.image is.regions job.meaning content = asked_is t len job is content in
          let work : CanBeDone u = subst CanBeDone (sym same) workable in
          let parts = parts_are job cut.known cut.part content begins in
          let text = cut.front.front content u.want work.have_size parts.has parts.has' in
          let spelled = spelled_is laws.spelled laws.has u work in
          record {
            steps = steps_by u;
            planned = subst (λ (v : Update). IsDoneBy v (steps_by u)) same spelled.planned;
            rest = text.rest;
            script = record { each = spelled.each; spelled = sym text.whole };
            more = text.more;
          };
    }

pub stops_is : (t : Task) (len : ℕ) (job : Job) (before after : Ahead) (x y : Option (List ℕ)) (why : BuildFault) → Laws → IsAccepted job.meaning → IsJob t len job
    → IsCutScript job (wire x before) (wire y after) why → StopsWork t len (wire x before) (wire y after) why
stops_is t len job before after x y why laws accepted is cut = record {
  image = job.image;
  regions = is.regions;
  m = job.meaning;
  accepted = is.accepted;
  part = cut.part;
  within = omega (arith, cut.within, is.accepted.size);
  given = cut.given;
  cause = subst (λ (u : Update). WorkCause u after why) (asked_is t len job is cut.part) cut.cause;
  bytes = cut.bytes;
  front = front_is t len job before after x y why laws accepted is cut;
  put = cut.put;
}

pub cause_is_late : (u : Update) (after : Ahead) (why : BuildFault) → WorkCause u after why → IsLate why
cause_is_late u after fault.ContentShort cause = tt
cause_is_late u after (fault.Plan why) cause = tt
cause_is_late u after fault.Read cause = tt
cause_is_late u after fault.Write cause = tt
cause_is_late u after fault.Memory cause = tt
cause_is_late u after other cause = absurd cause
