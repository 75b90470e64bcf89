-- Why work isn't begun on a chip that was read.
use Rattle.std.proofs.Common.{◌≡◌, ◌≤◌, ◌⊎◌, ◌∙◌, ℕ, Bool, true, false, List, length, Option, Some, Result, Ok, Err, IfErr, inl, refl, sym, ap, subst, arith}
use Rattle.std.specs.Prelude.{MatchResult}
use Rattle.nor_reader.specs.AtOnce.{at_once}
use Rattle.nor_base.specs.declared.meaning.Start.{Start}
use Rattle.nor_base.specs.Parameters.{Parameters}
use Rattle.nor_hex.specs.Image.{Pairs}
use Rattle.nor_job.specs.declared.fault.BuildFault.{BuildFault}
use Rattle.nor_job.specs.declared.fault.BuildFault.TheVariants.{ContentSize, Memory}
use Rattle.nor_job.specs.Status.{start_of}
use Rattle.nor_job.specs.Task.{Task}
use Rattle.nor_reader.specs.declared.by.ReadBy.{ReadBy}
use Rattle.nor_reader.specs.Harmless.{HasSentHarmless, SendsHarmless}
use Rattle.nor_reader.specs.Laws.{GivesBy}
use Rattle.nor_serprog.specs.declared.limits.Limits.{Limits}
use Rattle.norprog_common.specs.declared.faults.Refusal.{Refusal}
use Rattle.norprog_common.specs.declared.faults.Refusal.TheVariants.{Build}
use Rattle.norprog_common.specs.Rules.{BreaksRules}
use Rattle.nor_base.specs.Wire.{Wire}
use Rattle.norprog_flash.specs.declared.ending.Unflashed.{Unflashed}
use Rattle.norprog_flash.specs.declared.ending.Unflashed.TheVariants.{Refused, Closed}
use Rattle.norprog_flash.specs.declared.dump.Dump.{Dump}
use Rattle.norprog_flash.specs.declared.job.Job.{Job}
use Rattle.norprog_flash.specs.Dump.{AreOfPart, is_of_part}
use Rattle.norprog_flash.specs.Begun.{ask_of, is_closed, printed, rules_on, start_at}
use Rattle.norprog_flash.specs.Early.{Breaking, BreaksEarly, RefusesEarly, early_task, file_tables, is_known}
use Rattle.norprog_flash.specs.declared.ending.Ending.TheVariants.{Compared}
use Rattle.norprog_flash.specs.Ended.{Comparing, IsCompared}
use Rattle.norprog_flash.specs.declared.compared.Comparison.{Comparison}
use Rattle.norprog_flash.specs.Compared.{IsComparison}
use Rattle.nor_job.specs.Causes.{RefusesInputs}
use Rattle.norprog_flash.specs.Opened.{AtChip, StopsHolding, Tests}
use Rattle.norprog_flash.specs.Near.{IsNear}
use Rattle.norprog_flash.specs.Stops.{CantPlan, OtherPart, StopsBefore, Unplanned, Unsuited}
use Rattle.norprog_flash.specs.Task.{blank_image, dump_of, first_held, imaged_task, task_on}
use Rattle.norprog_read.specs.declared.asked.Reading.{Reading}
use Rattle.norprog_read.specs.declared.asked.Span.{Span}
use Rattle.norprog_read.specs.declared.asked.Ask.{Ask}
use Rattle.norprog_read.specs.Chip.{GivesContent, HasReadChip, way_by}
use Rattle.norprog_read.specs.Span.{All as AllOfIt, Around, IsPart, Nothing}
use Rattle.norprog_read.specs.Way.{first_by, first_of, Way}

-- the part that is asked for lies on the chip
pub part_on_chip : (ask : Ask) (m : Parameters) (part : Span) → IsPart ask m part → (part.low ≤ part.high) × (part.high ≤ m.size)
part_on_chip ask m part (Nothing none) = (omega arith, omega arith)
part_on_chip ask m part (AllOfIt wanted near) = (omega arith, omega arith)
part_on_chip ask m part (Around near window wanted given wide) = (omega arith, omega arith)

whole_content : (w : Way) (before after : Wire) (wanted : Bool) (content : List ℕ) → wanted ≡ true → GivesContent w before after wanted content
    → length content ≡ w.m.size
whole_content w before after true content is given = given.whole
whole_content w before after false content is given = absurd cc

given_way : (w : Way) (before after : Wire) (wanted : Bool) (content : List ℕ) → wanted ≡ true → GivesContent w before after wanted content
    → GivesBy w.m w.start (first_of w)
given_way w before after true content is given = given.way
given_way w before after false content is given = absurd cc

module _ (most : ℕ) (w v : Wire) (job : Job) (near : Option Span) (r : Reading) (goes : IsNear job near) (read : HasReadChip most w v (ask_of job near) r) where
  pub closed : (start : Start) → start ≡ start_at job r.status → is_closed job start r.status ≡ true → StopsBefore most w v job (Closed r.status)
  closed start begins is = Unsuited near r (Closed r.status) goes read (refl, ap (λ (s : Start). is_closed job s r.status) (sym begins) ∙ is)

  -- a chip whose content was read is read so
  pub way_there : (start : Start) → start ≡ start_of (task_on job r) → job.ask.content ≡ true → (by : ReadBy) → by ≡ first_by r.meaning start
      → GivesBy r.meaning (start_of (task_on job r)) by
  way_there start begins whole by is =
      subst (GivesBy r.meaning (start_of (task_on job r))) (sym (is ∙ ap (first_by r.meaning) begins))
      (given_way (way_by most (ask_of job near) r.tables.items r.meaning r.span) _ _ job.ask.content r.content.items whole read.content)

  -- and the part lies in it
  pub part_there : job.ask.content ≡ true → (r.span.low ≤ r.span.high) × (r.span.high ≤ length r.content.items)
  part_there whole =
      let part = part_on_chip (ask_of job near) r.meaning r.span read.asked_for in
      let size = whole_content (way_by most (ask_of job near) r.tables.items r.meaning r.span) _ _ job.ask.content r.content.items whole read.content in
      (part.0, omega (arith, part.1, size))

  pub unruled : (why : Refusal) → BreaksRules (rules_on job) (task_on job r) (length r.content.items) why ⊎ (why ≡ Build Memory) → StopsBefore most w v job (Refused why)
  unruled why breaks = Unsuited near r (Refused why) goes read breaks

pub or_memory : {T : Type 0} (P : Refusal → Type 0) (result : Result T Refusal) → IfErr result P → IfErr result (λ why. P why ⊎ (why ≡ Build Memory))
or_memory P (Ok x) is = tt
or_memory P (Err why) is = inl is

-- one of these, after the line was tested
pub holds_not : {T : Type 0} (limits : Limits) (job : Job) (first ready last : Wire) (result : Result T Unflashed) → Tests limits first ready (Ok tt)
    → IfErr result (StopsBefore (at_once limits) ready last job) → MatchResult result (λ _. HasSentHarmless ready.held last.held) (λ _. SendsHarmless ready.held last.held)
    → IfErr result (StopsHolding limits job first last)
holds_not limits job first ready last (Ok held) tested stops harmless = tt
holds_not limits job first ready last (Err why) tested stops harmless = AtChip ready why tested stops harmless

-- a rule is broken before the chip is read
pub breaking : {T : Type 0} (job : Job) (result : Result T Refusal) → IfErr result (BreaksEarly job.rules (is_known job.ask.known) (early_task job))
    → IfErr result (RefusesEarly job)
breaking job (Ok x) breaks = tt
breaking job (Err why) breaks = Breaking why breaks

-- the inputs are those of a job whose chip wasn't read
pub early : (job : Job) (t : Task) (tables : List ℕ) (image : Option Pairs) → t ≡ imaged_task job tables image → tables ≡ file_tables job.ask.known
    → image ≡ blank_image job.blank 0 → t ≡ early_task job
early job t tables image task same its =
    task ∙ (ap (λ (xs : List ℕ). imaged_task job xs image) same ∙ ap (imaged_task job (file_tables job.ask.known)) its)

-- ---- whether the work is planned

-- what is so of slices and inputs is so of the chip that was read
pub on_chip : (job : Job) (r : Reading) (t : Task) (tables content : List ℕ) (image : Option Pairs) → t ≡ imaged_task job tables image → tables ≡ r.tables.items
    → content ≡ r.content.items → image ≡ blank_image job.blank (length content) → t ≡ task_on job r
on_chip job r t tables content image task same all its =
    task ∙ (ap (λ (xs : List ℕ). imaged_task job xs image) same ∙ ap (imaged_task job r.tables.items) (its ∙ ap (λ (xs : List ℕ). blank_image job.blank (length xs)) all))

pub over : (P : Task → List ℕ → List ℕ → Type 0) (job : Job) (r : Reading) (t : Task) (content old : List ℕ) → t ≡ task_on job r
    → content ≡ r.content.items → old ≡ first_held job r → P t content old → P (task_on job r) r.content.items (first_held job r)
over P job r t content old task all first is =
    subst (λ (x : Task). P x r.content.items (first_held job r)) task
    (subst (λ (xs : List ℕ). P t xs (first_held job r)) all (subst (λ (xs : List ℕ). P t content xs) first is))

-- an older dump isn't of just the part that was read
pub other_part : (job : Job) (r : Reading) (o : Option (List ℕ)) (dump : Dump) (content : List ℕ) (fits : Bool) → dump_of job ≡ Some dump
    → content ≡ r.content.items → fits ≡ is_of_part dump r.span content → fits ≡ false → CantPlan job r (printed o o) (Build ContentSize)
other_part job r o dump content fits same all is none = OtherPart no refl
  where
    no : AreOfPart (dump_of job) r.span r.content.items → ⊥
    no of_part =
        let here : is_of_part dump r.span r.content.items ≡ true = subst (λ d. AreOfPart d r.span r.content.items) same of_part in
        let both : true ≡ false = sym here ∙ ap (is_of_part dump r.span) (sym all) ∙ sym is ∙ none in
        absurd cc

-- ---- whether it is compared
pub compared : (job : Job) (r : Reading) (t : Task) (content : List ℕ) (c : Comparison) → t ≡ task_on job r → content ≡ r.content.items → IsComparison t content c
    → IsCompared job r (Compared c)
compared job r t content c task all is =
    Comparing c (subst (λ (x : Task). IsComparison x r.content.items c) task (subst (λ (xs : List ℕ). IsComparison t xs c) all is))

pub not_compared : (job : Job) (r : Reading) (text : Option (List ℕ)) (t : Task) (content : List ℕ) (why : BuildFault) → t ≡ task_on job r → content ≡ r.content.items
    → RefusesInputs t (length content) why → CantPlan job r (printed text text) (Build why)
not_compared job r text t content why task all is =
    Unplanned why (inl (subst (λ (x : Task). RefusesInputs x (length r.content.items) why) task (subst (λ (xs : List ℕ). RefusesInputs t (length xs) why) all is))) refl
