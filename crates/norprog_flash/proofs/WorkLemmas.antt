-- The work of the narrowed task is the work of the task.
use Rattle.std.proofs.Common.{◌≡◌, ◌⊎◌, inl, inr, ℕ, ◌+◌, ◌<◌, ◌^◌, List, [], ◌∷◌, length, map, refl, sym, ap, subst, ◌∙◌, arith}
use Rattle.std.specs.List.{enumerate_from}
use Rattle.nor_base.specs.declared.step.Step.{Step}
use Rattle.nor_base.specs.Parameters.{Parameters}
use Rattle.nor_base.specs.Target.{target}
use Rattle.nor_hex.specs.Image.{Pairs, byte_at}
use Rattle.nor_job.proofs.ChipLemmas.{one_chip}
use Rattle.nor_job.specs.declared.fault.BuildFault.{BuildFault}
use Rattle.nor_job.specs.declared.fault.BuildFault.TheVariants.{Memory}
use Rattle.nor_job.proofs.OneLemmas.{image_same, regions_same}
use Rattle.nor_job.specs.Causes.{AreAccepted, HasRegions}
use Rattle.nor_job.specs.Status.{start_of}
use Rattle.nor_job.specs.Task.{Task}
use Rattle.nor_job.specs.Wanted.{wanted}
use Rattle.nor_laws.specs.Laws.{TargetGives, TargetKeeps}
use Rattle.nor_layout.specs.Region.{Region}
use Rattle.norprog.specs.Build.{ignored_of, report_of}
use Rattle.norprog.specs.PlanWindows.{plan_text}
use Rattle.norprog.specs.Update.{Update, update, asked, CanBeDone, IsDoneBy}
use Rattle.norprog.specs.declared.report.Report.{Report}
use Rattle.norprog_flash.specs.declared.goal.Goal.{Goal}
use Rattle.norprog_flash.specs.Narrowed.{narrowed, SpansDifference}
use Rattle.norprog_flash.specs.Refused.{IsCause, RefusesWork, StopsPlanning}
use Rattle.norprog_flash.specs.Work.{HasPlan, IsGoal, IsWork}
use Rattle.norprog_flash.proofs.NarrowedLemmas.{target_is_wanted}

module _ (keeps : TargetKeeps) (gives : TargetGives) (t : Task) (content old : List ℕ) (narrow : Pairs) (goal : Goal) (g : IsGoal t old goal)
    (sizes : length content ≡ length old)
    (spans : SpansDifference content goal.bytes.items narrow) where
  -- there is a byte of the goal for each of the content
  long : length content ≡ length goal.bytes.items
  long = sizes ∙ sym g.size

  few : length goal.bytes.items < 2 ^ 32
  few = let size = g.size in let below = g.few in omega (arith, size, below)

  -- the narrowed task has the same chip and target
  same_chip : (image : Pairs) (regions : List Region) (m : Parameters) → AreAccepted (narrowed t narrow) (length content) image regions m → m ≡ g.m
  same_chip image regions m is = one_chip is.means g.accepted.means

  same_target : (image : Pairs) (regions : List Region) (m : Parameters) → AreAccepted (narrowed t narrow) (length content) image regions m
      → wanted (narrowed t narrow) image regions content ≡ goal.bytes.items
  same_target image regions m is =
      target_is_wanted keeps gives content goal.bytes.items image (subst (SpansDifference content goal.bytes.items) (sym is.named.imaged.spelled.0) spans) long few regions

  here : AreAccepted t (length content) g.image g.regions g.m
  here = subst (λ n. AreAccepted t n g.image g.regions g.m) (sym sizes) g.accepted

  -- what is so of the narrowed task's chip and target is so of the task's
  over : (P : Parameters → List ℕ → Type 0) (image : Pairs) (regions : List Region) (m : Parameters)
      → AreAccepted (narrowed t narrow) (length content) image regions m → P m (wanted (narrowed t narrow) image regions content)
      → P g.m (wanted t g.image g.regions old)
  over P image regions m is p =
      subst (P g.m) g.bytes
      (subst (λ (n : Parameters). P n goal.bytes.items) (same_chip image regions m is) (subst (P m) (same_target image regions m is) p))

  stops_are : (why : BuildFault) → StopsPlanning (narrowed t narrow) content content why → StopsPlanning t content old why
  stops_are why s = record {
    image = g.image;
    regions = g.regions;
    m = g.m;
    accepted = here;
    cause = over (λ (m : Parameters) (w : List ℕ). IsCause m (start_of t) content w why) s.image s.regions s.m s.accepted s.cause;
  }

  -- memory was refused
  pub starved : RefusesWork t content old Memory
  starved = inr (record { image = g.image; regions = g.regions; m = g.m; accepted = here; cause = tt })

  pub planning_refused : (why : BuildFault) → StopsPlanning (narrowed t narrow) content content why ⊎ (why ≡ Memory) → RefusesWork t content old why
  planning_refused why (inl stops) = inr (stops_are why stops)
  planning_refused why (inr memory) = subst (RefusesWork t content old) (sym memory) starved

  module _ (lines : List ℕ) (report : Report) (plan : HasPlan (narrowed t narrow) content lines report) where
    abbrev goal_update : Update
    goal_update = update g.m (start_of t) t.verify content goal.bytes.items

    same : asked (narrowed t narrow) plan.image plan.regions plan.m content ≡ goal_update
    same =
        ap (λ (m : Parameters). update m (start_of t) t.verify content (wanted (narrowed t narrow) plan.image plan.regions content))
        (same_chip plan.image plan.regions plan.m plan.accepted)
        ∙ ap (update g.m (start_of t) t.verify content) (same_target plan.image plan.regions plan.m plan.accepted)

    told : (r : Report) → r ≡ record report { ignored = goal.ignored } → r ≡ report_of goal_update (ignored_of t g.image g.regions g.m) plan.steps
    told r is =
        is ∙ ap (λ (x : Report). record x { ignored = goal.ignored }) plan.told ∙ ap (λ (u : Update). report_of u goal.ignored plan.steps) same
        ∙ ap (λ (n : ℕ). report_of goal_update n plan.steps) g.ignored

    pub work_is : (r : Report) → r ≡ record report { ignored = goal.ignored }
        → (steps : List Step) × IsWork t content old (record { goal = goal.bytes.items; steps = steps; lines = lines; report = r })
    work_is r is = (
      plan.steps,
      record {
        image = g.image;
        regions = g.regions;
        m = g.m;
        accepted = here;
        goal_is = g.bytes;
        workable = subst CanBeDone same plan.workable;
        planned = subst (λ (u : Update). IsDoneBy u plan.steps) same plan.planned;
        lines = subst (λ (u : Update). lines ≡ plan_text u.m u.start u.have u.want) same plan.text;
        report = told r is;
      },
    )

-- ---- work to the target of the content itself

each_same : (f g : ℕ × ℕ → ℕ) → ((p : ℕ × ℕ) → f p ≡ g p) → (ps : List (ℕ × ℕ)) → map f ps ≡ map g ps
each_same f g same [] = refl
each_same f g same (p ∷ ps) = rw (same p, each_same f g same ps) refl

-- a task has one target
wanted_same : (t : Task) (a b : Pairs) (regions : List Region) (content : List ℕ) → ((address : ℕ) → byte_at a address ≡ byte_at b address)
    → wanted t a regions content ≡ wanted t b regions content
unfolding target
wanted_same t a b regions content same = each_same _ _ (λ p. rw (same (t.base + p.0)) refl) (enumerate_from 0 content)

module _ (t : Task) (content : List ℕ) (goal : Goal) (g : IsGoal t content goal) where
  pub fresh_is : (lines : List ℕ) (report : Report) (plan : HasPlan t content lines report)
      → (steps : List Step) × IsWork t content content (record { goal = goal.bytes.items; steps = steps; lines = lines; report = report })
  fresh_is lines report plan =
      let named : HasRegions t g.image g.regions = g.accepted.named in
      let other : HasRegions t plan.image plan.regions = plan.accepted.named in
      let regions = regions_same t.layout g.regions plan.regions named.layout other.layout in
      let is : goal.bytes.items ≡ wanted t plan.image plan.regions content =
      g.bytes ∙ ap (λ rs. wanted t g.image rs content) regions
      ∙ wanted_same t g.image plan.image plan.regions content (image_same t.image t.hex g.image plan.image named.imaged.spelled other.imaged.spelled) in (
        plan.steps,
        record {
          image = plan.image;
          regions = plan.regions;
          m = plan.m;
          accepted = plan.accepted;
          goal_is = is;
          workable = subst (λ (w : List ℕ). CanBeDone (update plan.m (start_of t) t.verify content w)) (sym is) plan.workable;
          planned = subst (λ (w : List ℕ). IsDoneBy (update plan.m (start_of t) t.verify content w) plan.steps) (sym is) plan.planned;
          lines = subst (λ (w : List ℕ). lines ≡ plan_text plan.m (start_of t) content w) (sym is) plan.text;
          report = subst (λ (w : List ℕ). report ≡ report_of (update plan.m (start_of t) t.verify content w) (ignored_of t plan.image plan.regions plan.m) plan.steps) (sym is) plan.told;
        },
      )

  pub fresh_refused : (why : BuildFault) → StopsPlanning t content content why ⊎ (why ≡ Memory) → RefusesWork t content content why
  fresh_refused why (inl stops) = inr stops
  fresh_refused why (inr memory) =
      subst (RefusesWork t content content) (sym memory) (inr (record { image = g.image; regions = g.regions; m = g.m; accepted = g.accepted; cause = tt }))
