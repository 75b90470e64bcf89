-- What follows for every chip from a chip that was read and planned for, and from the work on it.
use Rattle.std.proofs.Common.{◌≡◌, ◌≤◌, ◌<◌, ◌^◌, [], ◌∷◌, ℕ, Bool, true, false, List, All, length, refl, sym, ◌∙◌, ap, subst, arith}
use Rattle.std.specs.List.{slice_index}
use Rattle.nor_base.specs.declared.step.Step.{Step}
use Rattle.nor_base.specs.declared.meaning.Start.{Start}
use Rattle.nor_base.specs.Parameters.{Parameters}
use Rattle.nor_base.specs.Planned.{ArePlanned, IsWorkable}
use Rattle.nor_flasher.specs.Apart.{given, BreaksApart, ClosesApart}
use Rattle.nor_flasher.specs.Laws.{Closes, Breaks, PlannedIsDoable, Rests}
use Rattle.nor_flasher.specs.Within.{IsPlannedWithin}
use Rattle.nor_job.proofs.ChipLemmas.{one_chip}
use Rattle.nor_job.specs.Status.{start_of}
use Rattle.nor_loop.specs.Laws.{ReadTwice}
use Rattle.nor_reader.specs.AtOnce.{at_once}
use Rattle.nor_reader.specs.declared.by.ReadBy.{ReadBy}
use Rattle.nor_serprog.specs.declared.halt.Halt.{Halt}
use Rattle.nor_serprog.specs.Done.{HasDoneAll, IsDoable}
use Rattle.nor_serprog.specs.Row.{HasHalted}
use Rattle.nor_base.specs.Wire.{Wire}
use Rattle.norprog_flash.specs.Begun.{ask_of, HasPlanned, Printed, Session}
use Rattle.norprog_flash.specs.Ended.{chip_in}
use Rattle.norprog_device.specs.Doing.{HasRested}
use Rattle.norprog_flash.specs.Worked.{HasPart, doing_in}
use Rattle.norprog_flash.specs.Task.{dump_of, goal_of, task_on}
use Rattle.norprog.specs.Stepper.{Stepping, steps_by, update_of}
use Rattle.norprog.specs.Update.{Update, update, IsDoneBy}
use Rattle.norprog.specs.declared.report.Report.{Report}
use Rattle.norprog_read.specs.Chip.{GivesContent, way_by}
use Rattle.norprog_read.specs.Span.{came}
use Rattle.norprog_read.specs.Way.{Way}
use Rattle.norprog_flash.specs.Work.{Plan}
use Rattle.norprog_flash.proofs.PartLemmas.{IsRead, part_borders, read_part}
use Rattle.norprog_flash.proofs.StopsLemmas.{part_on_chip}
use Rattle.norprog_flash.proofs.WithinLemmas.{kept_outside, planned_within}

-- of a part of a content that was wanted the bytes came twice
given_twice : (w : Way) (before after : Wire) (wanted : Bool) (content : List ℕ) → wanted ≡ true → GivesContent w before after wanted content
    → ReadTwice before after w.m (record w.start { quad = false }) (came w.part content)
given_twice w before after true content is given = given.known false
given_twice w before after false content is given = absurd cc

module _ (s : Session) (before read : Wire) (p : Plan) (out : Printed) (planned : HasPlanned s before read p out) where
  abbrev start : Start
  start = start_of (task_on s.job s.reading)

  -- the work is that of the meaning that was read
  chip : planned.plan.work.m ≡ s.reading.meaning
  chip = one_chip planned.plan.work.accepted.means planned.read.read.means.means

  pub workable : IsWorkable s.reading.meaning start s.reading.content.items p.goal
  workable = subst (λ (m : Parameters). IsWorkable m start s.reading.content.items p.goal) chip planned.plan.work.workable

  pub steps_planned : ArePlanned s.reading.meaning start true s.reading.content.items p.goal p.steps
  steps_planned = subst (λ (m : Parameters). ArePlanned m start true s.reading.content.items p.goal p.steps) chip planned.plan.work.planned

  -- a stepper of that work makes its steps
  pub steps_are : (stepping : Stepping) (begins : Start) (have want : List ℕ) → begins ≡ start → have ≡ s.reading.content.items → want ≡ p.goal
      → update_of stepping ≡ update s.reading.meaning begins true have want → ((steps : List Step) → IsDoneBy (update_of stepping) steps → steps ≡ steps_by (update_of stepping))
      → p.steps ≡ steps_by (update_of stepping)
  steps_are stepping begins have want first second third same only =
      let all = same ∙ ap (λ (x : Start). update s.reading.meaning x true have want) first ∙ ap (λ (xs : List ℕ). update s.reading.meaning start true xs want) second
      ∙ ap (update s.reading.meaning start true s.reading.content.items) third in
      only p.steps (subst (λ (u : Update). IsDoneBy u p.steps) (sym all) steps_planned)

  -- the part that was read lies in the goal
  pub part_in_goal : (by : ReadBy) (larger : Bool) → HasPart (record { bytes = p.goal; part = s.reading.span; by = by; larger = larger })
  part_in_goal by larger =
      let part = part_on_chip (ask_of s.job planned.read.near) s.reading.meaning s.reading.span planned.read.read.asked_for in
      let most : s.reading.meaning.size ≤ 2 ^ 28 = workable.accepted.size_high in
      record {
        order = part.0;
        within = omega (arith, part.1, workable.want_size);
        begins = omega (arith, part.0, part.1, most);
        few = omega (arith, most, workable.want_size);
      }

  -- as many as are reported
  pub count_is : p.report.steps ≡ length p.steps
  count_is = ap (λ (r : Report). r.steps) planned.plan.work.report

  pub steps_doable : PlannedIsDoable → All IsDoable p.steps
  steps_doable law = law s.reading.meaning start true s.reading.content.items p.goal p.steps steps_planned

  -- what it must hold in the end, of what it holds
  abbrev target : List ℕ → List ℕ
  target = goal_of (task_on s.job s.reading) planned.plan.work.image planned.plan.work.regions (dump_of s.job)

  module _ (whole : s.job.ask.content ≡ true) (bytes : (a : ℕ) → slice_index s.reading.content.items a < 256) where
    twice : ReadTwice planned.read.read.ready planned.read.read.held s.reading.meaning start (given (chip_in s))
    twice = given_twice (way_by (at_once s.limits) (ask_of s.job planned.read.near) s.reading.tables.items s.reading.meaning s.reading.span) _ _ s.job.ask.content
        s.reading.content.items whole planned.read.read.content

    -- the part that was read
    part : IsRead s.job s.reading.meaning s.reading.span
    part = read_part s.job s.reading.meaning planned.read.near s.reading.span whole planned.read.goes_near planned.read.read.asked_for

    within : IsPlannedWithin (chip_in s) target p.steps
    within = planned_within (chip_in s) (task_on s.job s.reading) planned.plan.work.image planned.plan.work.regions (dump_of s.job) p.steps
        (part_borders s.job s.reading.meaning s.reading.span workable.accepted part)
        (kept_outside s.job s.reading.tables.items (length s.reading.content.items) s.reading.meaning s.reading.span planned.plan.work.image planned.plan.work.regions
        part planned.plan.work.accepted.named) planned.plan.fits
        (record { size = workable.have_size; bytes = bytes })
        (record {
          workable = subst (λ (w : List ℕ). IsWorkable s.reading.meaning start s.reading.content.items w) planned.plan.work.goal_is workable;
          planned = subst (λ (w : List ℕ). ArePlanned s.reading.meaning start true s.reading.content.items w p.steps) planned.plan.work.goal_is steps_planned;
        })

    pub every_flashes : Closes → (done : Wire) → HasDoneAll read done s.limits s.job.ask.turns p.steps
        → ClosesApart planned.read.read.ready planned.read.read.held read done (chip_in s) target p.steps
    every_flashes law done did =
        law _ _ read.held done.held _ _ read.ahead done.ahead s.limits s.job.ask.turns (chip_in s) target p.steps within twice did

    pub every_keeps : Breaks → (last : Wire) (halt : Halt) → (halted : HasHalted read last s.limits s.job.ask.turns p.steps halt)
        → BreaksApart planned.read.read.ready planned.read.read.held read (chip_in s) target p.steps halt.step (halted.at ∷ halted.beyond)
    every_keeps law last halt halted =
        law _ _ read.held last.held _ _ read.ahead last.ahead s.limits s.job.ask.turns (chip_in s) target p.steps halt refl within twice halted

    pub every_rests : Rests → (last : Wire) (step : ℕ) → (rested : HasRested (doing_in s) read last p.steps step)
        → BreaksApart planned.read.read.ready planned.read.read.held read (chip_in s) target p.steps step (rested.next ∷ [])
    every_rests law last step rested =
        let Broken : List Step → ℕ → Type 0 =
        λ xs n. BreaksApart planned.read.read.ready planned.read.read.held read (chip_in s) target xs n (rested.next ∷ []) in
        subst (Broken p.steps) (sym rested.number)
        (subst (λ (xs : List Step). Broken xs (length rested.front)) (sym rested.those)
        (law _ _ read.held last.held _ _ read.ahead last.ahead s.limits s.job.ask.turns (chip_in s) target rested.front rested.next rested.rest refl
        (subst (IsPlannedWithin (chip_in s) target) rested.those within) twice rested.done))
