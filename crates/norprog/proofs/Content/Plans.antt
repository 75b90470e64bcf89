-- The lines of a plan, window after window.
use Rattle.std.proofs.Common.{◌≡◌, ◌⊎◌, ℕ, ◌+◌, ◌/◌, ◌%◌, ◌<◌, List, [], ◌++◌, length, take, drop, Option, Err, refl, sym, ◌∙◌, ap, subst, arith, inl, inr, length-append, min, ◌-◌, None, Some, option_map}
use Rattle.std.specs.Prelude.{flat_map}
use Rattle.std.specs.Io.KnownBytes.{Appends}
use Rattle.std.proofs.Math.Nat.{zero-div}
use Rattle.std.proofs.lemmas.Grind.{flat_map-append}
use Rattle.std.proofs.lemmas.List.{length-take-le, take_all, take-append-drop, append_assoc}
use Rattle.nor_base.specs.declared.meaning.Strategy.{Strategy}
use Rattle.nor_base.specs.Device.{Ahead, Cuts, Gives, raised}
use Rattle.nor_base.specs.Need.{is_due}
use Rattle.nor_base.specs.Parameters.{Parameters}
use Rattle.nor_base.specs.Script.{closed}
use Rattle.nor_base.specs.Strategies.{strategy}
use Rattle.nor_base.specs.Units.{units_over, units_of, pages}
use Rattle.nor_base.proofs.DeviceLaws.{Appends-append, Appends-none, Gives-append}
use Rattle.nor_job.specs.Filled.{target_from, FillsWindow}
use Rattle.nor_job.specs.Written.{AreBytes, of_writer}
use Rattle.nor_job.specs.declared.fault.BuildFault.{BuildFault}
use Rattle.nor_job.specs.declared.fault.BuildFault.TheVariants as fault
use Rattle.nor_job.specs.declared.job.Job.{Job}
use Rattle.nor_job.proofs.TargetLemmas.{gives_none, length-target}
use Rattle.nor_outline.specs.Outline.{unit_plan, IsStretchPlan, IsStretchPlanOf, RefusesLines}
use Rattle.nor_outline.specs.Told.{unit_outline}
use Rattle.nor_outline.proofs.PlanText.{plan_text, lines_wrote, refused}
use Rattle.nor_outline.specs.Lines.{line_words, lines_text}
use Rattle.nor_outline.specs.declared.line.PlanLine.{PlanLine}
use Rattle.nor_steps.specs.Stretch.{stretch, extent}
use Rattle.nor_steps.specs.Tally.{nothing_told, sum_of, IsFew}
use Rattle.nor_steps.specs.Texts.{IsTold, IsBegunText}
use Rattle.nor_steps.specs.Work.{stretch_units}
use Rattle.nor_steps.specs.Writing.{Writing}
use Rattle.nor_steps.specs.declared.fault.StepsFault.{StepsFault}
use Rattle.nor_steps.specs.declared.fault.StepsFault.TheVariants as steps
use Rattle.nor_steps.specs.declared.tally.Tally.{Tally}
use Rattle.nor_base.specs.Wire.{wire}
use Rattle.norprog.specs.Planner.{Planning, IsReady, IsPlannedPart, outlined, HasTold, GoesOn, CutsPlan, StopsPlanning}
use Rattle.norprog.specs.Update.{WorkCause}
use Rattle.norprog.specs.Windows.{first_writing, lifted_steps, progress, window_of, job_update, AreRecent, IsDone, IsKnown, IsCutPlan, BeginsText}
use Rattle.norprog.proofs.Content.Places.{IsPlace, place_is}
use Rattle.norprog.proofs.Content.Stretches.{stretch_units_join, sound_join, work_none}
use Rattle.norprog.proofs.Content.Targets.{part_left, part_right, target_of_parts, bytes_of_parts}
use Rattle.norprog.proofs.Content.Windows.{steps_join, few_join, done_then_cut, ended}

-- the lines of nothing
plan_none : (m : Parameters) (by : Strategy) → IsStretchPlan m by (stretch 0 [] []) []
unfolding units_over
plan_none m by content target has has' =
    let none : 0 / m.page ≡ 0 = zero-div m.page in
    record {
      are = ap (λ n. flat_map (unit_plan m by (is_due m content target)) (units_of m by content target (pages m.page 0 n))) none;
      sound = λ x from before. absurd (omega (arith, before));
    }

-- the lines of two stretches
plan_join : (m : Parameters) (by : Strategy) (at : ℕ) (xs ys txs tys : List ℕ) (these more : List PlanLine) → 0 < m.page → at % m.page ≡ 0 → length xs ≡ at → length txs ≡ at
    → IsStretchPlan m by (stretch 0 xs txs) these → IsStretchPlan m by (stretch at ys tys) more → IsStretchPlan m by (stretch 0 (xs ++ ys) (txs ++ tys)) (these ++ more)
plan_join m by at xs ys txs tys these more some whole upto upto' first second content target has has' =
    let left : IsStretchPlanOf m by (extent 0 at content target) these =
    subst (λ n. IsStretchPlanOf m by (extent 0 n content target) these) upto (first content target (part_left content xs ys has) (part_left target txs tys has')) in
    let right : IsStretchPlanOf m by (extent at (length ys) content target) more =
    second content target (part_right content xs ys at upto has) (part_right target txs tys at upto' has') in
    let count : at + length ys ≡ length (xs ++ ys) = omega (arith, length-append xs ys, upto) in
    let plan = unit_plan m by (is_due m content target) in
    let later = stretch_units m by (extent at (length ys) content target) in
    subst (λ n. IsStretchPlanOf m by (extent 0 n content target) (these ++ more)) count (record {
      are = ap (flat_map plan) (stretch_units_join m by at (length ys) content target some whole)
          ∙ flat_map-append plan (stretch_units m by (extent 0 at content target)) later
          ∙ ap (λ front. front ++ flat_map plan later) left.are
          ∙ ap (λ rest. these ++ rest) right.are;
      sound = sound_join m by at (length ys) content target left.sound right.sound;
    })

-- before the first window
pub none_told : (job : Job) (v : Writing) (ahead : Ahead) → v ≡ first_writing job → IsPlannedPart (window_of job 0 0) (first_writing job) ahead ahead (outlined v nothing_told [])
none_told job v ahead is = record {
  part = [];
  size = refl;
  given = gives_none ahead;
  bytes = λ k. omega arith;
  steps = record {
    ops = [];
    work = work_none (first_writing job);
    state = is;
    its_tally = refl;
    few = record { steps = omega arith; erases = omega arith; erased = omega arith; programs = omega arith };
  };
  plan = plan_none job.meaning (strategy job.meaning job.start);
}

-- a window that was read and planned
pub planned_part : (job : Job) (w v : Writing) (at n : ℕ) (a b : Ahead) (part want : List ℕ) (told : Tally) (lines : List PlanLine) → length part ≡ n → Gives a part b
    → AreBytes (target_from job at part) → want ≡ target_from job at part → w.streaming.meaning ≡ job.meaning → w.streaming.by ≡ strategy job.meaning job.start
    → IsTold w v (stretch at part want) told → IsStretchPlan w.streaming.meaning w.streaming.by (stretch at part want) lines → IsPlannedPart (window_of job at n) w a b (outlined v told lines)
planned_part job w v at n a b part want told lines size given bytes target meaning driven steps plan = record {
  part = part;
  size = size;
  given = given;
  bytes = bytes;
  steps = subst (λ (want : List ℕ). IsTold w v (stretch at part want) told) target steps;
  plan = subst (λ (m : Parameters). IsStretchPlan m (strategy job.meaning job.start) (stretch at part (target_from job at part)) lines) meaning
      (subst (λ (by : Strategy). IsStretchPlan w.streaming.meaning by (stretch at part (target_from job at part)) lines) driven
      (subst (λ (want : List ℕ). IsStretchPlan w.streaming.meaning w.streaming.by (stretch at part want) lines) target plan));
}

-- neither comes of a writer
pub unread_count : (a b : Ahead) (window : List ℕ) (why : BuildFault) → FillsWindow a b (Err why) window → 0 ≡ raised 0 (of_writer why)
unread_count a b window fault.ContentShort is = refl
unread_count a b window fault.Read is = refl
unread_count a b window other is = absurd is.3

pub unplanned_count : (m : Parameters) (by : Strategy) (at : ℕ) (have want : List ℕ) (why : StepsFault) → RefusesLines m by (stretch at have want) why → 0 ≡ raised 0 (of_writer (lifted_steps why))
unplanned_count m by at have want (steps.Plan why) is = refl
unplanned_count m by at have want steps.Memory is = refl
unplanned_count m by at have want steps.Write is = absurd is

-- what was planned up to an address, and then a window
pub told_then : (job : Job) (v u : Writing) (at n window : ℕ) (a b c : Ahead) (told more : Tally) (these lines : List PlanLine) → IsPlace job.meaning window at n
    → IsPlannedPart (window_of job 0 at) (first_writing job) a b (outlined v told these) → IsPlannedPart (window_of job at n) v b c (outlined u more lines)
    → IsPlannedPart (window_of job 0 (at + n)) (first_writing job) a c (outlined u (sum_of told more) (these ++ lines))
told_then job v u at n window a b c told more these lines place first second =
    let w = first_writing job in
    let m = job.meaning in
    let by = strategy job.meaning job.start in
    let xs = first.part in
    let ys = second.part in
    let txs = target_from job 0 xs in
    let tys = target_from job at ys in
    let goal = target_of_parts job 0 at xs ys (omega (arith, first.size)) in
    let upto' : length txs ≡ at = length-target job 0 xs ∙ first.size in
    record {
      part = xs ++ ys;
      size = omega (arith, length-append xs ys, first.size, second.size);
      given = Gives-append a b c xs ys first.given second.given;
      bytes = subst AreBytes (sym goal) (bytes_of_parts txs tys first.bytes second.bytes);
      steps = subst (λ (goal : List ℕ). IsTold w u (stretch 0 (xs ++ ys) goal) (sum_of told more)) (sym goal)
          (steps_join w v u at xs ys txs tys told more place.page place.pages first.size upto' first.steps second.steps);
      plan = subst (λ (goal : List ℕ). IsStretchPlan m by (stretch 0 (xs ++ ys) goal) (these ++ lines)) (sym goal)
          (plan_join m by at xs ys txs tys these lines place.page place.pages first.size upto' first.plan second.plan);
    }

-- a writer that took the lines so far has done their part
unfoldable pub told_done : (job : Job) (v : Writing) (at : ℕ) (a b : Ahead) (x y : Option (List ℕ)) (told : Tally) (lines : List PlanLine)
    → IsPlannedPart (window_of job 0 at) (first_writing job) a b (outlined v told lines) → Appends x y (lines_text lines) → IsDone unit_outline (window_of job 0 at) (progress (first_writing job) x a) (progress v y b) told
told_done job v at a b x y told lines its put = record {
  part = its.part;
  size = its.size;
  given = its.given;
  bytes = its.bytes;
  wrote = lines_wrote (first_writing job) v x y 0 its.part (target_from job 0 its.part) told lines its.steps its.plan put;
}

-- a window that wasn't read
pub unread : (job : Job) (w : Writing) (at n : ℕ) (a b : Ahead) (window : List ℕ) (why : BuildFault) → length window ≡ n → FillsWindow a b (Err why) window
    → StopsPlanning (window_of job at n) w a b why
unread job w at n a b window fault.ContentShort size is x =
    (record { part = is.0; few = omega (arith, size, is.1); given = is.2; put = Appends-none x }, is.3)
unread job w at n a b window fault.Read size is x = record { part = is.0; few = omega (arith, size, is.1); given = is.2; put = Appends-none x }
unread job w at n a b window other size is x = absurd is.3

-- a window that was read, and has no lines
pub unplanned : (job : Job) (w : Writing) (at n : ℕ) (a b : Ahead) (part : List ℕ) (why : StepsFault) → length part ≡ n
    → AreBytes (target_from job at part) → Gives a part b → RefusesLines w.streaming.meaning w.streaming.by (stretch at part (target_from job at part)) why
    → StopsPlanning (window_of job at n) w a b (lifted_steps why)
unplanned job w at n a b part why size bytes given is x = ended unit_outline job w at n a b x x why (record {
  part = part;
  size = size;
  given = given;
  bytes = bytes;
  stops = refused w x at part (target_from job at part) why is;
})

-- then a writer that took the lines so far is cut short
pub told_then_cut : (job : Job) (v : Writing) (at n window : ℕ) (a b c : Ahead) (x y : Option (List ℕ)) (told : Tally) (lines : List PlanLine) (why : BuildFault)
    → IsPlace job.meaning window at n → IsPlannedPart (window_of job 0 at) (first_writing job) a b (outlined v told lines) → Appends x y (lines_text lines) → StopsPlanning (window_of job at n) v b c why
    → IsCutPlan job (wire x a) (wire y c) why
told_then_cut job v at n window a b c x y told lines why place its put stops =
    done_then_cut unit_outline job v at n window a b c x y y told why place (told_done job v at a b x y told lines its put) (stops y)

-- room that was written over is as long as before
pub kept_room : (new old : List ℕ) (k window : ℕ) → k ≡ length old → length new ≡ length old → length old ≡ window
    → length (take k (new ++ drop (length new) old)) ≡ window
kept_room new old k window is same upto =
    length-take-le k (new ++ drop (length new) old) (omega (arith, length-append new (drop (length new) old), is, same)) ∙ is ∙ upto

-- the next window of a planner that is ready
pub next_place : (p : Planning) (n : ℕ) → IsReady p → p.at < p.job.meaning.size → n ≡ min p.window (p.job.meaning.size - p.at) → IsPlace p.job.meaning p.window p.at n
next_place p n ready before is = place_is p.job.meaning p.window p.at n ready.accepted ready.window before (ready.aligned before) is

pub goes_on : (p : Planning) (job : Job) (v : Writing) (window room at n : ℕ) (b c : Ahead) (more told : Tally) (lines : List PlanLine) → IsReady p
    → IsPlace p.job.meaning p.window p.at n → IsPlannedPart (window_of p.job p.at n) p.work b c (outlined v more lines) → job ≡ p.job → window ≡ p.window → room ≡ p.room → at ≡ p.at + n
    → told ≡ sum_of p.told more → GoesOn p (record { job = job; work = v; window = window; room = room; at = at; told = told }) b c (Some lines)
goes_on p job v window room at n b c more told lines ready place its one two three four five =
    subst (λ (j : Job). GoesOn p (record { job = j; work = v; window = window; room = room; at = at; told = told }) b c (Some lines)) (sym one)
    (subst (λ k. GoesOn p (record { job = p.job; work = v; window = k; room = room; at = at; told = told }) b c (Some lines)) (sym two)
    (subst (λ k. GoesOn p (record { job = p.job; work = v; window = p.window; room = k; at = at; told = told }) b c (Some lines)) (sym three)
    (subst (λ k. GoesOn p (record { job = p.job; work = v; window = p.window; room = p.room; at = k; told = told }) b c (Some lines)) (sym four)
    (subst (λ (t : Tally). GoesOn p (record { job = p.job; work = v; window = p.window; room = p.room; at = p.at + n; told = t }) b c (Some lines)) (sym five) (
      record {
        accepted = ready.accepted;
        window = ready.window;
        room = ready.room;
        meaning = ap (λ (w : Writing). w.streaming.meaning) its.steps.state ∙ ready.meaning;
        driven = ap (λ (w : Writing). w.streaming.by) its.steps.state ∙ ready.driven;
        within = place.inside;
        few = subst (λ k. IsFew (p.at + k) (sum_of p.told more)) its.size (few_join p.at (length its.part) p.told more ready.few its.steps.few);
        aligned = place.aligned;
      },
      refl,
      omega (arith, place.some),
      λ first these has. told_then p.job p.work v p.at n p.window first b c p.told more these lines place has its,
    )))))

-- none is left
pub ends_on : {L : Type 0} (items : L → List PlanLine) (p q : Planning) (b c : Ahead) (o : Option L) → ((x : L) → o ≡ Some x → ⊥) → GoesOn p q b c (option_map items o)
    → (q ≡ p) × (c ≡ b) × (p.at ≡ p.job.meaning.size)
ends_on items p q b c None none goes = goes
ends_on items p q b c (Some x) none goes = absurd (none x refl)

-- or why there is none
pub no_window : (p : Planning) (n : ℕ) (b c : Ahead) (why : BuildFault) → IsPlace p.job.meaning p.window p.at n → StopsPlanning (window_of p.job p.at n) p.work b c why → CutsPlan p b c why
no_window p n b c why place stops first these x y has put =
    told_then_cut p.job p.work p.at n p.window first b c x y p.told these why place has put stops

pub lines_two : (these more : List PlanLine) → lines_text (these ++ more) ≡ lines_text these ++ lines_text more
lines_two these more = flat_map-append (λ (l : PlanLine). closed (line_words l)) these more

-- some of the text of lines, from its beginning on
begun_lines : (w : Writing) (have want : List ℕ) (lines : List PlanLine) (front rest : List ℕ) → IsStretchPlan w.streaming.meaning w.streaming.by (stretch 0 have want) lines
    → lines_text lines ≡ front ++ rest → IsBegunText unit_outline w (stretch 0 have want) front
begun_lines w have want lines front rest plan is content target has has' =
    let of = plan_text w 0 have want lines plan content target has has' in
    record { rest = rest; whole = of.are ∙ is; sound = of.sound }

-- a writer stopped in the text of the lines so far
cut_at : (p : Planning) (a b : Ahead) (x y : Option (List ℕ)) (lines : List PlanLine) (front rest : List ℕ) (why : BuildFault) → IsReady p → (its : HasTold p a b lines)
    → lines_text lines ≡ front ++ rest → Appends x y front → WorkCause (job_update p.job its.part) b why → AreRecent p.job.meaning.size p.window (length its.part) (length its.part) why
    → ((have want : List ℕ) → IsBegunText unit_outline (first_writing p.job) (stretch 0 have want) front → BeginsText unit_outline (first_writing p.job) (stretch 0 have want) front why)
    → IsCutPlan p.job (wire x a) (wire y b) why
cut_at p a b x y lines front rest why ready its is put cause recent begins =
    let job = p.job in
    let w = first_writing job in
    let part = its.part in
    let read = length part in
    let all = sym (take_all read part (omega arith)) in
    record {
      part = part;
      within = omega (arith, its.size, ready.within);
      given = its.given;
      cause = cause;
      window = p.window;
      its_size = ready.window;
      known = read;
      windows = record {
        within = omega arith;
        whole = λ less. ap (λ n. n % p.window) its.size ∙ ready.aligned (omega (arith, less, its.size));
        recent = recent;
      };
      bytes = front;
      front = subst (λ (part : List ℕ). IsKnown unit_outline job part front why) all
          (record { bytes = its.bytes; begun = begins part (target_from job 0 part) (begun_lines w part (target_from job 0 part) lines front rest its.plan is) });
      put = put;
    }

pub cut_anywhere : (p : Planning) (a b : Ahead) (x y : Option (List ℕ)) (lines : List PlanLine) (front rest : List ℕ) (why : BuildFault) → IsReady p → HasTold p a b lines
    → lines_text lines ≡ front ++ rest → Appends x y front → (why ≡ fault.Write) ⊎ (why ≡ fault.Memory) → IsCutPlan p.job (wire x a) (wire y b) why
cut_anywhere p a b x y lines front rest why ready its is put (inl write) =
    subst (IsCutPlan p.job (wire x a) (wire y b)) (sym write) (cut_at p a b x y lines front rest fault.Write ready its is put tt refl (λ have want begun. begun))
cut_anywhere p a b x y lines front rest why ready its is put (inr memory) =
    subst (IsCutPlan p.job (wire x a) (wire y b)) (sym memory) (cut_at p a b x y lines front rest fault.Memory ready its is put tt (inl refl) (λ have want begun. begun))

-- a writer that failed at the last window's lines
pub written_cut : (p : Planning) (a b : Ahead) (x y z : Option (List ℕ)) (these more : List PlanLine) → IsReady p → HasTold p a b (these ++ more)
    → Appends x y (lines_text these) → Cuts y z (lines_text more) → IsCutPlan p.job (wire x a) (wire z b) fault.Write
written_cut p a b x y z these more ready its put cut =
    let front = lines_text these in
    let text = lines_text more in
    let is : lines_text (these ++ more) ≡ (front ++ take cut.0 text) ++ drop cut.0 text =
    lines_two these more ∙ ap (λ rest. front ++ rest) (sym (take-append-drop cut.0 text)) ∙ sym (append_assoc front (take cut.0 text) (drop cut.0 text)) in
    cut_anywhere p a b x z (these ++ more) (front ++ take cut.0 text) (drop cut.0 text) fault.Write ready its is (Appends-append x y z front (take cut.0 text) put cut.2) (inl refl)
