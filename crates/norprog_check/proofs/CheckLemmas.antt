-- From a job to what a check promises of its inputs.
use Rattle.std.proofs.Common.{◌≡◌, ℕ, ◌+◌, ◌<◌, ◌≤◌, ◌==◌, ◌^◌, List, length, Option, Some, None, refl, sym, ◌∙◌, ap, subst, arith}
use Rattle.std.specs.Prelude.{◌↔◌, unwrap_or}
use Rattle.nor_base.specs.declared.meaning.Start.{Start}
use Rattle.nor_base.specs.declared.step.Step.{Step}
use Rattle.nor_base.specs.Device.{Ahead}
use Rattle.nor_base.specs.Run.{DoesTaskOnEvery}
use Rattle.nor_check.specs.declared.verdict.Verdict.{Verdict}
use Rattle.nor_check.specs.declared.verdict.Verdict.TheVariants.{Yes, No}
use Rattle.nor_check.specs.declared.verdict.Why.{Why}
use Rattle.nor_check.specs.declared.verdict.Witness.{Witness}
use Rattle.nor_check.specs.Outcome.{trial}
use Rattle.nor_check.specs.Witness.{Witnesses, reads_before, even}
use Rattle.nor_check.specs.Worst.{IsWorst}
use Rattle.nor_job.specs.declared.job.Job.{Job}
use Rattle.nor_job.specs.Job.{IsJob}
use Rattle.nor_job.specs.Status.{start_of}
use Rattle.nor_job.specs.Task.{Task}
use Rattle.nor_job.specs.Wanted.{wanted}
use Rattle.nor_job.proofs.TargetLemmas.{length-target, target_is}
use Rattle.nor_check.specs.Fed.{Fed, IsShown, to_come}
use Rattle.nor_base.specs.Parameters.{Parameters}
use Rattle.norprog_check.specs.declared.finding.Finding.{Finding}
use Rattle.norprog_check.specs.declared.finding.ShowingChip.{ShowingChip}
use Rattle.norprog_check.specs.declared.readings.Said.{Said}
use Rattle.norprog_check.specs.Checked.{IsChecked, IsShownOn, AreTaken, checking}
use Rattle.norprog_check.specs.Content.{IsRead}
use Rattle.norprog_check.specs.Readings.{IsJudged, IsSaidOf, TakesBy, TakesChip}

pub taken_of : (t : Task) (len : ℕ) (job : Job) → IsJob t len job → AreTaken t len
taken_of t len job is = record { image = job.image; regions = is.regions; m = job.meaning; accepted = is.accepted }

-- a checker before the first step: of each no, what shows it, and how many status reads are sent right before
abbrev pub Shows : Parameters → Start → List ℕ → List ℕ → Fed → Type 0
Shows m start have want fed =
    (steps : List Step) (step : ℕ) (why : Why) (w : Witness) → IsShown fed want steps (No step why) w → (n : ℕ) → w.reads < n
    → Witnesses (trial m start have want steps) step why (even n (step == length steps) w.page)

abbrev pub CountsReads : Fed → List ℕ → Type 0
CountsReads fed want = (steps : List Step) (step : ℕ) (why : Why) (w : Witness) → IsShown fed want steps (No step why) w → w.reads ≡ reads_before step steps

-- the chip of what it says shows the no
shown_on : (m : Parameters) (start : Start) (have want : List ℕ) (fed : Fed) (steps : List Step) (said : Said) (v : Verdict) (chip : Option ShowingChip)
    → Shows m start have want fed → CountsReads fed want → said.steps ≡ length steps
    → ((step : ℕ) (why : Why) → v ≡ No step why → IsShown fed want steps (No step why) said.witness) → TakesBy v said m.page chip → IsShownOn (trial m start have want steps) v chip
shown_on m start have want fed steps said Yes chip shows counts number shown takes = takes
shown_on m start have want fed steps said (No step why) None shows counts number shown takes =
    subst (λ r. 2 ^ 32 ≤ r + 1) (counts steps step why _ (shown step why refl)) takes
shown_on m start have want fed steps said (No step why) (Some chip) shows counts number shown takes =
    let same = counts steps step why _ (shown step why refl) in
    let busier : said.witness.reads < chip.each_busy = omega (arith, takes.busy) in
    let keep : chip.keep ≡ (step == length steps) = takes.keep ∙ ap (λ n. step == n) number in
    record {
      busy = takes.busy ∙ ap (λ r. r + 1) same;
      keep = keep;
      page = takes.other;
      shows = subst (λ b. Witnesses (trial m start have want steps) step why (even chip.each_busy b (unwrap_or chip.page m.page))) (sym keep)
          (subst (λ page. Witnesses (trial m start have want steps) step why (even chip.each_busy (step == length steps) page)) (sym takes.page)
          (shows steps step why _ (shown step why refl) chip.each_busy busier));
    }

-- what is found of the steps of a text
pub judged_of : (job : Job) (have want : List ℕ) (fed : Fed) (said : Said) (found : Finding)
    → ((steps : List Step) → IsWorst (trial job.meaning job.start have want steps) (to_come fed want steps))
    → ((steps : List Step) → (to_come fed want steps ≡ Yes) ↔ DoesTaskOnEvery job.meaning job.start have want steps)
    → Shows job.meaning job.start have want fed → CountsReads fed want → found.verdict ≡ said.verdict → TakesChip said job.meaning.page found.chip
    → (text : List ℕ) → IsSaidOf fed want said text → IsJudged job have want found text
judged_of job have want fed said found worst sure shows counts same takes text tells =
    let steps = tells.steps in
    let says = tells.says in
    let is : found.verdict ≡ to_come fed want steps = same ∙ says.told in
    record {
      steps = steps;
      script = tells.script;
      worst = subst (IsWorst (trial job.meaning job.start have want steps)) (sym is) (worst steps);
      yes = subst (λ v. (v ≡ Yes) ↔ DoesTaskOnEvery job.meaning job.start have want steps) (sym is) (sure steps);
      shown = subst (λ v. IsShownOn (trial job.meaning job.start have want steps) v found.chip) (sym same)
          (shown_on job.meaning job.start have want fed steps said said.verdict found.chip shows counts says.number says.shown takes);
    }

-- the target has the chip's size
pub goal_size : (job : Job) (before after : Ahead) (have want : List ℕ) → IsRead job before after have want → length want ≡ job.meaning.size
goal_size job before after have want read = ap length read.goal ∙ length-target job 0 have ∙ read.whole

pub checked_is : (t : Task) (len : ℕ) (text : List ℕ) (job : Job) (before after : Ahead) (have want : List ℕ) (found : Finding)
    → IsJob t len job → IsRead job before after have want → IsJudged job have want found text → IsChecked (checking t len before after) text found
checked_is t len text job before after have want found is read judged =
    let m = job.meaning in
    let steps = judged.steps in
    let goal = wanted t job.image is.regions have in
    let same : want ≡ goal = read.goal ∙ target_is t len job is have in
    record {
      image = job.image;
      regions = is.regions;
      m = m;
      accepted = is.accepted;
      steps = steps;
      script = judged.script;
      content = have;
      whole = read.whole ∙ sym is.accepted.size;
      given = read.given;
      worst = subst (λ (wish : List ℕ). IsWorst (trial m (start_of t) have wish steps) found.verdict) same
          (subst (λ (s : Start). IsWorst (trial m s have want steps) found.verdict) is.start judged.worst);
      yes = subst (λ (wish : List ℕ). (found.verdict ≡ Yes) ↔ DoesTaskOnEvery m (start_of t) have wish steps) same
          (subst (λ (s : Start). (found.verdict ≡ Yes) ↔ DoesTaskOnEvery m s have want steps) is.start judged.yes);
      shown = subst (λ (wish : List ℕ). IsShownOn (trial m (start_of t) have wish steps) found.verdict found.chip) same
          (subst (λ (s : Start). IsShownOn (trial m s have want steps) found.verdict found.chip) is.start judged.shown);
    }
