-- A run on the chip that a check found.
use Rattle.std.proofs.Common.{◌≡◌, ℕ, ◌≤◌, List, length, replicate, Option, Some, sym, ◌∙◌, ap, subst}
use Rattle.std.specs.Prelude.{unwrap_or}
use Rattle.nor_base.specs.declared.meaning.Start.{Start}
use Rattle.nor_base.specs.declared.step.Step.{Step}
use Rattle.nor_base.specs.Chip.{Setting, Chip, ready}
use Rattle.nor_base.specs.Parameters.{Parameters}
use Rattle.nor_check.specs.declared.verdict.Verdict.{Verdict as Judged}
use Rattle.nor_check.specs.declared.verdict.Verdict.TheVariants.{No}
use Rattle.nor_check.specs.declared.verdict.Why.{Why}
use Rattle.nor_check.specs.declared.verdict.Why.TheVariants as why
use Rattle.nor_check.specs.Outcome.{trial}
use Rattle.nor_check.specs.Witness.{even_chip, even}
use Rattle.nor_chip.specs.Busy.{most_times, times_of}
use Rattle.nor_chip.specs.declared.busy.BusyTimes.{BusyTimes}
use Rattle.nor_job.specs.Status.{start_of}
use Rattle.nor_job.specs.Task.{Task}
use Rattle.nor_job.specs.Wanted.{wanted}
use Rattle.nor_laws.specs.Laws.{OneList}
use Rattle.nor_play.specs.Play.{play}
use Rattle.norprog_laws.specs.Replay.{NoIsReplayed, ShowsSo}
use Rattle.norprog_check.specs.declared.finding.ShowingChip.{ShowingChip}
use Rattle.norprog_check.specs.Checked.{IsShownOn, ShowsNo}
use Rattle.norprog_run.specs.declared.request.ChipBehaviour.{ChipBehaviour}
use Rattle.norprog_run.specs.declared.verdict.Verdict.{Verdict}
use Rattle.norprog_run.specs.declared.verdict.Verdict.TheVariants.{Done, Wrong}
use Rattle.norprog_run.specs.Play.{EndsSo, setting_of, run_of}
use Rattle.norprog_laws.specs.Shown.{SaysSo, IsBenchOf, NoIsRun}
use Rattle.norprog_laws.proofs.BuiltLemmas.{given_same}

-- what a play shows its verdict says
says_so : (s : Setting) (c d : Chip) (limit step : ℕ) (steps : List Step) (want : List ℕ) (cause : Why) (verdict : Verdict)
    → ShowsSo cause step (length steps) want (play s limit c steps) → EndsSo (run_of s c limit) steps verdict d → SaysSo cause step want d verdict
says_so s c d limit step steps want (why.Wrong cause) (Done transactions) shows ends = subst (ShowsSo (why.Wrong cause) step (length steps) want) ends.0 shows
says_so s c d limit step steps want (why.Wrong cause) (Wrong at because) shows ends = subst (ShowsSo (why.Wrong cause) step (length steps) want) ends shows
says_so s c d limit step steps want (why.Differs a) (Done transactions) shows ends =
    let there = subst (ShowsSo (why.Differs a) step (length steps) want) ends.0 shows in (there.1, there.2)
says_so s c d limit step steps want (why.Differs a) (Wrong at because) shows ends = subst (ShowsSo (why.Differs a) step (length steps) want) ends shows

-- the chip of the options is the one that was found
same_chip : (u : Task) (m : Parameters) (start : Start) (chip : ShowingChip) (bench : ChipBehaviour) → IsBenchOf chip bench → start_of u ≡ start
    → setting_of u bench m ≡ even_chip m start most_times (even chip.each_busy chip.keep (unwrap_or chip.page m.page))
same_chip u m start chip bench is starts =
    ap (λ (s : Start). record { meaning = m; start = s; page = unwrap_or bench.page m.page; busy = times_of bench.busy; keeps = bench.keep }) starts
    ∙ ap (λ (p : Option ℕ). record { meaning = m; start = start; page = unwrap_or p m.page; busy = times_of bench.busy; keeps = bench.keep }) is.page
    ∙ ap (λ (b : BusyTimes). record { meaning = m; start = start; page = unwrap_or chip.page m.page; busy = times_of b; keeps = bench.keep }) is.busy
    ∙ ap (λ k. record { meaning = m; start = start; page = unwrap_or chip.page m.page; busy = replicate most_times chip.each_busy; keeps = k }) is.keep

-- what was found shows the no
found_shows : (m : Parameters) (start : Start) (have want : List ℕ) (steps : List Step) (v : Judged) (o : Option ShowingChip) (step : ℕ) (cause : Why) (chip : ShowingChip)
    → v ≡ No step cause → o ≡ Some chip → IsShownOn (trial m start have want steps) v o → ShowsNo (trial m start have want steps) step cause chip
found_shows m start have want steps v o step cause chip is some shown =
    subst (IsShownOn (trial m start have want steps) (No step cause)) some (subst (λ w. IsShownOn (trial m start have want steps) w o) is shown)

pub no_is_run : OneList → NoIsReplayed → NoIsRun
no_is_run one replays t u len text before after rest found step cause chip bench held held' verdict checked is some of ran tells same_m starts few =
    let m = checked.m in
    let start = start_of t in
    let have = checked.content in
    let want = wanted t checked.image checked.regions have in
    let steps : ran.steps ≡ checked.steps = one text ran.steps checked.steps ran.may.script checked.script in
    let content : ran.content ≡ have = given_same before rest after ran.content have tells ran.given checked.given (ran.whole ∙ sym checked.whole) in
    let shows = found_shows m start have want checked.steps found.verdict found.chip step cause chip is some checked.shown in
    let s = even_chip m start most_times (even chip.each_busy chip.keep (unwrap_or chip.page m.page)) in
    let shown : ShowsSo cause step (length checked.steps) want (play s bench.limit (ready s have) checked.steps) =
    replays (trial m start have want checked.steps) step cause (even chip.each_busy chip.keep (unwrap_or chip.page m.page)) bench.limit most_times shows.shows of.limit
    (subst (λ (xs : List Step). length xs ≤ most_times) steps few) in
    let ends : EndsSo (run_of s (ready s have) bench.limit) checked.steps verdict ran.chip =
    subst (λ (xs : List Step). EndsSo (run_of s (ready s have) bench.limit) xs verdict ran.chip) steps
    (subst (λ (array : List ℕ). EndsSo (run_of s (ready s array) bench.limit) ran.steps verdict ran.chip) content
    (subst (λ (t : Setting). EndsSo (run_of t (ready t ran.content) bench.limit) ran.steps verdict ran.chip) (same_chip u m start chip bench of starts)
    (subst (λ (n : Parameters). EndsSo (run_of (setting_of u bench n) (ready (setting_of u bench n) ran.content) bench.limit) ran.steps verdict ran.chip) same_m ran.ends))) in
    says_so s (ready s have) ran.chip bench.limit step checked.steps want cause verdict shown ends
