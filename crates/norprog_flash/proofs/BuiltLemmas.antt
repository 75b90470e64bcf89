-- The plan that was written into memory.
use Rattle.std.proofs.Common.{◌≡◌, ℕ, List, [], length, take, Some, sym, ap, subst, ◌∙◌}
use Rattle.std.proofs.Math.Seq.{take-append_seam, take-length}
use Rattle.nor_base.specs.Device.{Ahead, Unknown, Finite, Endless, Gives}
use Rattle.nor_job.specs.Status.{start_of}
use Rattle.nor_job.specs.Task.{Task}
use Rattle.nor_job.specs.Wanted.{wanted}
use Rattle.nor_base.specs.Wire.{wire}
use Rattle.norprog.specs.Build.{ignored_of, report_of}
use Rattle.norprog.specs.declared.report.Report.{Report}
use Rattle.norprog.specs.Plan.{IsPlanOf}
use Rattle.norprog.specs.PlanWindows.{plan_text}
use Rattle.norprog.specs.Update.{asked, CanBeDone, IsDoneBy}
use Rattle.norprog_flash.specs.Work.{HasPlan}

-- a reader that has just these bytes ahead, and gives as many, gives these
pub given_all : (bytes xs : List ℕ) (after : Ahead) → Gives (Finite bytes) xs after → length xs ≡ length bytes → xs ≡ bytes
given_all bytes xs (Finite rest) g long =
    sym (take-append_seam xs rest) ∙ (ap (take (length xs)) (sym g) ∙ (ap (λ n. take n bytes) long ∙ take-length bytes))
given_all bytes xs Unknown g long = absurd g
given_all bytes xs (Endless f) g long = absurd g

planned : (t : Task) (content held : List ℕ) (rest : Ahead) (report : Report) → IsPlanOf t (length content) (wire (Some []) (Finite content)) (wire (Some held) rest) report
    → HasPlan t content held report
planned t content held rest report is =
    let same : is.content ≡ content = given_all content is.content rest is.given is.whole in
    let u = asked t is.image is.regions is.m in
    record {
      image = is.image;
      regions = is.regions;
      m = is.m;
      accepted = is.accepted;
      text = subst (λ (x : List ℕ). held ≡ plan_text is.m (start_of t) x (wanted t is.image is.regions x)) same is.put;
      workable = subst (λ (x : List ℕ). CanBeDone (u x)) same is.workable;
      steps = is.steps;
      planned = subst (λ (x : List ℕ). IsDoneBy (u x) is.steps) same is.planned;
      told = subst (λ (x : List ℕ). report ≡ report_of (u x) (ignored_of t is.image is.regions is.m) is.steps) same is.told;
    }

-- so where the reader had just the content and the writer nothing
pub plan_in : (t : Task) (content ahead begun held text : List ℕ) (rest : Ahead) (report : Report) → ahead ≡ content → begun ≡ [] → text ≡ held
    → IsPlanOf t (length content) (wire (Some begun) (Finite ahead)) (wire (Some held) rest) report → HasPlan t content text report
plan_in t content ahead begun held text rest report all none these is =
    subst (λ (lines : List ℕ). HasPlan t content lines report) (sym these) (planned t content held rest report
    (subst (λ (xs : List ℕ). IsPlanOf t (length content) (wire (Some []) (Finite xs)) (wire (Some held) rest) report) all
    (subst (λ (xs : List ℕ). IsPlanOf t (length content) (wire (Some xs) (Finite ahead)) (wire (Some held) rest) report) none is)))
