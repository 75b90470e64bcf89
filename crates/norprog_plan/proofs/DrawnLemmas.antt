-- The picture of a job's plan is that of its inputs.
use Rattle.std.proofs.Common.{◌≡◌, ℕ, List, Option, Some, None, IfSome, is_some, ap, ◌∙◌, subst}
use Rattle.nor_job.specs.Job.{IsJob}
use Rattle.nor_job.specs.Task.{Task}
use Rattle.nor_job.specs.declared.job.Job.{Job}
use Rattle.nor_map.specs.Cells.{Wanted}
use Rattle.nor_map.specs.Marks.{Marks, marks_of}
use Rattle.nor_map.specs.Totals.{Prints, totals_text}
use Rattle.nor_outline.specs.declared.line.PlanLine.{PlanLine}
use Rattle.norprog_plan.specs.Outline.{IsDrawn, IsPicture}
use Rattle.norprog_plan.specs.Sums.{wanted_of}

pub pictured : (t : Task) (len : ℕ) (job : Job) (lines : List PlanLine) (picture : List ℕ) (o : Option Marks) → IsJob t len job
    → IfSome o (λ marks. marks ≡ marks_of job.meaning.size job.meaning.page (wanted_of job) lines) → IsDrawn o picture
    → IsPicture (is_some o) t job.meaning lines picture
pictured t len job lines picture None is are drawn = drawn
pictured t len job lines picture (Some marks) is are drawn =
    let wanted : ℕ → Wanted = λ base. record { image = job.image; base = base; chosen = job.chosen } in
    record {
      image = job.image;
      regions = is.regions;
      chosen = job.chosen;
      named = is.accepted.named;
      chooses = is.chosen;
      drawn = subst (λ (m : Marks). Prints picture (totals_text m))
          (are ∙ ap (λ base. marks_of job.meaning.size job.meaning.page (wanted base) lines) is.base) drawn;
    }
