-- The lines that were printed and what comes after them tell the plan.
use Rattle.std.proofs.Common.{◌≡◌, ◌⊎◌, ℕ, Bool, List, Option, Result, Ok, Err, IfErr, IfOk, arith, inr, refl, subst, sym}
use Rattle.std.specs.Io.KnownBytes.{Appends}
use Rattle.nor_base.specs.Device.{Ahead}
use Rattle.nor_base.specs.Parameters.{Parameters}
use Rattle.nor_job.proofs.ChipLemmas.{one_chip}
use Rattle.nor_job.specs.Job.{IsJob}
use Rattle.nor_job.specs.Task.{Task}
use Rattle.nor_job.specs.Written.{CountsReader, CountsWriter, passed}
use Rattle.nor_job.specs.declared.fault.BuildFault.{BuildFault}
use Rattle.nor_job.specs.declared.fault.BuildFault.TheVariants.{Memory}
use Rattle.nor_job.specs.declared.job.Job.{Job}
use Rattle.nor_outline.specs.Lines.{lines_text}
use Rattle.norprog.specs.declared.report.Report.{Report}
use Rattle.norprog_plan.specs.Outline.{IsOutline, IsPicture, behind_lines, outline}
use Rattle.norprog_plan.specs.Regions.{EndsWith}
use Rattle.norprog_plan.specs.Sums.{PrintsLines}
use Rattle.norprog_plan.specs.declared.outline.Shows.{Shows}
use Rattle.norprog_plan.specs.declared.outline.Told.{Told}
use Rattle.norprog_plan.specs.declared.sums.Sums.{Sums}

pub tells : (shows : Shows) (t : Task) (len : ℕ) (a b : Ahead) (x y : Option (List ℕ)) (job : Job) (begun done : Sums) (report : Report) (drawn : Bool)
    (r : Result Told BuildFault) → (all : PrintsLines job begun done (passed a b x y) report) → IsJob t len job → drawn ≡ shows.picture
    → IfOk r (λ told. EndsWith shows.regions t len (behind_lines shows.times report t job.meaning all.lines) told.rest.items)
    → IfOk r (λ told. IsPicture drawn t job.meaning all.lines told.picture.items)
    → IfOk r (λ told. (lines : List ℕ) × IsOutline shows t len a (outline lines told) × Appends x y lines)
tells shows t len a b x y job begun done report drawn (Err why) all is asked ends picture = tt
tells shows t len a b x y job begun done report drawn (Ok told) all is asked ends picture =
    let planned = all.planned t len is in
    let same = one_chip is.accepted.means planned.accepted.means in (
      lines_text all.lines,
      record {
        after = b;
        lines = all.lines;
        report = report;
        planned = planned;
        text = refl;
        ends = subst (λ (m : Parameters). EndsWith shows.regions t len (behind_lines shows.times report t m all.lines) told.rest.items) same ends;
        picture = subst (λ (m : Parameters). IsPicture shows.picture t m all.lines told.picture.items) same
            (subst (λ (b : Bool). IsPicture b t job.meaning all.lines told.picture.items) asked picture);
      },
      all.put,
    )

-- only memory is refused after the lines
pub only_memory : (A B : BuildFault → Type 0) (r : Result Told BuildFault) → IfErr r (λ why. why ≡ Memory) → B Memory → IfErr r (λ why. A why ⊎ B why)
only_memory A B (Ok told) memory stops = tt
only_memory A B (Err why) memory stops = inr (subst B (sym memory) stops)

pub reads_none : (r : Result Told BuildFault) (m n : ℕ) → IfErr r (λ why. why ≡ Memory) → n ≡ m → CountsReader m n r
reads_none (Ok told) m n memory same = same
reads_none (Err why) m n memory same = rw memory (omega (arith, same))

pub writes_none : (r : Result Told BuildFault) (m n : ℕ) → IfErr r (λ why. why ≡ Memory) → n ≡ m → CountsWriter m n r
writes_none (Ok told) m n memory same = same
writes_none (Err why) m n memory same = rw memory (omega (arith, same))
