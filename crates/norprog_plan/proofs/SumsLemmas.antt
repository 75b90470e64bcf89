-- The lines of a plan that were printed and added up.
use Rattle.std.proofs.Common.{◌≡◌, ◌∙◌, ℕ, ◌+◌, ◌^◌, ◌<◌, Bool, false, List, [], ◌++◌, append-nil, take, drop, Option, Some, None, option_map, Result, Ok, Err, IfOk, IfErr, IfSome, inl, inr, refl, ap, sym, subst, arith, cond}
use Rattle.std.specs.Prelude.{count_by}
use Rattle.std.specs.Io.KnownBytes.{Appends}
use Rattle.std.proofs.lemmas.Grind.{flat_map-append}
use Rattle.std.proofs.lemmas.List.{take-append-drop, append_assoc}
use Rattle.std.proofs.lemmas.List.Sums.{sum_by-append}
use Rattle.nor_job.specs.Written.{passed}
use Rattle.nor_base.specs.Device.{Ahead, Cuts}
use Rattle.nor_base.specs.Script.{closed}
use Rattle.nor_base.proofs.DeviceLaws.{Appends-append}
use Rattle.nor_job.specs.declared.fault.BuildFault.{BuildFault}
use Rattle.nor_job.specs.declared.fault.BuildFault.TheVariants as fault
use Rattle.nor_job.specs.declared.job.Job.{Job}
use Rattle.nor_job.specs.Job.{IsJob}
use Rattle.nor_job.specs.Task.{Task}
use Rattle.nor_map.specs.Cells.{Wanted}
use Rattle.nor_map.specs.Marks.{Marks, erases, marks_of, programs}
use Rattle.nor_outline.specs.Lines.{line_words, lines_text}
use Rattle.nor_outline.specs.declared.line.PlanLine.{PlanLine}
use Rattle.nor_outline.specs.declared.line.PlanLine.TheVariants.{Because}
use Rattle.nor_times.specs.Bus.{is_work}
use Rattle.nor_times.specs.declared.times.Times.{Times}
use Rattle.nor_base.specs.Wire.{wire}
use Rattle.norprog.specs.Planner.{Planning, IsReady, HasTold, GoesOn, EndsPlan, AreFew, CutsAnywhere, CutsPlan as StopsLines}
use Rattle.norprog.specs.Windows.{IsCutPlan}
use Rattle.norprog.specs.declared.report.Report.{Report}
use Rattle.norprog_plan.specs.Sums.{AreSums, GrewBy, HasPrinted, HasRoom, PrintsAll, PrintsLines, wanted_of}
use Rattle.norprog_plan.specs.declared.sums.Sums.{Sums}

-- so many lines that tell an instruction can be counted
count_fits : AreFew → (q : Planning) (first now : Ahead) (lines more : List PlanLine) (tells : PlanLine → Bool) (n : ℕ) → IsReady q → HasTold q first now (lines ++ more)
    → ((start cause : ℕ) → tells (Because start cause) ≡ false) → n ≡ count_by tells lines → n + count_by tells more < 2 ^ 64
count_fits few q first now lines more tells n ready its none is =
    omega (arith, is, sum_by-append (λ l. cond (tells l) 1 0) lines more, few q first now (lines ++ more) tells none ready its, ready.within, ready.accepted.size_high)

marks_fit : AreFew → (q : Planning) (first now : Ahead) (lines more : List PlanLine) (size page : ℕ) (w : Wanted) (o : Option Marks) → IsReady q → HasTold q first now (lines ++ more)
    → IfSome o (λ marks. marks ≡ marks_of size page w lines)
    → IfSome o (λ marks. (marks.blocks + count_by erases more < 2 ^ 64) × (marks.programs + count_by programs more < 2 ^ 64))
unfolding marks_of
marks_fit few q first now lines more size page w None ready its are = tt
marks_fit few q first now lines more size page w (Some marks) ready its are = (
  count_fits few q first now lines more erases marks.blocks ready its (λ start cause. refl) (ap (λ (m : Marks). m.blocks) are),
  count_fits few q first now lines more programs marks.programs ready its (λ start cause. refl) (ap (λ (m : Marks). m.programs) are),
)

pub room_of : AreFew → (q : Planning) (first now : Ahead) (lines more : List PlanLine) (job : Job) (times : Option Times) (sums : Sums) → IsReady q
    → HasTold q first now (lines ++ more) → AreSums job times sums lines → HasRoom sums more
room_of few q first now lines more job times sums ready its are = record {
  times = count_fits few q first now lines more is_work sums.times.works ready its (λ start cause. refl) (ap (λ t. t.works) are.times);
  marks = marks_fit few q first now lines more job.meaning.size job.meaning.page (wanted_of job) sums.marks ready its are.marks;
}

-- all windows were, and the report is that of the plan
pub prints_lines : (p q : Planning) (job : Job) (begun done : Sums) (a b : Ahead) (x y : Option (List ℕ)) (r : Result Report BuildFault) → p.job ≡ job
    → PrintsAll p q begun done (passed a b x y) → IfOk r (EndsPlan q)
    → IfOk r (PrintsLines job begun done (passed a b x y))
prints_lines p q job begun done a b x y (Ok report) same all ends =
    let so = all.printed in
    record {
      lines = so.lines;
      planned = λ t len is. ends t len a b so.lines (subst (λ (j : Job). IsJob t len j) (sym (all.job ∙ same)) is) so.told;
      put = so.put;
      sums = subst (λ (j : Job). GrewBy j begun done so.lines) (all.job ∙ same) so.sums;
    }
prints_lines p q job begun done a b x y (Err why) same all ends = tt

-- or it isn't closed
pub cuts_lines : (p q : Planning) (job : Job) (begun done : Sums) (a b : Ahead) (x y : Option (List ℕ)) (r : Result Report BuildFault) → p.job ≡ job
    → PrintsAll p q begun done (passed a b x y) → IfErr r (λ why. (ahead : Ahead) → StopsLines q ahead ahead why) → IfErr r (IsCutPlan job (wire x a) (wire y b))
cuts_lines p q job begun done a b x y (Ok report) same all stops = tt
cuts_lines p q job begun done a b x y (Err why) same all stops =
    let so = all.printed in
    subst (λ (j : Job). IsCutPlan j (wire x a) (wire y b) why) (all.job ∙ same) (stops b a so.lines x y so.told so.put)

pub lines_two : (these more : List PlanLine) → lines_text (these ++ more) ≡ lines_text these ++ lines_text more
lines_two these more = flat_map-append (λ (l : PlanLine). closed (line_words l)) these more

-- a window whose lines were added up, and then printed or not
pub adds_window : (p q : Planning) (begun done more : Sums) (a b c : Ahead) (x y z : Option (List ℕ)) (lines : List PlanLine) → (so : HasPrinted p begun done (passed a b x y)) → q.job ≡ p.job
    → HasTold q a c (so.lines ++ lines) → ((job : Job) (known : Option Times) (told : List PlanLine) → AreSums job known done told → AreSums job known more (told ++ lines))
    → Appends y z (lines_text lines) → HasPrinted q begun more (passed a c x z)
adds_window p q begun done more a b c x y z lines so same told added put = record {
  lines = so.lines ++ lines;
  told = told;
  put = subst (Appends x z) (sym (lines_two so.lines lines)) (Appends-append x y z (lines_text so.lines) (lines_text lines) so.put put);
  sums = subst (λ (j : Job). GrewBy j begun more (so.lines ++ lines)) (sym same) (λ known are. added p.job known so.lines (so.sums known are));
}

-- the writer stopped at the lines of a window
pub cut_window : CutsAnywhere → (p q : Planning) (begun done : Sums) (a b c : Ahead) (x y z : Option (List ℕ)) (lines : List PlanLine) → (so : HasPrinted p begun done (passed a b x y))
    → IsReady q → HasTold q a c (so.lines ++ lines) → Cuts y z (lines_text lines) → IsCutPlan q.job (wire x a) (wire z c) fault.Write
cut_window anywhere p q begun done a b c x y z lines so ready told cut =
    let text = lines_text lines in
    let front = lines_text so.lines ++ take cut.0 text in
    anywhere q a c x z (so.lines ++ lines) front (drop cut.0 text) fault.Write ready told
    (lines_two so.lines lines ∙ ap (λ rest. lines_text so.lines ++ rest) (sym (take-append-drop cut.0 text)) ∙ sym (append_assoc (lines_text so.lines) (take cut.0 text) (drop cut.0 text)))
    (Appends-append x y z (lines_text so.lines) (take cut.0 text) so.put cut.2) (inl refl)

-- or nothing of them was written, since a growth was refused
pub cut_before : CutsAnywhere → (p q : Planning) (begun done : Sums) (a b c : Ahead) (x y : Option (List ℕ)) (lines : List PlanLine) → (so : HasPrinted p begun done (passed a b x y))
    → IsReady q → HasTold q a c (so.lines ++ lines) → IsCutPlan q.job (wire x a) (wire y c) fault.Memory
cut_before anywhere p q begun done a b c x y lines so ready told =
    anywhere q a c x y (so.lines ++ lines) (lines_text so.lines) (lines_text lines) fault.Memory ready told (lines_two so.lines lines) so.put (inr refl)

-- none is left
pub ends_on : {L : Type 0} (items : L → List PlanLine) (p q : Planning) (b c : Ahead) (o : Option L) → ((x : L) → o ≡ Some x → ⊥) → GoesOn p q b c (option_map items o)
    → (q ≡ p) × (c ≡ b) × (p.at ≡ p.job.meaning.size)
ends_on items p q b c None none goes = goes
ends_on items p q b c (Some x) none goes = absurd (none x refl)

pub prints_all : (p l q : Planning) (begun done : Sums) (a b c : Ahead) (x y : Option (List ℕ)) → IsReady l → l.job ≡ p.job → HasPrinted l begun done (passed a b x y) → q ≡ l → c ≡ b
    → l.at ≡ l.job.meaning.size → PrintsAll p q begun done (passed a c x y)
prints_all p l q begun done a b c x y ready job so same still whole =
    subst (λ (q : Planning). PrintsAll p q begun done (passed a c x y)) (sym same)
    (subst (λ (c : Ahead). PrintsAll p l begun done (passed a c x y)) (sym still) (record { ready = ready; job = job; whole = whole; printed = so }))

-- all were, and memory may run out after them
pub cut_after : {T : Type 0} → CutsAnywhere → (p q : Planning) (job : Job) (begun done : Sums) (a b : Ahead) (x y : Option (List ℕ)) (r : Result T BuildFault) → p.job ≡ job
    → PrintsAll p q begun done (passed a b x y) → IfOk r (λ _. IsCutPlan job (wire x a) (wire y b) fault.Memory)
cut_after anywhere p q job begun done a b x y (Err why) same all = tt
cut_after anywhere p q job begun done a b x y (Ok report) same all =
    let so = all.printed in
    subst (λ (j : Job). IsCutPlan j (wire x a) (wire y b) fault.Memory) (all.job ∙ same)
    (anywhere q a b x y so.lines (lines_text so.lines) [] fault.Memory all.ready so.told (sym (append-nil (lines_text so.lines))) so.put (inr refl))
