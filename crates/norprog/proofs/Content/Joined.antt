-- The texts of stretches side by side.
use Rattle.std.proofs.Common.{◌≡◌, ℕ, ◌+◌, ◌/◌, ◌%◌, ◌<◌, List, [], ◌∷◌, ◌++◌, length, None, sym, ◌∙◌, ap, subst, arith, length-append, append_assoc, append-nil}
use Rattle.std.specs.Prelude.{flat_map}
use Rattle.std.proofs.Math.Nat.{zero-div}
use Rattle.nor_base.specs.Operations.{Op, unit_ops}
use Rattle.nor_base.specs.Units.{WorkUnit, units_over, units_of, pages}
use Rattle.nor_job.specs.declared.fault.BuildFault.{BuildFault}
use Rattle.nor_job.specs.declared.fault.BuildFault.TheVariants as fault
use Rattle.nor_job.specs.declared.job.Job.{Job}
use Rattle.nor_job.specs.Filled.{target_from}
use Rattle.nor_outline.specs.Told.{unit_outline}
use Rattle.nor_outline.proofs.PlanText.{text_lines, text_begun}
use Rattle.nor_steps.specs.Stretch.{stretch, extent}
use Rattle.nor_steps.specs.declared.fault.StepsFault.{StepsFault}
use Rattle.nor_steps.specs.declared.fault.StepsFault.TheVariants as steps
use Rattle.nor_steps.specs.Faults.{IsOfWriting}
use Rattle.nor_steps.specs.Texts.{UnitText, unit_steps, units_text, IsText, IsTextOf, IsBegunText, IsBegunTextOf}
use Rattle.nor_steps.specs.Work.{stretch_units, IsWork, IsWorkOf}
use Rattle.nor_steps.specs.Writing.{Writing, written_on}
use Rattle.nor_steps.proofs.OpLemmas.{more_on, done_none}
use Rattle.norprog.specs.PlanWindows.{TellsWindows}
use Rattle.norprog.specs.Windows.{first_writing, lifted_steps, job_update, BeginsText, IsKnown}
use Rattle.norprog.proofs.Content.Stretches.{stretch_units_join, sound_join}
use Rattle.norprog.proofs.Content.Targets.{part_left, part_right}

-- nothing
pub none_text : (unit_text : UnitText) (w : Writing) → IsText unit_text w (stretch 0 [] []) []
unfolding units_over
none_text unit_text w content target has has' =
    let m = w.streaming.meaning in
    let none : 0 / m.page ≡ 0 = zero-div m.page in
    record {
      are = ap (λ n. units_text unit_text w content target (units_of m w.streaming.by content target (pages m.page 0 n))) none;
      sound = λ x from before. absurd (omega (arith, before));
    }

-- units, and those that follow them
units_text_join : (unit_text : UnitText) (w : Writing) (content target : List ℕ) (us vs : List WorkUnit)
    → units_text unit_text w content target (us ++ vs)
    ≡ units_text unit_text w content target us ++ units_text unit_text (written_on w (flat_map (unit_ops w.streaming.meaning w.verify target) us)) content target vs
units_text_join unit_text w content target [] vs = ap (λ (v : Writing). units_text unit_text v content target vs) (done_none w None).state
units_text_join unit_text w content target (u ∷ us) vs =
    let ops = unit_ops w.streaming.meaning w.verify target u in
    let later = flat_map (unit_ops w.streaming.meaning w.verify target) us in
    let front = units_text unit_text (written_on w ops) content target us in
    ap (λ rest. unit_text w content target u ++ rest)
    (units_text_join unit_text (written_on w ops) content target us vs
    ∙ ap (λ (v : Writing). front ++ units_text unit_text v content target vs) (more_on w ops later))
    ∙ sym (append_assoc (unit_text w content target u) front (units_text unit_text (written_on w (ops ++ later)) content target vs))

-- two stretches
pub text_join : (unit_text : UnitText) (w v : Writing) (at : ℕ) (xs ys txs tys : List ℕ) (p : List Op) (these more : List ℕ) → 0 < w.streaming.meaning.page
    → at % w.streaming.meaning.page ≡ 0 → length xs ≡ at → length txs ≡ at → v ≡ written_on w p → IsWork w (stretch 0 xs txs) p → IsText unit_text w (stretch 0 xs txs) these
    → IsText unit_text v (stretch at ys tys) more → IsText unit_text w (stretch 0 (xs ++ ys) (txs ++ tys)) (these ++ more)
text_join unit_text w v at xs ys txs tys p these more some whole upto upto' state work first second content target has has' =
    let m = w.streaming.meaning in
    let by = w.streaming.by in
    let here = part_left content xs ys has in
    let here' = part_left target txs tys has' in
    let its : IsWorkOf w (extent 0 at content target) p = subst (λ n. IsWorkOf w (extent 0 n content target) p) upto (work content target here here') in
    let left : IsTextOf unit_text w (extent 0 at content target) these = subst (λ n. IsTextOf unit_text w (extent 0 n content target) these) upto (first content target here here') in
    let right : IsTextOf unit_text (written_on w p) (extent at (length ys) content target) more =
    subst (λ (u : Writing). IsTextOf unit_text u (extent at (length ys) content target) more) state
    (second content target (part_right content xs ys at upto has) (part_right target txs tys at upto' has')) in
    let count : at + length ys ≡ length (xs ++ ys) = omega (arith, length-append xs ys, upto) in
    let us = stretch_units m by (extent 0 at content target) in
    let vs = stretch_units m by (extent at (length ys) content target) in
    subst (λ n. IsTextOf unit_text w (extent 0 n content target) (these ++ more)) count (record {
      are = ap (units_text unit_text w content target) (stretch_units_join m by at (length ys) content target some whole)
          ∙ units_text_join unit_text w content target us vs
          ∙ ap (λ front. front ++ units_text unit_text (written_on w (flat_map (unit_ops m w.verify target) us)) content target vs) left.are
          ∙ ap (λ ops. these ++ units_text unit_text (written_on w ops) content target vs) its.are
          ∙ ap (λ rest. these ++ rest) right.are;
      sound = sound_join m by at (length ys) content target left.sound right.sound;
    })

-- one, and the beginning of another
pub begun_join : (unit_text : UnitText) (w v : Writing) (at : ℕ) (xs ys txs tys : List ℕ) (p : List Op) (these front : List ℕ) → 0 < w.streaming.meaning.page
    → at % w.streaming.meaning.page ≡ 0 → length xs ≡ at → length txs ≡ at → v ≡ written_on w p → IsWork w (stretch 0 xs txs) p → IsText unit_text w (stretch 0 xs txs) these
    → IsBegunText unit_text v (stretch at ys tys) front → IsBegunText unit_text w (stretch 0 (xs ++ ys) (txs ++ tys)) (these ++ front)
begun_join unit_text w v at xs ys txs tys p these front some whole upto upto' state work first second content target has has' =
    let m = w.streaming.meaning in
    let by = w.streaming.by in
    let here = part_left content xs ys has in
    let here' = part_left target txs tys has' in
    let its : IsWorkOf w (extent 0 at content target) p = subst (λ n. IsWorkOf w (extent 0 n content target) p) upto (work content target here here') in
    let left : IsTextOf unit_text w (extent 0 at content target) these = subst (λ n. IsTextOf unit_text w (extent 0 n content target) these) upto (first content target here here') in
    let right : IsBegunTextOf unit_text (written_on w p) (extent at (length ys) content target) front =
    subst (λ (u : Writing). IsBegunTextOf unit_text u (extent at (length ys) content target) front) state
    (second content target (part_right content xs ys at upto has) (part_right target txs tys at upto' has')) in
    let count : at + length ys ≡ length (xs ++ ys) = omega (arith, length-append xs ys, upto) in
    let us = stretch_units m by (extent 0 at content target) in
    let vs = stretch_units m by (extent at (length ys) content target) in
    subst (λ n. IsBegunTextOf unit_text w (extent 0 n content target) (these ++ front)) count (record {
      rest = right.rest;
      whole = ap (units_text unit_text w content target) (stretch_units_join m by at (length ys) content target some whole)
          ∙ units_text_join unit_text w content target us vs
          ∙ ap (λ front. front ++ units_text unit_text (written_on w (flat_map (unit_ops m w.verify target) us)) content target vs) left.are
          ∙ ap (λ ops. these ++ units_text unit_text (written_on w ops) content target vs) its.are
          ∙ ap (λ rest. these ++ rest) right.whole ∙ sym (append_assoc these front right.rest);
      sound = sound_join m by at (length ys) content target left.sound right.sound;
    })

-- all of a text is some of it
all_begun : (unit_text : UnitText) (w : Writing) (have want these : List ℕ) → IsText unit_text w (stretch 0 have want) these → IsBegunText unit_text w (stretch 0 have want) these
all_begun unit_text w have want these is content target has has' =
    let its = is content target has has' in
    record { rest = []; whole = its.are ∙ sym (append-nil these); sound = its.sound }

pub text_begins : (unit_text : UnitText) (w : Writing) (have want these : List ℕ) (why : BuildFault) → IsText unit_text w (stretch 0 have want) these
    → BeginsText unit_text w (stretch 0 have want) these why
text_begins unit_text w have want these fault.Write is = all_begun unit_text w have want these is
text_begins unit_text w have want these fault.Memory is = all_begun unit_text w have want these is
text_begins unit_text w have want these other is = is

pub begun_begins : (unit_text : UnitText) (w : Writing) (have want front : List ℕ) (why : StepsFault) → IsOfWriting why → IsBegunText unit_text w (stretch 0 have want) front
    → BeginsText unit_text w (stretch 0 have want) front (lifted_steps why)
begun_begins unit_text w have want front steps.Write of begun = begun
begun_begins unit_text w have want front steps.Memory of begun = begun
begun_begins unit_text w have want front (steps.Plan why) of begun = absurd of

-- of the steps some were written
pub steps_begun : (w : Writing) (have want front : List ℕ) (why : BuildFault) → BeginsText unit_steps w (stretch 0 have want) front why → IsBegunText unit_steps w (stretch 0 have want) front
steps_begun w have want front fault.Write begun = begun
steps_begun w have want front fault.Memory begun = begun
steps_begun w have want front other is = all_begun unit_steps w have want front is

-- of the lines as many as why it ended says
pub lines_tell : (job : Job) (known front : List ℕ) (why : BuildFault) → IsKnown unit_outline job known front why → TellsWindows (job_update job known) front why
lines_tell job known front fault.Write is = text_begun (first_writing job) 0 known (target_from job 0 known) front is.begun
lines_tell job known front fault.Memory is = text_begun (first_writing job) 0 known (target_from job 0 known) front is.begun
lines_tell job known front other is = text_lines (first_writing job) 0 known (target_from job 0 known) front is.begun
