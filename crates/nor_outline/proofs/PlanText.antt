-- The text of the lines of units, as a text of the work.
use Rattle.std.proofs.Common.{◌≡◌, ℕ, List, [], ◌∷◌, ◌++◌, length, take, drop, Option, None, Result, Ok, Err, IfErr, refl, sym, ◌∙◌, ap, arith, inr}
use Rattle.std.specs.Prelude.{flat_map}
use Rattle.std.specs.Io.KnownBytes.{Appends}
use Rattle.std.proofs.lemmas.Grind.{flat_map-append}
use Rattle.std.proofs.lemmas.List.{take-append-drop}
use Rattle.nor_base.specs.declared.meaning.Strategy.{Strategy}
use Rattle.nor_base.specs.Device.{Cuts, raised}
use Rattle.nor_base.specs.Need.{is_due}
use Rattle.nor_base.specs.Operations.{unit_ops}
use Rattle.nor_base.specs.Parameters.{Parameters}
use Rattle.nor_base.specs.Script.{closed}
use Rattle.nor_base.specs.Units.{WorkUnit}
use Rattle.nor_base.proofs.DeviceLaws.{Appends-none, never_raised}
use Rattle.nor_outline.specs.Outline.{unit_plan, unit_lines, IsStretchPlan, RefusesLines}
use Rattle.nor_outline.specs.Told.{AreLines, AreBegun, unit_outline}
use Rattle.nor_outline.specs.declared.line.PlanLine.{PlanLine}
use Rattle.nor_outline.specs.Lines.{line_words, lines_text}
use Rattle.nor_steps.specs.Stretch.{stretch, extent}
use Rattle.nor_steps.specs.declared.fault.StepsFault.{StepsFault}
use Rattle.nor_steps.specs.declared.fault.StepsFault.TheVariants as fault
use Rattle.nor_steps.specs.declared.tally.Tally.{Tally}
use Rattle.nor_steps.specs.Faults.{of_writer, CountsSteps, IsOfWriting}
use Rattle.nor_steps.specs.Texts.{units_text, unit_steps, IsText, IsBegunText, IsTold, WroteText, StopsText}
use Rattle.nor_steps.specs.Work.{stretch_units}
use Rattle.nor_steps.specs.Writing.{Writing, written_on, output}

-- the text of the lines of units is their texts one after another
pub units_lines : (m : Parameters) (by : Strategy) (content target : List ℕ) (us : List WorkUnit)
    → flat_map (unit_lines m by content target) us ≡ lines_text (flat_map (unit_plan m by (is_due m content target)) us)
units_lines m by content target [] = refl
units_lines m by content target (u ∷ us) =
    let plan = unit_plan m by (is_due m content target) in
    ap (λ rest. unit_lines m by content target u ++ rest) (units_lines m by content target us)
    ∙ sym (flat_map-append (λ (l : PlanLine). closed (line_words l)) (plan u) (flat_map plan us))

units_outline : (w : Writing) (content target : List ℕ) (us : List WorkUnit)
    → units_text unit_outline w content target us ≡ flat_map (unit_lines w.streaming.meaning w.streaming.by content target) us
units_outline w content target [] = refl
units_outline w content target (u ∷ us) =
    ap (λ rest. unit_lines w.streaming.meaning w.streaming.by content target u ++ rest)
    (units_outline (written_on w (unit_ops w.streaming.meaning w.verify target u)) content target us)

pub text_lines : (w : Writing) (at : ℕ) (have want these : List ℕ) → IsText unit_outline w (stretch at have want) these → AreLines w.streaming.meaning w.streaming.by (stretch at have want) these
text_lines w at have want these text content target has has' =
    let is = text content target has has' in
    record { are = sym (units_outline w content target (stretch_units w.streaming.meaning w.streaming.by (extent at (length have) content target))) ∙ is.are; sound = is.sound }

-- so it is of a beginning
pub text_begun : (w : Writing) (at : ℕ) (have want front : List ℕ) → IsBegunText unit_outline w (stretch at have want) front → AreBegun w.streaming.meaning w.streaming.by (stretch at have want) front
text_begun w at have want front begun content target has has' =
    let is = begun content target has has' in
    record { rest = is.rest; whole = sym (units_outline w content target (stretch_units w.streaming.meaning w.streaming.by (extent at (length have) content target))) ∙ is.whole; sound = is.sound }

-- the text of the lines of a stretch
pub plan_text : (w : Writing) (at : ℕ) (have want : List ℕ) (lines : List PlanLine) → IsStretchPlan w.streaming.meaning w.streaming.by (stretch at have want) lines
    → IsText unit_outline w (stretch at have want) (lines_text lines)
plan_text w at have want lines is content target has has' =
    let of = is content target has has' in
    let us = stretch_units w.streaming.meaning w.streaming.by (extent at (length have) content target) in
    record {
      are = units_outline w content target us ∙ units_lines w.streaming.meaning w.streaming.by content target us ∙ ap lines_text of.are;
      sound = of.sound;
    }

-- what never fails didn't
never_failed : (why : StepsFault) → 0 ≡ raised 0 (of_writer why) → IsOfWriting why → why ≡ fault.Memory
never_failed fault.Memory count is = refl
never_failed fault.Write count is = absurd (let none = never_raised 1 count in omega (arith, none))
never_failed (fault.Plan why) count is = absurd is

-- where the steps aren't all counted, there are no lines
pub uncounted : (w : Writing) (at : ℕ) (have want : List ℕ) (why : StepsFault) → 0 ≡ raised 0 (of_writer why) → StopsText unit_steps (output w None) None (stretch at have want) why
    → RefusesLines w.streaming.meaning w.streaming.by (stretch at have want) why
uncounted w at have want (fault.Plan why) count stops = stops.0
uncounted w at have want fault.Write count stops = absurd (let none = never_raised 1 count in omega (arith, none))
uncounted w at have want fault.Memory count stops = tt

-- where there are no lines, none was written
pub refused : (w : Writing) (x : Option (List ℕ)) (at : ℕ) (have want : List ℕ) (why : StepsFault) → RefusesLines w.streaming.meaning w.streaming.by (stretch at have want) why
    → StopsText unit_outline (output w x) x (stretch at have want) why
refused w x at have want (fault.Plan why) is = (is, Appends-none x)
refused w x at have want fault.Write is = absurd is
refused w x at have want fault.Memory is = inr (Appends-none x)

-- the steps were counted and the lines written
pub lines_wrote : (w v : Writing) (x y : Option (List ℕ)) (at : ℕ) (have want : List ℕ) (told : Tally) (lines : List PlanLine) → IsTold w v (stretch at have want) told
    → IsStretchPlan w.streaming.meaning w.streaming.by (stretch at have want) lines → Appends x y (lines_text lines) → WroteText unit_outline (output w x) (output v y) (stretch at have want) told
lines_wrote w v x y at have want told lines its is put =
    record { steps = its; these = lines_text lines; is = plan_text w at have want lines is; put = put }

-- or the writer failed
pub lines_cut : (w : Writing) (x y : Option (List ℕ)) (at : ℕ) (have want : List ℕ) (lines : List PlanLine) → IsStretchPlan w.streaming.meaning w.streaming.by (stretch at have want) lines
    → Cuts x y (lines_text lines) → StopsText unit_outline (output w x) y (stretch at have want) fault.Write
lines_cut w x y at have want lines is cut = record {
  front = take cut.0 (lines_text lines);
  begun = λ content target has has'.
      let of = plan_text w at have want lines is content target has has' in
      record { rest = drop cut.0 (lines_text lines); whole = of.are ∙ sym (take-append-drop cut.0 (lines_text lines)); sound = of.sound };
  put = cut.2;
}

pub closes : (r : Result ℕ StepsFault) → CountsSteps 0 0 r → IfErr r IsOfWriting → IfErr r (λ why. why ≡ fault.Memory)
closes (Ok steps) count is = tt
closes (Err why) count is = never_failed why count is
