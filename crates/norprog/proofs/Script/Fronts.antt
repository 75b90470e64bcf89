-- The text of a script, and its fronts.
use Rattle.std.proofs.Common.{◌≡◌, ◌≢◌, ℕ, ◌+◌, ◌-◌, ◌%◌, ◌<◌, ◌≤◌, false, List, [], ◌∷◌, ◌++◌, length, take, drop, Option, refl, sym, ◌∙◌, ap, arith, append_assoc, length-append, length-drop}
use Rattle.std.specs.Prelude.{flat_map}
use Rattle.std.proofs.lemmas.List.{length-map, take-append-drop}
use Rattle.nor_base.specs.declared.meaning.Start.{Start}
use Rattle.nor_base.specs.declared.meaning.Strategy.{Strategy}
use Rattle.nor_base.specs.Device.{Ahead}
use Rattle.nor_base.specs.Operations.{Op, instructions, entering, leaving, lowered}
use Rattle.nor_base.specs.Parameters.{Parameters}
use Rattle.nor_base.specs.Planned.{planned, planned_ops}
use Rattle.nor_base.specs.Script.{script_text, header, end_line}
use Rattle.nor_base.specs.Spelling.{Instr}
use Rattle.nor_base.specs.Units.{units}
use Rattle.nor_geometry.specs.Plan.{HasPart}
use Rattle.nor_job.specs.declared.fault.BuildFault.{BuildFault}
use Rattle.nor_job.specs.declared.job.Job.{Job}
use Rattle.nor_select.specs.Streamed.{Streaming, next, last, onward}
use Rattle.nor_steps.specs.declared.tally.Tally.{Tally}
use Rattle.nor_steps.specs.Lines.{step_of, steps_of}
use Rattle.nor_steps.specs.Texts.{UnitText, unit_steps, IsBegunTextOf}
use Rattle.nor_steps.specs.Work.{stretch_ops, stretch_units, IsSound}
use Rattle.nor_steps.specs.Writing.{Writing, lines_of, next_lines, written_on}
use Rattle.nor_steps.specs.Stretch.{extent}
use Rattle.nor_steps.proofs.LineLemmas.{lines_append}
use Rattle.nor_steps.proofs.OpLemmas.{lines_join}
use Rattle.nor_steps.proofs.TextLemmas.{units_steps}
use Rattle.nor_job.specs.Filled.{target_from}
use Rattle.nor_base.specs.Wire.{wire}
use Rattle.norprog.specs.Windows.{first_writing, progress, IsAllDone, IsKnown, IsTextFront, IsScriptFront}
use Rattle.nor_job.specs.Written.{AreBytes}
use Rattle.norprog.proofs.Content.Joined.{steps_begun}
use Rattle.norprog.proofs.Content.Stretches.{stretch_join}

abbrev streaming : Parameters → Start → Strategy → Streaming
streaming m start by = record { meaning = m; start = start; by = by; started = false }

pub lowered_parts : (m : Parameters) (start : Start) (by : Strategy) (ops : List Op)
    → lowered m start by ops ≡ next (streaming m start by) ops ++ last (onward (streaming m start by) ops)
lowered_parts m start by [] = refl
lowered_parts m start by (op ∷ ops) = sym (append_assoc (entering m by) (flat_map (instructions m start by) (op ∷ ops)) (leaving m by))

-- the lines that leave the mode that was entered
abbrev pub closing_lines : Writing → List Op → List ℕ
closing_lines w ops = lines_of (last (written_on w ops).streaming)

abbrev pub job_ops : Job → List ℕ → List ℕ → List Op
job_ops job content target = planned_ops job.meaning job.start job.verify content target

abbrev pub job_planned : Job → List ℕ → List ℕ → List Instr
job_planned job content target = planned job.meaning job.start job.verify content target

abbrev pub job_text : Job → List ℕ → List ℕ → List ℕ
job_text job content target = script_text (steps_of (job_planned job content target))

-- the text before the end line
abbrev pub body : Job → List Op → List ℕ
body job ops = header ++ (next_lines (first_writing job) ops ++ closing_lines (first_writing job) ops)

pub planned_parts : (job : Job) (content target : List ℕ) (ops : List Op) → job_ops job content target ≡ ops
    → job_planned job content target ≡ next (first_writing job).streaming ops ++ last (onward (first_writing job).streaming ops)
planned_parts job content target ops is =
    let w = first_writing job in
    ap (lowered job.meaning job.start w.streaming.by) is ∙ lowered_parts job.meaning job.start w.streaming.by ops

pub text_is : (job : Job) (content target : List ℕ) (ops : List Op) → job_ops job content target ≡ ops
    → job_text job content target ≡ body job ops ++ end_line (length (job_planned job content target))
unfolding script_text
text_is job content target ops is =
    let w = first_writing job in
    let these = job_planned job content target in
    let front = next w.streaming ops in
    let close = last (onward w.streaming ops) in
    let lines : lines_of these ≡ next_lines w ops ++ closing_lines w ops = ap lines_of (planned_parts job content target ops is) ∙ lines_append front close in
    ap (λ text. header ++ (text ++ end_line (length (steps_of these)))) lines
    ∙ ap (λ n. header ++ ((next_lines w ops ++ closing_lines w ops) ++ end_line n)) (length-map these step_of)
    ∙ sym (append_assoc header (next_lines w ops ++ closing_lines w ops) (end_line (length these)))

pub ops_are : (job : Job) (content target : List ℕ) → length content ≡ job.meaning.size
    → job_ops job content target ≡ stretch_ops (first_writing job) (extent 0 (length content) content target)
unfolding units
ops_are job content target size = ap (λ n. stretch_ops (first_writing job) (extent 0 n content target)) (sym size)

ended : (xs : List ℕ) (n : ℕ) → xs ++ end_line n ≢ []
unfolding end_line
ended xs n none = absurd (omega (arith, ap length none, length-append xs (end_line n)))

-- a front of the text before the end line
front_body : (job : Job) (content target bytes rest : List ℕ) → body job (job_ops job content target) ≡ bytes ++ rest → IsTextFront job content target bytes
front_body job content target bytes rest is =
    let end = end_line (length (job_planned job content target)) in
    record {
      rest = rest ++ end;
      whole = text_is job content target (job_ops job content target) refl ∙ ap (λ text. text ++ end) is ∙ append_assoc bytes rest end;
      more = ended rest (length (job_planned job content target));
    }

-- the text with some of the end line
front_end : (job : Job) (content target : List ℕ) (ops : List Op) (n k : ℕ) → job_ops job content target ≡ ops → n ≡ length (job_planned job content target)
    → k < length (end_line n) → IsTextFront job content target (body job ops ++ take k (end_line n))
front_end job content target ops n k is count inside =
    let end = end_line n in
    record {
      rest = drop k end;
      whole = text_is job content target ops is ∙ ap (λ i. body job ops ++ end_line i) (sym count) ∙ ap (λ text. body job ops ++ text) (sym (take-append-drop k end))
          ∙ sym (append_assoc (body job ops) (take k end) (drop k end));
      more = λ none. absurd (omega (arith, ap length none, length-drop k end, inside));
    }

-- where nothing was read: some of the header
pub header_front : (job : Job) (k : ℕ) → IsScriptFront job [] (take k header)
header_front job k = record {
  small = λ i. omega arith;
  front = λ content target size has has'.
      let w = first_writing job in
      let ops = job_ops job content target in
      let text = next_lines w ops ++ closing_lines w ops in
      front_body job content target (take k header) (drop k header ++ text)
      (ap (λ front. front ++ text) (sym (take-append-drop k header)) ∙ append_assoc (take k header) (drop k header) text);
  sound = λ content target has has' x from before. absurd (omega (arith, before));
}

join_texts : (xs ys front rest later close : List ℕ) → xs ++ (((front ++ rest) ++ later) ++ close) ≡ (xs ++ front) ++ (rest ++ (later ++ close))
join_texts xs ys front rest later close =
    ap (λ text. xs ++ text) (append_assoc (front ++ rest) later close ∙ append_assoc front rest (later ++ close)) ∙ sym (append_assoc xs front (rest ++ (later ++ close)))

-- windows that were begun
pub known_front : (job : Job) (known front : List ℕ) (why : BuildFault) → 0 < job.meaning.page → length known % job.meaning.page ≡ 0 → length known ≤ job.meaning.size
    → IsKnown unit_steps job known front why → IsScriptFront job known (header ++ front)
known_front job known front why some pages fits is =
    let w = first_writing job in
    let n = length known in
    record {
      small = is.bytes;
      front = λ content target size has has'.
          let begun : IsBegunTextOf unit_steps w (extent 0 n content target) front = steps_begun w _ _ front why is.begun content target has has' in
          let p = stretch_ops w (extent 0 n content target) in
          let q = stretch_ops w (extent n (job.meaning.size - n) content target) in
          let all : n + (job.meaning.size - n) ≡ length content = omega (arith, fits, size) in
          let ops : job_ops job content target ≡ p ++ q =
          ops_are job content target size ∙ ap (λ k. stretch_ops w (extent 0 k content target)) (sym all) ∙ stretch_join w n (job.meaning.size - n) content target some pages in
          let later = next_lines (written_on w p) q in
          let close = closing_lines w (p ++ q) in
          let lines : next_lines w (p ++ q) ≡ (front ++ begun.rest) ++ later =
          lines_join w p q ∙ ap (λ text. text ++ later) (sym (units_steps w content target (stretch_units w.streaming.meaning w.streaming.by (extent 0 n content target))) ∙ begun.whole) in
          front_body job content target (header ++ front) (begun.rest ++ (later ++ close))
          (ap (body job) ops ∙ ap (λ text. header ++ (text ++ close)) lines ∙ join_texts header [] front begun.rest later close);
      sound = λ content target has has'. (steps_begun w _ _ front why is.begun content target has has').sound;
    }

-- all windows were written
pub record IsWhole (job : Job) (part : List ℕ) (ops : List Op) : Type 0 where
  pub size : length part ≡ job.meaning.size
  pub small : AreBytes (target_from job 0 part)
  pub are : (content target : List ℕ) → length content ≡ job.meaning.size → HasPart content part 0 → HasPart target (target_from job 0 part) 0 → job_ops job content target ≡ ops
  pub sound : (content target : List ℕ) → HasPart content part 0 → HasPart target (target_from job 0 part) 0 → IsSound (first_writing job) (extent 0 (length part) content target)

pub whole_is : (unit_text : UnitText) (job : Job) (v : Writing) (a b : Ahead) (x y : Option (List ℕ)) (told : Tally) → (done : IsAllDone unit_text job (wire x a) (progress v y b) told)
    → IsWhole job done.part done.wrote.steps.ops
whole_is unit_text job v a b x y told done = record {
  size = done.size;
  small = done.bytes;
  are = λ content target size has has'.
      ops_are job content target size ∙ ap (λ n. stretch_ops (first_writing job) (extent 0 n content target)) (size ∙ sym done.size) ∙ (done.wrote.steps.work content target has has').are;
  sound = λ content target has has'. (done.wrote.steps.work content target has has').sound;
}

whole_front : (job : Job) (part bytes : List ℕ) (ops : List Op) → IsWhole job part ops
    → ((content target : List ℕ) → job_ops job content target ≡ ops → IsTextFront job content target bytes) → IsScriptFront job part bytes
whole_front job part bytes ops is each = record {
  small = is.small;
  front = λ content target size has has'. each content target (is.are content target size has has');
  sound = is.sound;
}

-- and some of the lines that leave the mode
pub closing_front : (job : Job) (part front rest : List ℕ) (ops : List Op) → IsWhole job part ops → closing_lines (first_writing job) ops ≡ front ++ rest
    → IsScriptFront job part (header ++ (next_lines (first_writing job) ops ++ front))
closing_front job part front rest ops is cut =
    let w = first_writing job in
    let text = next_lines w ops in
    whole_front job part (header ++ (text ++ front)) ops is
    (λ content target are. front_body job content target (header ++ (text ++ front)) rest
    (ap (body job) are ∙ ap (λ close. header ++ (text ++ close)) cut ∙ ap (λ t. header ++ t) (sym (append_assoc text front rest)) ∙ sym (append_assoc header (text ++ front) rest)))

-- and some of the end line
pub end_front : (job : Job) (part : List ℕ) (ops : List Op) (n k : ℕ) → IsWhole job part ops
    → n ≡ length (next (first_writing job).streaming ops ++ last (onward (first_writing job).streaming ops)) → k < length (end_line n)
    → IsScriptFront job part (body job ops ++ take k (end_line n))
end_front job part ops n k is count inside =
    whole_front job part (body job ops ++ take k (end_line n)) ops is
    (λ content target are. front_end job content target ops n k are (count ∙ sym (ap length (planned_parts job content target ops are))) inside)
