-- How far the text of a script was written.
use Rattle.std.proofs.Common.{◌≡◌, ℕ, ◌+◌, ◌%◌, ◌≤◌, List, ◌++◌, length, take, Option, refl, sym, ◌∙◌, ap, subst, arith, inl, inr, length-append}
use Rattle.std.proofs.lemmas.Bool.{cases_lt}
use Rattle.std.proofs.lemmas.List.{length-take-le}
use Rattle.std.specs.Io.KnownBytes.{Appends}
use Rattle.nor_base.specs.Accepted.{IsAccepted}
use Rattle.nor_base.specs.Device.{Ahead, Cuts}
use Rattle.nor_base.specs.Operations.{Op}
use Rattle.nor_base.specs.Script.{header, end_line}
use Rattle.nor_base.proofs.DeviceLaws.{Appends-append, Appends-none}
use Rattle.nor_base.specs.Parameters.{Parameters}
use Rattle.nor_geometry.proofs.WindowLemmas.{multiple_of}
use Rattle.nor_geometry.specs.Window.{IsWindowSize}
use Rattle.nor_job.specs.declared.fault.BuildFault.{BuildFault}
use Rattle.nor_job.specs.declared.fault.BuildFault.TheVariants as fault
use Rattle.nor_job.specs.declared.job.Job.{Job}
use Rattle.nor_select.specs.Streamed.{next, last, onward}
use Rattle.nor_steps.specs.declared.fault.StepsFault.{StepsFault}
use Rattle.nor_steps.specs.declared.fault.StepsFault.TheVariants as steps
use Rattle.nor_steps.specs.declared.tally.Tally.{Tally}
use Rattle.nor_steps.specs.Faults.{IsOfWriting}
use Rattle.nor_steps.specs.Tally.{tally_with}
use Rattle.nor_steps.specs.Writing.{Writing, Begins, lines_of, next_lines}
use Rattle.nor_steps.specs.Texts.{UnitText, unit_steps}
use Rattle.nor_steps.specs.Work.{stretch_units}
use Rattle.nor_steps.specs.Stretch.{extent}
use Rattle.nor_steps.proofs.TextLemmas.{units_steps}
use Rattle.nor_steps.proofs.TallyLemmas.{tally}
use Rattle.nor_job.specs.Filled.{target_from}
use Rattle.nor_base.specs.Wire.{wire}
use Rattle.norprog.specs.Windows.{first_writing, lifted_steps, progress, AreWindows, IsAllDone, IsKnown, IsCut, IsWorked, IsScripted, IsScriptFront, IsCutScript}
use Rattle.norprog.proofs.Content.Places.{some_page, chip_pages, window_pages}
use Rattle.norprog.proofs.Content.Targets.{part_whole}
use Rattle.norprog.proofs.Script.Fronts.{closing_lines, job_ops, job_planned, job_text, body, planned_parts, text_is, header_front, known_front, whole_is, closing_front, end_front}
use Rattle.norprog.proofs.Content.Windows.{cut_before, cut_after}

-- before anything was written
pub memory_cut : (job : Job) (w : ℕ) (a : Ahead) (x : Option (List ℕ)) → IsWindowSize job.meaning w → IsCutScript job (wire x a) (wire x a) fault.Memory
memory_cut job w a x size =
    cut_before (λ known bytes why. IsScriptFront job known bytes) job w a x x (take 0 header) steps.Memory size tt (header_front job 0) (Appends-none x)

-- in the header
pub header_cut : (job : Job) (w : ℕ) (a : Ahead) (x y : Option (List ℕ)) → IsWindowSize job.meaning w → Cuts x y header → IsCutScript job (wire x a) (wire y a) fault.Write
header_cut job w a x y size cut =
    cut_before (λ known bytes why. IsScriptFront job known bytes) job w a x y (take cut.0 header) steps.Write size tt (header_front job cut.0) cut.2

-- whole windows are whole pages
pages_known : (m : Parameters) (window known read : ℕ) (why : BuildFault) → IsAccepted m → IsWindowSize m window → AreWindows m.size window known read why → read ≤ m.size
    → known % m.page ≡ 0
pages_known m window known read why accepted size windows fits = elim (cases_lt known m.size) [
  | inl before ↦ multiple_of known window m.page (window_pages m window accepted size) (windows.whole before)
  | inr past ↦ let last : known ≡ m.size = omega (arith, past, windows.within, fits) in ap (λ n. n % m.page) last ∙ chip_pages m accepted
]

-- in the windows
pub windows_cut : (job : Job) (a b : Ahead) (x y z : Option (List ℕ)) (why : BuildFault) → IsAccepted job.meaning → Appends x y header
    → IsCut (IsKnown unit_steps job) job (wire y a) (wire z b) why → IsCutScript job (wire x a) (wire z b) why
windows_cut job a b x y z why accepted begun cut =
    let m = job.meaning in
    let took : length (take cut.known cut.part) ≡ cut.known = length-take-le cut.known cut.part cut.windows.within in
    record {
      part = cut.part;
      within = cut.within;
      given = cut.given;
      cause = cut.cause;
      window = cut.window;
      its_size = cut.its_size;
      known = cut.known;
      windows = cut.windows;
      bytes = header ++ cut.bytes;
      front = known_front job (take cut.known cut.part) cut.bytes why (some_page m accepted)
          (ap (λ n. n % m.page) took ∙ pages_known m cut.window cut.known (length cut.part) why accepted cut.its_size cut.windows cut.within)
          (omega (arith, took, cut.windows.within, cut.within)) cut.front;
      put = Appends-append x y z header cut.bytes begun cut.put;
    }

-- the lines of the windows
steps_put : (job : Job) (v : Writing) (a b : Ahead) (x y : Option (List ℕ)) (told : Tally) → (done : IsAllDone unit_steps job (wire x a) (progress v y b) told)
    → Appends x y (next_lines (first_writing job) done.wrote.steps.ops)
steps_put job v a b x y told done =
    let w = first_writing job in
    let part = done.part in
    let goal = target_from job 0 part in
    let text = done.wrote.is part goal (part_whole part) (part_whole goal) in
    let work = done.wrote.steps.work part goal (part_whole part) (part_whole goal) in
    subst (Appends x y)
    (sym text.are ∙ units_steps w part goal (stretch_units w.streaming.meaning w.streaming.by (extent 0 (length part) part goal)) ∙ ap (next_lines w) work.are)
    done.wrote.put

pub closing_cut : (job : Job) (v : Writing) (w : ℕ) (a b : Ahead) (x y z u : Option (List ℕ)) (told : Tally) (why : StepsFault) → IsWindowSize job.meaning w
    → Appends x y header → IsAllDone unit_steps job (wire y a) (progress v z b) told → Begins z u (lines_of (last v.streaming)) → IsOfWriting why → IsCutScript job (wire x a) (wire u b) (lifted_steps why)
closing_cut job v w a b x y z u told why size begun done close is =
    let its = done.wrote.steps in
    let lines : closing_lines (first_writing job) its.ops ≡ close.front ++ close.rest = ap (λ (t : Writing). lines_of (last t.streaming)) (sym its.state) ∙ close.whole in
    cut_after (λ known bytes why. IsScriptFront job known bytes) unit_steps job v w a b y z x u told (header ++ (next_lines (first_writing job) its.ops ++ close.front)) why size done is
    (closing_front job done.part close.front close.rest its.ops (whole_is unit_steps job v a b y z told done) lines)
    (Appends-append x y u header _ begun (Appends-append y z u _ close.front (steps_put job v a b y z told done) close.put))

-- all that stands before the end line
body_put : (job : Job) (v : Writing) (a b : Ahead) (x y z u : Option (List ℕ)) (told : Tally) → Appends x y header → (done : IsAllDone unit_steps job (wire y a) (progress v z b) told)
    → Appends z u (lines_of (last v.streaming)) → Appends x u (body job done.wrote.steps.ops)
body_put job v a b x y z u told begun done close =
    Appends-append x y u header _ begun
    (Appends-append y z u _ _ (steps_put job v a b y z told done) (subst (λ (t : Writing). Appends z u (lines_of (last t.streaming))) done.wrote.steps.state close))

steps_are : (unit_text : UnitText) (job : Job) (v : Writing) (a b : Ahead) (y z : Option (List ℕ)) (told : Tally) (more n : ℕ) → (done : IsAllDone unit_text job (wire y a) (progress v z b) told)
    → more ≡ length (last v.streaming) → n ≡ told.steps + more
    → n ≡ length (next (first_writing job).streaming done.wrote.steps.ops ++ last (onward (first_writing job).streaming done.wrote.steps.ops))
steps_are unit_text job v a b y z told more n done count sum =
    let s = (first_writing job).streaming in
    let its = done.wrote.steps in
    let first : told.steps ≡ length (next s its.ops) = ap (λ (t : Tally). t.steps) its.its_tally in
    let second : more ≡ length (last (onward s its.ops)) = count ∙ ap (λ (t : Writing). length (last t.streaming)) its.state in
    omega (arith, sum, first, second, length-append (next s its.ops) (last (onward s its.ops)))

pub end_cut : (job : Job) (v : Writing) (w : ℕ) (a b : Ahead) (x y z u t : Option (List ℕ)) (told : Tally) (more n : ℕ) → IsWindowSize job.meaning w
    → Appends x y header → IsAllDone unit_steps job (wire y a) (progress v z b) told → Appends z u (lines_of (last v.streaming)) → more ≡ length (last v.streaming)
    → n ≡ told.steps + more → Cuts u t (end_line n) → IsCutScript job (wire x a) (wire t b) fault.Write
end_cut job v w a b x y z u t told more n size begun done close count sum cut =
    let ops = done.wrote.steps.ops in
    cut_after (λ known bytes why. IsScriptFront job known bytes) unit_steps job v w a b y z x t told (body job ops ++ take cut.0 (end_line n)) steps.Write size done tt
    (end_front job done.part ops n cut.0 (whole_is unit_steps job v a b y z told done) (steps_are unit_steps job v a b y z told more n done count sum) cut.1)
    (Appends-append x u t (body job ops) _ (body_put job v a b x y z u told begun done close) cut.2)

told_all : (told : Tally) (ops these : List Op) (k n : ℕ) → told ≡ tally_with k ops → these ≡ ops → (m : ℕ) → n ≡ m
    → tally n told.erases told.erased told.programs ≡ tally_with m these
told_all told ops these k n is same m count =
    ap (λ (t : Tally). tally n t.erases t.erased t.programs) is ∙ ap (λ i. tally_with i ops) count ∙ ap (tally_with m) (sym same)

-- the work on the part that was read, whatever is written of it
pub whole_work : (unit_text : UnitText) (job : Job) (v : Writing) (a b : Ahead) (y z : Option (List ℕ)) (told : Tally) (more : ℕ)
    → (done : IsAllDone unit_text job (wire y a) (progress v z b) told) → more ≡ length (last v.streaming)
    → (whole : IsWorked job a b (record { steps = told.steps + more; erases = told.erases; erased = told.erased; programs = told.programs })) × (whole.part ≡ done.part)
whole_work unit_text job v a b y z told more done count =
    let n = told.steps + more in
    let part = done.part in
    let ops = done.wrote.steps.ops in
    let goal = target_from job 0 part in
    let whole = whole_is unit_text job v a b y z told done in
    let are : job_ops job part goal ≡ ops = whole.are part goal done.size (part_whole part) (part_whole goal) in
    let steps : n ≡ length (job_planned job part goal) =
    steps_are unit_text job v a b y z told more n done count refl ∙ sym (ap length (planned_parts job part goal ops are)) in (
      record {
        part = part;
        upto = done.size;
        given = done.given;
        bytes = done.bytes;
        sound = λ i inside. whole.sound part goal (part_whole part) (part_whole goal) i (omega arith) (omega (arith, inside, done.size));
        its_tally = told_all told ops (job_ops job part goal) _ n done.wrote.steps.its_tally are _ steps;
      },
      refl,
    )

-- the whole script
pub whole_script : (job : Job) (v : Writing) (a b : Ahead) (x y z u t : Option (List ℕ)) (told : Tally) (more : ℕ)
    → Appends x y header → IsAllDone unit_steps job (wire y a) (progress v z b) told → Appends z u (lines_of (last v.streaming)) → more ≡ length (last v.streaming)
    → Appends u t (end_line (told.steps + more))
    → IsScripted job (wire x a) (wire t b) (record { steps = told.steps + more; erases = told.erases; erased = told.erased; programs = told.programs })
whole_script job v a b x y z u t told more begun done close count ended =
    let n = told.steps + more in
    let part = done.part in
    let ops = done.wrote.steps.ops in
    let goal = target_from job 0 part in
    let are : job_ops job part goal ≡ ops = (whole_is unit_steps job v a b y z told done).are part goal done.size (part_whole part) (part_whole goal) in
    let steps : n ≡ length (job_planned job part goal) =
    steps_are unit_steps job v a b y z told more n done count refl ∙ sym (ap length (planned_parts job part goal ops are)) in
    let text : body job ops ++ end_line n ≡ job_text job part goal = ap (λ i. body job ops ++ end_line i) steps ∙ sym (text_is job part goal ops are) in
    let work = whole_work unit_steps job v a b y z told more done count in
    record {
      work = work.0;
      put = subst (λ (part : List ℕ). Appends x t (job_text job part (target_from job 0 part))) (sym work.1)
          (subst (Appends x t) text (Appends-append x u t (body job ops) (end_line n) (body_put job v a b x y z u told begun done close) ended));
    }
