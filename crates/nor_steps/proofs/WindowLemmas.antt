-- From one unit of a window to the next.
use Rattle.std.proofs.Common.{◌≡◌, ℕ, zero, suc, ◌+◌, ◌-◌, ◌*◌, ◌/◌, ◌%◌, ◌^◌, ◌<◌, ◌≤◌, List, [], ◌∷◌, ◌++◌, length, map, take, drop, replicate, get_or, Option, None, Ok, Err, refl, sym, ◌∙◌, ap, subst, arith, inl, inr, length-append}
use Rattle.std.specs.Prelude.{flat_map}
use Rattle.std.specs.List.{slice_index, slice_range, AllByRecursion}
use Rattle.std.specs.Io.KnownBytes.{Appends}
use Rattle.std.proofs.lemmas.List.{append_assoc, append-nil, length-map, length-replicate, get_or-append-add, take-append-drop, take_all}
use Rattle.std.proofs.lemmas.Grind.{flat_map-append}
use Rattle.std.proofs.Math.Nat.{div-add-mod', mul-le-mul_left}
use Rattle.std.proofs.lemmas.List.Sums.{sum_by-append}
use Rattle.nor_base.specs.declared.meaning.Strategy.{Strategy}
use Rattle.nor_base.specs.Accepted.{IsAccepted}
use Rattle.nor_base.specs.Parameters.{Parameters}
use Rattle.nor_base.specs.Units.{WorkUnit, pages, units_of}
use Rattle.nor_base.specs.Operations.{Op, unit_ops}
use Rattle.nor_base.proofs.DeviceLaws.{Appends-none, Appends-append}
use Rattle.nor_geometry.specs.declared.unit.PlanUnit.{PlanUnit}
use Rattle.nor_geometry.specs.declared.unit.PlanUnit.TheVariants as unit
use Rattle.nor_geometry.specs.declared.fault.PlanFault.{PlanFault}
use Rattle.nor_geometry.specs.declared.fault.PlanFault.TheVariants as plan
use Rattle.nor_geometry.specs.Plan.{HasPart, IsWindow, IsPlan, Refuses, plan_unit}
use Rattle.nor_pages.specs.Runs.{IsUnit, unit_start}
use Rattle.nor_plan_laws.proofs.Units.Ranges.{length-range, range_at}
use Rattle.nor_plan_laws.proofs.Units.Wider.{some_page}
use Rattle.nor_plan_laws.specs.Least.{ErasesBlocks}
use Rattle.nor_steps.specs.Stretch.{stretch, extent}
use Rattle.nor_steps.specs.declared.tally.Tally.{Tally}
use Rattle.nor_steps.specs.declared.fault.StepsFault.{StepsFault}
use Rattle.nor_steps.specs.declared.fault.StepsFault.TheVariants as fault
use Rattle.nor_steps.specs.Faults.{lifted_plan, IsOfWriting}
use Rattle.nor_steps.specs.Tally.{erases_of, erased_of, programs_of, tally_of, sum_of, nothing_told, IsFew}
use Rattle.nor_steps.specs.Units.{unit_size, HasBytes, AreUnitOps, WritesUnit, unit_bytes}
use Rattle.nor_steps.specs.Texts.{HasText, StopsText, WroteText, unit_steps}
use Rattle.nor_steps.specs.Work.{stretch_units, IsWindowPlan, IsWork}
use Rattle.nor_steps.specs.Writing.{Writing, Begins, next_lines, written_on, output}
use Rattle.nor_steps.proofs.OpLemmas.{take_one, all_one, all_at, lines_join, more_lines, more_steps, more_on, done_none}
use Rattle.nor_steps.proofs.TallyLemmas.{same_tally}
use Rattle.nor_steps.proofs.TextLemmas.{units_steps, work_text}
use Rattle.nor_steps.proofs.Placed.{LiesIn, IsLevel, IsPlaced, level_of, length-level, units_placed, few_units, window_stretch}

-- some content of the chip that has these bytes there
abbrev pub filled : ℕ → List ℕ → List ℕ
filled at bytes = replicate at 0 ++ bytes

pub part_filled : (at : ℕ) (bytes : List ℕ) → HasPart (filled at bytes) bytes at
part_filled at bytes =
    let long : length (replicate at 0) ≡ at = length-replicate at 0 in
    record {
      fits = omega (arith, length-append (replicate at 0) bytes, long);
      same = λ i inside. ap (λ n. slice_index (filled at bytes) (n + i)) (sym long) ∙ get_or-append-add (replicate at 0) bytes i 0;
    }

placed_map : (m : Parameters) (content level target : List ℕ) (at count : ℕ) (us : List WorkUnit) → AllByRecursion (IsPlaced m content level target at count) us
    → AllByRecursion (LiesIn m at count) (map plan_unit us)
placed_map m content level target at count [] all = tt
placed_map m content level target at count (u ∷ us) all = (all.0.lies, placed_map m content level target at count us all.1)

-- places in lists
pub get_or_map : {X Y : Type 0} (f : X → Y) (xs : List X) (k : ℕ) (e : X) (d : Y) → k < length xs → get_or (map f xs) k d ≡ f (get_or xs k e)
get_or_map f [] k e d inside = absurd (omega arith)
get_or_map f (x ∷ xs) zero e d inside = refl
get_or_map f (x ∷ xs) (suc k) e d inside = get_or_map f xs k e d (omega arith)

pub some_unit : WorkUnit
some_unit = record { erase = None; start = 0; size = 0; programs = [] }

-- where each unit of a plan lies
pub lies_at : (m : Parameters) (by : Strategy) (at : ℕ) (have want : List ℕ) (units : List PlanUnit) (k : ℕ) (d : PlanUnit) → ErasesBlocks → IsAccepted m
    → IsWindow m by at (length have) → IsPlan m by at have want units → k < length units → LiesIn m at (length have) (get_or units k d)
lies_at m by at have want units k d law accepted w planned inside =
    let content = filled at have in
    let target = filled at want in
    let have_part = part_filled at have in
    let is = planned content target have_part (part_filled at want) in
    let all = units_placed m by content target at (length have) w.size law (window_stretch m by at (length have) accepted w) have_part.fits in
    all_at (LiesIn m at (length have)) units k d
    (subst (AllByRecursion (LiesIn m at (length have))) (sym is.units) (placed_map m content (level_of m by content target) target at (length have) _ all)) inside

pub few_planned : (m : Parameters) (by : Strategy) (at : ℕ) (have want : List ℕ) (units : List PlanUnit) → 0 < m.page → IsPlan m by at have want units → length units ≤ length have
few_planned m by at have want units some planned =
    let content = filled at have in
    let target = filled at want in
    let is = planned content target (part_filled at have) (part_filled at want) in
    let n = length have / m.page in
    let all : n * m.page + length have % m.page ≡ length have = div-add-mod' (length have) m.page in
    let each : n * 1 ≤ n * m.page = mul-le-mul_left n some in
    let count : length units ≡ length (units_of m by content target (pages m.page at n)) = ap length is.units ∙ length-map (units_of m by content target (pages m.page at n)) plan_unit in
    omega (arith, count, few_units m by content target at n, all, each)

-- bytes of a part of a part
pub part_of_part : (whole part : List ℕ) (at low high : ℕ) → HasPart whole part at → low ≤ high → high ≤ length part → HasPart whole (slice_range part low high) (at + low)
part_of_part whole part at low high is rises upto =
    let long : length (slice_range part low high) ≡ high - low = length-range part low high rises upto in
    let fits = is.fits in
    record {
      fits = omega (arith, long, fits, upto);
      same = λ i inside.
          let here : low + i < high = omega (arith, long, inside) in
          let place : (low + i) - low ≡ i = omega arith in
          let there : at + low + i ≡ at + (low + i) = omega arith in
          ap (slice_index whole) there ∙ is.same (low + i) (omega (arith, here, upto))
          ∙ sym (range_at part low high (low + i) (omega arith) here) ∙ ap (slice_index (slice_range part low high)) place;
    }

pub has_bytes : (m : Parameters) (at count : ℕ) (content level target have want : List ℕ) (u : PlanUnit) → LiesIn m at count u → IsLevel m content level u → length level ≡ length content
    → length have ≡ count → length want ≡ count → HasPart content have at → HasPart target want at
    → HasBytes u (slice_range have (unit_start u - at) (unit_start u - at + unit_size m.page u)) (slice_range want (unit_start u - at) (unit_start u - at + unit_size m.page u)) level target
has_bytes m at count content level target have want (unit.Block b) lies levels long have_long want_long have_part want_part =
    let place : at + (b.start - at) ≡ b.start = omega (arith, lies.low) in (
      levels,
      subst (HasPart target (slice_range want (b.start - at) (b.start - at + b.size))) place
          (part_of_part target want at (b.start - at) (b.start - at + b.size) want_part (omega arith) (omega (arith, lies.low, lies.high, want_long))),
    )
has_bytes m at count content level target have want (unit.Page start) lies levels long have_long want_long have_part want_part =
    let place : at + (start - at) ≡ start = omega (arith, lies.low) in
    let part = subst (HasPart content (slice_range have (start - at) (start - at + m.page))) place
    (part_of_part content have at (start - at) (start - at + m.page) have_part (omega arith) (omega (arith, lies.low, lies.high, have_long))) in
    let size : length (slice_range have (start - at) (start - at + m.page)) ≡ (start - at + m.page) - (start - at) =
    length-range have (start - at) (start - at + m.page) (omega arith) (omega (arith, lies.low, lies.high, have_long)) in
    let fits = part.fits in (
      record {
        fits = omega (arith, fits, long);
        same = λ i inside. levels (start + i) (omega arith) (omega (arith, inside, size)) ∙ part.same i inside;
      },
      subst (HasPart target (slice_range want (start - at) (start - at + m.page))) place
          (part_of_part target want at (start - at) (start - at + m.page) want_part (omega arith) (omega (arith, lies.low, lies.high, want_long))),
    )

-- the units before one are written
pub record IsSofar (w v : Writing) (a b : Option (List ℕ)) (at : ℕ) (have want : List ℕ) (k : ℕ) (told : Tally) : Type 0 where
  pub ops : List Op
  pub are : (content target : List ℕ) → HasPart content have at → HasPart target want at
      → flat_map (unit_ops w.streaming.meaning w.verify target) (take k (stretch_units w.streaming.meaning w.streaming.by (extent at (length have) content target))) ≡ ops
  pub put : Appends a b (next_lines w ops)
  pub state : v ≡ written_on w ops
  pub its_tally : told ≡ tally_of w.streaming ops
  pub few : IsFew k told

pub sofar_none : (w : Writing) (a : Option (List ℕ)) (at : ℕ) (have want : List ℕ) → IsSofar w w a a at have want 0 nothing_told
sofar_none w a at have want =
    let none = done_none w a in
    record {
      ops = [];
      are = λ content target first second. refl;
      put = none.put;
      state = none.state;
      its_tally = refl;
      few = record { steps = omega arith; erases = omega arith; erased = omega arith; programs = omega arith };
    }

-- the operations of a unit of the plan
ops_at : (w : Writing) (at : ℕ) (have want : List ℕ) (units : List PlanUnit) (k : ℕ) (d : PlanUnit) (e : WorkUnit) (content target : List ℕ) (ops : List Op)
    → IsWindowPlan w.streaming.meaning w.streaming.by (stretch at have want) units → k < length units → HasPart content have at → HasPart target want at
    → AreUnitOps w (get_or units k d) (slice_range have (unit_start (get_or units k d) - at) (unit_start (get_or units k d) - at + unit_size w.streaming.meaning.page (get_or units k d)))
    (slice_range want (unit_start (get_or units k d) - at) (unit_start (get_or units k d) - at + unit_size w.streaming.meaning.page (get_or units k d))) ops
    → (k < length (stretch_units w.streaming.meaning w.streaming.by (extent at (length have) content target)))
    × (unit_ops w.streaming.meaning w.verify target (get_or (stretch_units w.streaming.meaning w.streaming.by (extent at (length have) content target)) k e) ≡ ops)
ops_at w at have want units k d e content target ops p inside have_part want_part are =
    let m = w.streaming.meaning in
    let by = w.streaming.by in
    let us = stretch_units m by (extent at (length have) content target) in
    let is = p.plan content target have_part want_part in
    let count : length units ≡ length us = ap length is.units ∙ length-map us plan_unit in
    let there : k < length us = omega (arith, count, inside) in
    let placed = all_at (IsPlaced m content (level_of m by content target) target at (length have)) us k e
    (units_placed m by content target at (length have) p.window.size p.law (window_stretch m by at (length have) p.accepted p.window) have_part.fits) there in
    let u = get_or us k e in
    let same : get_or units k d ≡ plan_unit u = ap (λ xs. get_or xs k d) is.units ∙ get_or_map plan_unit us k e d there in
    let bytes = has_bytes m at (length have) content (level_of m by content target) target have want (plan_unit u) placed.lies placed.level_there
    (length-level m by content target) refl (sym p.lengths) have_part want_part in (
      there,
      ap (unit_ops m w.verify target) placed.made
          ∙ subst (λ q. AreUnitOps w q (slice_range have (unit_start q - at) (unit_start q - at + unit_size m.page q)) (slice_range want (unit_start q - at) (unit_start q - at + unit_size m.page q)) ops)
          same are (level_of m by content target) target bytes,
    )

tally_sum : (w v : Writing) (xs ys : List Op) → v ≡ written_on w xs → sum_of (tally_of w.streaming xs) (tally_of v.streaming ys) ≡ tally_of w.streaming (xs ++ ys)
tally_sum w v xs ys state =
    ap (λ (u : Writing). sum_of (tally_of w.streaming xs) (tally_of u.streaming ys)) state
    ∙ same_tally _ _ _ _ _ _ _ _ (sym (more_steps w.streaming xs ys)) (sym (sum_by-append erases_of xs ys)) (sym (sum_by-append erased_of xs ys)) (sym (sum_by-append programs_of xs ys))

few_sum : (k n : ℕ) (t u : Tally) → IsFew k t → IsFew 1 u → n ≡ k + 1 → IsFew n (sum_of t u)
few_sum k n t u first second is = record {
  steps = omega (arith, first.steps, second.steps, is);
  erases = omega (arith, first.erases, second.erases, is);
  erased = omega (arith, first.erased, second.erased, is);
  programs = omega (arith, first.programs, second.programs, is);
}

-- one unit more
sofar_next : (w v u : Writing) (a b c : Option (List ℕ)) (at : ℕ) (have want : List ℕ) (units : List PlanUnit) (k : ℕ) (d : PlanUnit) (low high : ℕ) (told one both : Tally)
    → IsWindowPlan w.streaming.meaning w.streaming.by (stretch at have want) units → IsSofar w v a b at have want k told → k < length units → low ≡ unit_start (get_or units k d) - at
    → high ≡ unit_start (get_or units k d) - at + unit_size w.streaming.meaning.page (get_or units k d)
    → WritesUnit (output v b) (output u c) (unit_bytes (get_or units k d) (slice_range have low high) (slice_range want low high)) (Ok one) → both ≡ sum_of told one → IsSofar w u a c at have want (k + 1) both
sofar_next w v u a b c at have want units k d low high told one both p s inside low_is high_is wrote sum =
    let x = get_or units k d in
    let m = w.streaming.meaning in
    let are : AreUnitOps w x (slice_range have (unit_start x - at) (unit_start x - at + unit_size m.page x)) (slice_range want (unit_start x - at) (unit_start x - at + unit_size m.page x)) wrote.ops =
    subst (λ h. AreUnitOps w x (slice_range have (unit_start x - at) h) (slice_range want (unit_start x - at) h) wrote.ops) high_is
    (subst (λ l. AreUnitOps w x (slice_range have l high) (slice_range want l high) wrote.ops) low_is
    (subst (λ (t : Writing). AreUnitOps t x (slice_range have low high) (slice_range want low high) wrote.ops) s.state wrote.are)) in
    let written = wrote.written in
    record {
      ops = s.ops ++ wrote.ops;
      are = λ content target have_part want_part.
          let us = stretch_units m w.streaming.by (extent at (length have) content target) in
          let here = ops_at w at have want units k d some_unit content target wrote.ops p inside have_part want_part are in
          let f = unit_ops m w.verify target in
          let next : k + 1 ≡ suc k = omega arith in
          ap (λ n. flat_map f (take n us)) next ∙ ap (flat_map f) (take_one us k some_unit here.0) ∙ flat_map-append f (take k us) (get_or us k some_unit ∷ [])
          ∙ ap (λ xs. flat_map f (take k us) ++ xs) (append-nil (f (get_or us k some_unit)) ∙ here.1) ∙ ap (λ xs. xs ++ wrote.ops) (s.are content target have_part want_part);
      put = more_lines a b c w s.ops wrote.ops s.put (subst (λ (t : Writing). Appends b c (next_lines t wrote.ops)) s.state written.put);
      state = written.state ∙ ap (λ (t : Writing). written_on t wrote.ops) s.state ∙ more_on w s.ops wrote.ops;
      its_tally = sum ∙ ap (λ t. sum_of t one) s.its_tally ∙ ap (sum_of (tally_of w.streaming s.ops)) written.its_tally ∙ tally_sum w v s.ops wrote.ops s.state;
      few = subst (IsFew (k + 1)) (sym sum) (few_sum k (k + 1) told one s.few written.few refl);
    }

-- a fault in a unit
begun_in : (w v : Writing) (a b c : Option (List ℕ)) (at : ℕ) (have want : List ℕ) (units : List PlanUnit) (k : ℕ) (d : PlanUnit) (told : Tally) (ops : List Op)
    → IsWindowPlan w.streaming.meaning w.streaming.by (stretch at have want) units → IsSofar w v a b at have want k told → k < length units
    → AreUnitOps w (get_or units k d) (slice_range have (unit_start (get_or units k d) - at) (unit_start (get_or units k d) - at + unit_size w.streaming.meaning.page (get_or units k d)))
    (slice_range want (unit_start (get_or units k d) - at) (unit_start (get_or units k d) - at + unit_size w.streaming.meaning.page (get_or units k d))) ops
    → Begins b c (next_lines v ops) → HasText unit_steps w a c (stretch at have want)
begun_in w v a b c at have want units k d told ops p s inside are cut =
    let m = w.streaming.meaning in
    let before = next_lines w s.ops in
    record {
      front = before ++ cut.front;
      begun = λ content target have_part want_part.
          let us = stretch_units m w.streaming.by (extent at (length have) content target) in
          let f = unit_ops m w.verify target in
          let here = ops_at w at have want units k d some_unit content target ops p inside have_part want_part are in
          let later = flat_map f (drop (suc k) us) in
          let parts : flat_map f us ≡ s.ops ++ (ops ++ later) =
          ap (flat_map f) (sym (all_one us k some_unit here.0)) ∙ flat_map-append f (take k us ++ get_or us k some_unit ∷ []) (drop (suc k) us)
          ∙ ap (λ xs. xs ++ later) (flat_map-append f (take k us) (get_or us k some_unit ∷ [])
          ∙ ap (λ xs. flat_map f (take k us) ++ xs) (append-nil (f (get_or us k some_unit)) ∙ here.1) ∙ ap (λ xs. xs ++ ops) (s.are content target have_part want_part))
          ∙ append_assoc s.ops ops later in
          let after = next_lines (written_on (written_on w s.ops) ops) later in
          record {
            rest = cut.rest ++ after;
            whole =
                units_steps w content target us ∙ ap (next_lines w) parts ∙ lines_join w s.ops (ops ++ later) ∙ ap (λ text. before ++ text) (lines_join (written_on w s.ops) ops later)
                ∙ ap (λ (t : Writing). before ++ (next_lines t ops ++ after)) (sym s.state)
                ∙ ap (λ text. before ++ (text ++ after)) cut.whole ∙ ap (λ text. before ++ text) (append_assoc cut.front cut.rest after)
                ∙ sym (append_assoc before cut.front (cut.rest ++ after));
            sound = (p.plan content target have_part want_part).sound;
          };
      put = Appends-append a b c before cut.front s.put cut.put;
    }

begun_before : (w v : Writing) (a b c : Option (List ℕ)) (at : ℕ) (have want : List ℕ) (units : List PlanUnit) (k : ℕ) (told : Tally)
    → IsWindowPlan w.streaming.meaning w.streaming.by (stretch at have want) units → IsSofar w v a b at have want k told → Appends b c [] → HasText unit_steps w a c (stretch at have want)
begun_before w v a b c at have want units k told p s none =
    let m = w.streaming.meaning in
    let before = next_lines w s.ops in
    record {
      front = before ++ [];
      begun = λ content target have_part want_part.
          let us = stretch_units m w.streaming.by (extent at (length have) content target) in
          let f = unit_ops m w.verify target in
          let later = flat_map f (drop k us) in
          let parts : flat_map f us ≡ s.ops ++ later =
          ap (flat_map f) (sym (take-append-drop k us)) ∙ flat_map-append f (take k us) (drop k us) ∙ ap (λ xs. xs ++ later) (s.are content target have_part want_part) in
          record {
            rest = next_lines (written_on w s.ops) later;
            whole = units_steps w content target us ∙ ap (next_lines w) parts ∙ lines_join w s.ops later ∙ ap (λ text. text ++ next_lines (written_on w s.ops) later) (sym (append-nil before));
            sound = (p.plan content target have_part want_part).sound;
          };
      put = Appends-append a b c before [] s.put none;
    }

stops_by : (w : Writing) (a c : Option (List ℕ)) (at : ℕ) (have want : List ℕ) (why : StepsFault) → IsOfWriting why → HasText unit_steps w a c (stretch at have want) → StopsText unit_steps (output w a) c (stretch at have want) why
stops_by w a c at have want (fault.Plan f) is begun = absurd is
stops_by w a c at have want fault.Write is begun = begun
stops_by w a c at have want fault.Memory is begun = inl begun

sofar_cut : (w v u : Writing) (a b c : Option (List ℕ)) (at : ℕ) (have want : List ℕ) (units : List PlanUnit) (k : ℕ) (d : PlanUnit) (low high : ℕ) (told : Tally) (why : StepsFault)
    → IsWindowPlan w.streaming.meaning w.streaming.by (stretch at have want) units → IsSofar w v a b at have want k told → k < length units → low ≡ unit_start (get_or units k d) - at
    → high ≡ unit_start (get_or units k d) - at + unit_size w.streaming.meaning.page (get_or units k d) → IsOfWriting why
    → WritesUnit (output v b) (output u c) (unit_bytes (get_or units k d) (slice_range have low high) (slice_range want low high)) (Err why) → StopsText unit_steps (output w a) c (stretch at have want) why
sofar_cut w v u a b c at have want units k d low high told why p s inside low_is high_is is (inl wrote) =
    let x = get_or units k d in
    let m = w.streaming.meaning in
    let are : AreUnitOps w x (slice_range have (unit_start x - at) (unit_start x - at + unit_size m.page x)) (slice_range want (unit_start x - at) (unit_start x - at + unit_size m.page x)) wrote.ops =
    subst (λ h. AreUnitOps w x (slice_range have (unit_start x - at) h) (slice_range want (unit_start x - at) h) wrote.ops) high_is
    (subst (λ l. AreUnitOps w x (slice_range have l high) (slice_range want l high) wrote.ops) low_is
    (subst (λ (t : Writing). AreUnitOps t x (slice_range have low high) (slice_range want low high) wrote.ops) s.state wrote.are)) in
    stops_by w a c at have want why is (begun_in w v a b c at have want units k d told wrote.ops p s inside are wrote.written)
sofar_cut w v u a b c at have want units k d low high told why p s inside low_is high_is is (inr none) =
    stops_by w a c at have want why is (begun_before w v a b c at have want units k told p s none)

-- all units are written
pub sofar_all : (w v : Writing) (a b : Option (List ℕ)) (at : ℕ) (have want : List ℕ) (units : List PlanUnit) (k : ℕ) (told : Tally) → 0 < w.streaming.meaning.page
    → IsWindowPlan w.streaming.meaning w.streaming.by (stretch at have want) units → IsSofar w v a b at have want k told → length units ≤ k → k ≤ length units → WroteText unit_steps (output w a) (output v b) (stretch at have want) told
sofar_all w v a b at have want units k told some p s past upto =
    let m = w.streaming.meaning in
    let count = few_planned m w.streaming.by at have want units some p.plan in
    let work : IsWork w (stretch at have want) s.ops = λ content target have_part want_part.
    let us = stretch_units m w.streaming.by (extent at (length have) content target) in
    let is = p.plan content target have_part want_part in
    let long : length units ≡ length us = ap length is.units ∙ length-map us plan_unit in
    record {
      are = ap (flat_map (unit_ops m w.verify target)) (sym (take_all k us (omega (arith, long, past)))) ∙ s.are content target have_part want_part;
      sound = is.sound;
    } in
    record {
      steps = record { ops = s.ops; work = work; state = s.state; its_tally = s.its_tally; few = wider k (length have) told (omega (arith, count, upto)) s.few };
      these = next_lines w s.ops;
      is = work_text w at have want s.ops work;
      put = s.put;
    }
  where
    wider : (i j : ℕ) (t : Tally) → i ≤ j → IsFew i t → IsFew j t
    wider i j t fits few = record {
      steps = omega (arith, fits, few.steps);
      erases = omega (arith, fits, few.erases);
      erased = omega (arith, fits, few.erased);
      programs = omega (arith, fits, few.programs);
    }

-- no plan
pub no_plan : (w : Writing) (a : Option (List ℕ)) (at : ℕ) (have want : List ℕ) (why : PlanFault) → Refuses w.streaming.meaning w.streaming.by at have want why
    → StopsText unit_steps (output w a) a (stretch at have want) (lifted_plan why)
no_plan w a at have want plan.Memory is = inr (Appends-none a)
no_plan w a at have want (plan.NoErase x) is = (is, Appends-none a)
no_plan w a at have want (plan.Unreachable x) is = (is, Appends-none a)

-- where the next unit lies
pub record LiesHere (m : Parameters) (at count page : ℕ) (u : PlanUnit) : Type 0 where
  pub stretch : IsUnit m u (unit_size page u)
  pub low : at ≤ unit_start u
  pub high : unit_start u + unit_size page u ≤ at + count
  pub few : unit_size page u ≤ 2 ^ 24
  pub fits : at + count ≤ 2 ^ 28

pub lies_here : (w : Writing) (at : ℕ) (have want : List ℕ) (units : List PlanUnit) (k : ℕ) {page : ℕ} (u : PlanUnit) → page ≡ w.streaming.meaning.page → IsWindowPlan w.streaming.meaning w.streaming.by (stretch at have want) units
    → u ≡ get_or units k u → k < length units → LiesHere w.streaming.meaning at (length have) page u
lies_here w at have want units k u is p there inside =
    let m = w.streaming.meaning in
    let lies = subst (LiesIn m at (length have)) (sym there) (lies_at m w.streaming.by at have want units k u p.law p.accepted p.window p.plan inside) in
    subst (λ n. LiesHere m at (length have) n u) (sym is) (record {
      stretch = lies.stretch;
      low = lies.low;
      high = lies.high;
      few = lies.few;
      fits = let inside' = p.window.inside in omega (arith, inside', p.accepted.size_high);
    })

pub unit_length : (want : List ℕ) (low high start at size : ℕ) → low ≡ start - at → high ≡ start - at + size → start - at + size ≤ length want → length (slice_range want low high) ≡ size
unit_length want low high start at size low_is high_is fits =
    let long = length-range want low high (omega (arith, low_is, high_is)) (omega (arith, high_is, fits)) in
    omega (arith, long, low_is, high_is)

pub few_sofar : (w v u : Writing) (a b c : Option (List ℕ)) (at : ℕ) (have want : List ℕ) (units : List PlanUnit) (k : ℕ) (p : PlanUnit) (xs ys : List ℕ) (told one : Tally)
    → IsWindowPlan w.streaming.meaning w.streaming.by (stretch at have want) units → IsSofar w v a b at have want k told → k < length units → WritesUnit (output v b) (output u c) (unit_bytes p xs ys) (Ok one) → IsFew k told × IsFew 1 one × (k < 2 ^ 28)
few_sofar w v u a b c at have want units k p xs ys told one plan s inside wrote =
    let count = few_planned w.streaming.meaning w.streaming.by at have want units (some_page w.streaming.meaning plan.accepted) plan.plan in
    let fits = plan.window.inside in
    (s.few, wrote.written.few, omega (arith, inside, count, fits, plan.accepted.size_high))

-- the same of a unit by its place
pub cut_here : (w v u : Writing) (a b c : Option (List ℕ)) (at : ℕ) (have want : List ℕ) (units : List PlanUnit) (k : ℕ) (x : PlanUnit) (page low high : ℕ) (told : Tally) (why : StepsFault)
    → page ≡ w.streaming.meaning.page → IsWindowPlan w.streaming.meaning w.streaming.by (stretch at have want) units → IsSofar w v a b at have want k told → x ≡ get_or units k x → k < length units → low ≡ unit_start x - at
    → high ≡ unit_start x - at + unit_size page x → IsOfWriting why → WritesUnit (output v b) (output u c) (unit_bytes x (slice_range have low high) (slice_range want low high)) (Err why)
    → StopsText unit_steps (output w a) c (stretch at have want) why
cut_here w v u a b c at have want units k x page low high told why is p s there inside low_is high_is of wrote =
    sofar_cut w v u a b c at have want units k x low high told why p s inside (low_is ∙ ap (λ q. unit_start q - at) there)
    (high_is ∙ ap (λ n. unit_start x - at + unit_size n x) is ∙ ap (λ q. unit_start q - at + unit_size w.streaming.meaning.page q) there) of
    (subst (λ q. WritesUnit (output v b) (output u c) (unit_bytes q (slice_range have low high) (slice_range want low high)) (Err why)) there wrote)

pub next_here : (w v u : Writing) (a b c : Option (List ℕ)) (at : ℕ) (have want : List ℕ) (units : List PlanUnit) (k : ℕ) (x : PlanUnit) (page low high : ℕ) (told one both : Tally)
    → page ≡ w.streaming.meaning.page → IsWindowPlan w.streaming.meaning w.streaming.by (stretch at have want) units → IsSofar w v a b at have want k told → x ≡ get_or units k x → k < length units → low ≡ unit_start x - at
    → high ≡ unit_start x - at + unit_size page x → WritesUnit (output v b) (output u c) (unit_bytes x (slice_range have low high) (slice_range want low high)) (Ok one) → both ≡ sum_of told one
    → IsSofar w u a c at have want (k + 1) both
next_here w v u a b c at have want units k x page low high told one both is p s there inside low_is high_is wrote sum =
    sofar_next w v u a b c at have want units k x low high told one both p s inside (low_is ∙ ap (λ q. unit_start q - at) there)
    (high_is ∙ ap (λ n. unit_start x - at + unit_size n x) is ∙ ap (λ q. unit_start q - at + unit_size w.streaming.meaning.page q) there)
    (subst (λ q. WritesUnit (output v b) (output u c) (unit_bytes q (slice_range have low high) (slice_range want low high)) (Ok one)) there wrote) sum
