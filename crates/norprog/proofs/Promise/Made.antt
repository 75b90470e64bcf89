-- The steps that are made window after window are those with which the work begins.
use Rattle.std.proofs.Common.{◌≡◌, ℕ, ◌+◌, ◌-◌, ◌%◌, ◌<◌, ◌≤◌, List, [], ◌∷◌, ◌++◌, length, min, Some, refl, sym, ◌∙◌, ap, subst, arith, append_assoc}
use Rattle.std.specs.Prelude.{flat_map}
use Rattle.std.specs.Io.KnownBytes.{Appends}
use Rattle.std.specs.List.{slice_range, AllByRecursion}
use Rattle.std.proofs.Math.Nat.{zero-mod, zero-div}
use Rattle.std.proofs.lemmas.List.{map-append}
use Rattle.nor_base.specs.declared.step.Step.{Step}
use Rattle.nor_base.specs.Operations.{Op, lowered, unit_ops}
use Rattle.nor_base.specs.Planned.{planned_ops}
use Rattle.nor_base.specs.Script.{step_lines}
use Rattle.nor_base.specs.Spelling.{Instr}
use Rattle.nor_base.specs.Step.{IsStep}
use Rattle.nor_base.specs.Strategies.{strategy}
use Rattle.nor_base.specs.Units.{pages, units, units_of, units_over}
use Rattle.nor_geometry.specs.Plan.{HasPart}
use Rattle.nor_geometry.specs.Window.{IsWindowSize}
use Rattle.nor_laws.specs.Laws.{IsSpelled, LinesApart}
use Rattle.nor_laws.specs.Spelling.{HasSpelling}
use Rattle.nor_laws.proofs.ScriptLaws.{spelled_step}
use Rattle.nor_plan_laws.specs.Exists.{PlannedCanBeSpelled}
use Rattle.nor_plan_laws.proofs.Units.Ranges.{length-range}
use Rattle.nor_select.specs.Streamed.{Streaming, next, last}
use Rattle.nor_steps.specs.declared.tally.Tally.{Tally}
use Rattle.nor_steps.specs.Lines.{step_of, steps_of}
use Rattle.nor_steps.specs.Stretch.{Stretch, stretch, extent}
use Rattle.nor_steps.specs.Texts.{unit_steps, WroteText}
use Rattle.nor_steps.specs.Work.{stretch_ops, stretch_units}
use Rattle.nor_steps.specs.Writing.{Writing, lines_of, next_lines, output, written_on}
use Rattle.nor_steps.proofs.OpLemmas.{done_none, more_on}
use Rattle.nor_steps.proofs.StreamLemmas.{next_joins}
use Rattle.nor_steps.proofs.TextLemmas.{units_steps}
use Rattle.nor_steps.proofs.WindowLemmas.{part_of_part}
use Rattle.norprog.specs.Stepper.{Stepping, IsAtWindow, MakesMore, begun, ops_upto, steps_by, steps_upto, update_of}
use Rattle.norprog.specs.Update.{Update, CanBeDone}
use Rattle.norprog.proofs.Content.Places.{IsPlace, place_is, some_page}
use Rattle.norprog.proofs.Content.Stretches.{stretch_join}
use Rattle.norprog.proofs.Content.Targets.{part_whole}
use Rattle.norprog.proofs.Promise.Build.{spelled_is}
use Rattle.norprog.proofs.Script.Fronts.{lowered_parts}

-- lists in two parts
all_first : {X : Type 0} (P : X → Type 0) (xs ys : List X) → AllByRecursion P (xs ++ ys) → AllByRecursion P xs
all_first P [] ys all = tt
all_first P (x ∷ xs) ys all = (all.0, all_first P xs ys all.1)

all_second : {X : Type 0} (P : X → Type 0) (xs ys : List X) → AllByRecursion P (xs ++ ys) → AllByRecursion P ys
all_second P [] ys all = all
all_second P (x ∷ xs) ys all = all_second P xs ys all.1

-- steps that a script may have
spelled_steps : (xs : List Step) → AllByRecursion IsStep xs → AllByRecursion IsSpelled xs
spelled_steps [] all = tt
spelled_steps (x ∷ xs) all = (spelled_step x all.0, spelled_steps xs all.1)

pub all_spelled : PlannedCanBeSpelled → HasSpelling → (u : Update) → CanBeDone u → AllByRecursion IsSpelled (steps_by u)
all_spelled can spelling u w = spelled_steps (steps_by u) (spelled_is can spelling u w).each

-- the operations of the units that start in a part
abbrev ops_in : Update → ℕ → ℕ → List Op
ops_in u at count = stretch_ops (begun u) (extent at count u.have u.want)

abbrev stream : Update → Streaming
stream u = (begun u).streaming

-- how far a work is up to an address
abbrev work_at : Update → ℕ → Writing
work_at u at = written_on (begun u) (ops_upto u at)

abbrev pub stepped : Update → ℕ → ℕ → Stepping
stepped u at window = record { work = work_at u at; have = u.have; want = u.want; at = at; window = window }

ops_all : (u : Update) (at : ℕ) → at ≡ u.m.size → planned_ops u.m u.start u.verify u.have u.want ≡ ops_upto u at
unfolding units
ops_all u at all = ap (ops_upto u) (sym all)

steps_joined : (xs ys : List Instr) → steps_of (xs ++ ys) ≡ steps_of xs ++ steps_of ys
steps_joined xs ys = map-append step_of xs ys

-- all steps, and those that leave the mode
pub steps_end : (u : Update) (at : ℕ) → at ≡ u.m.size → steps_by u ≡ steps_upto u at ++ steps_of (last (work_at u at).streaming)
steps_end u at all =
    ap (λ ops. steps_of (lowered u.m u.start (strategy u.m u.start) ops)) (ops_all u at all)
    ∙ ap steps_of (lowered_parts u.m u.start (strategy u.m u.start) (ops_upto u at))
    ∙ steps_joined (next (stream u) (ops_upto u at)) (last (work_at u at).streaming)

-- the steps up to an address, and those of the part after it
steps_next : (u : Update) (at n : ℕ) → 0 < u.m.page → at % u.m.page ≡ 0
    → steps_upto u (at + n) ≡ steps_upto u at ++ steps_of (next (work_at u at).streaming (ops_in u at n))
steps_next u at n some pages =
    ap (λ ops. steps_of (next (stream u) ops)) (stretch_join (begun u) at n u.have u.want some pages)
    ∙ ap steps_of (next_joins (stream u) (ops_upto u at) (ops_in u at n))
    ∙ steps_joined (next (stream u) (ops_upto u at)) (next (work_at u at).streaming (ops_in u at n))

-- the steps up to an address begin the work
record Begins (u : Update) (at : ℕ) : Type 0 where
  ahead : List Step
  are : steps_by u ≡ steps_upto u at ++ ahead

steps_begin : (u : Update) (at : ℕ) → 0 < u.m.page → at % u.m.page ≡ 0 → at ≤ u.m.size → Begins u at
steps_begin u at some pages within =
    let n = u.m.size - at in
    let all : at + n ≡ u.m.size = omega (arith, within) in
    let later = steps_of (next (work_at u at).streaming (ops_in u at n)) in
    let leave = steps_of (last (work_at u (at + n)).streaming) in
    record {
      ahead = later ++ leave;
      are = steps_end u (at + n) all ∙ ap (λ front. front ++ leave) (steps_next u at n some pages) ∙ append_assoc (steps_upto u at) later leave;
    }

-- before the first window
ops_none : (u : Update) → ops_upto u 0 ≡ []
unfolding units_over
ops_none u = ap (λ n. flat_map (unit_ops u.m u.verify u.want) (units_of u.m (strategy u.m u.start) u.have u.want (pages u.m.page 0 n))) (zero-div u.m.page)

pub none_made : (u : Update) → steps_upto u 0 ≡ []
none_made u = ap (λ ops. steps_of (next (stream u) ops)) (ops_none u)

at_window : (u : Update) (at window : ℕ) → CanBeDone u → IsWindowSize u.m window → at ≤ length u.have → (at < length u.have → at % window ≡ 0) → at % u.m.page ≡ 0
    → IsAtWindow (stepped u at window)
at_window u at window w size within aligned pages =
    let n = length u.have - at in
    let all : length u.have ≡ at + n = omega (arith, within) in
    record {
      workable = w;
      window = size;
      within = within;
      aligned = aligned;
      state = refl;
      ahead = steps_of (next (work_at u at).streaming (ops_in u at n));
      begins = ap (steps_upto u) all ∙ steps_next u at n (some_page u.m w.accepted) pages;
      leave = steps_of (last (work_at u (length u.have)).streaming);
      whole = steps_end u (length u.have) w.have_size;
    }

pub at_first : (u : Update) (window : ℕ) → CanBeDone u → IsWindowSize u.m window → IsAtWindow (stepped u 0 window)
at_first u window w size = at_window u 0 window w size (omega arith) (λ some. zero-mod window) (zero-mod u.m.page)

first_is : (u : Update) (window : ℕ) → stepped u 0 window ≡ record { work = begun u; have = u.have; want = u.want; at = 0; window = window }
first_is u window =
    ap (λ (w : Writing). record { work = w; have = u.have; want = u.want; at = 0; window = window })
    (ap (written_on (begun u)) (ops_none u) ∙ sym (done_none (begun u) (Some [])).state)

-- what is so of a stepper at the first window is so of one that has just begun
pub begins_so : (P : Stepping → Type 0) (u : Update) (window : ℕ) (w : Writing) → w ≡ begun u → P (stepped u 0 window)
    → P (record { work = w; have = u.have; want = u.want; at = 0; window = window })
begins_so P u window w is p =
    subst (λ (w : Writing). P (record { work = w; have = u.have; want = u.want; at = 0; window = window })) (sym is) (subst P (first_is u window) p)

-- a stepper at a window is at that place of its work
place_of : (s : Stepping) → IsAtWindow s → s ≡ stepped (update_of s) s.at s.window
place_of s is = ap (λ (w : Writing). record { work = w; have = s.have; want = s.want; at = s.at; window = s.window }) is.state

-- where the next window lies
next_is : (s : Stepping) (n : ℕ) → IsAtWindow s → s.at < length s.have → n ≡ min s.window (length s.have - s.at) → IsPlace s.work.streaming.meaning s.window s.at n
next_is s n is more count =
    let size = is.workable.have_size in
    place_is s.work.streaming.meaning s.window s.at n is.workable.accepted is.window (omega (arith, more, size)) (is.aligned more)
    (count ∙ ap (λ k. min s.window (k - s.at)) size)

range_part : (xs : List ℕ) (at n : ℕ) → at + n ≤ length xs → HasPart xs (slice_range xs at (at + n)) at
range_part xs at n fits =
    let place : 0 + at ≡ at = omega arith in
    subst (HasPart xs (slice_range xs at (at + n))) place (part_of_part xs xs 0 at (at + n) (part_whole xs) (omega arith) fits)

-- what was kept of a window
record IsKept (u : Update) (at n : ℕ) (v : Writing) (xs : List Step) : Type 0 where
  work : v ≡ work_at u (at + n)
  those : steps_upto u (at + n) ≡ steps_upto u at ++ xs

kept : LinesApart → (u : Update) (at n : ℕ) (v : Writing) (xs : List Step) (told : Tally) → CanBeDone u → AllByRecursion IsSpelled (steps_by u) → 0 < u.m.page → at % u.m.page ≡ 0
    → (at + n) % u.m.page ≡ 0 → at + n ≤ length u.have → AllByRecursion IsSpelled xs
    → WroteText unit_steps (output (work_at u at) (Some [])) (output v (Some (step_lines xs))) (stretch at (slice_range u.have at (at + n)) (slice_range u.want at (at + n))) told
    → IsKept u at n v xs
kept apart u at n v xs told w all some pages after fits spelled wrote =
    let part = slice_range u.have at (at + n) in
    let here = range_part u.have at n fits in
    let here' = range_part u.want at n (omega (arith, fits, w.have_size, w.want_size)) in
    let long : length part ≡ n = length-range u.have at (at + n) (omega arith) fits ∙ omega arith in
    let q = ops_in u at n in
    let ops : wrote.steps.ops ≡ q = sym ((wrote.steps.work u.have u.want here here').are) ∙ ap (ops_in u at) long in
    let e = extent at (length part) u.have u.want in
    let text : wrote.these ≡ next_lines (work_at u at) q =
    sym ((wrote.is u.have u.want here here').are) ∙ units_steps (work_at u at) u.have u.want (stretch_units u.m (strategy u.m u.start) e)
    ∙ ap (λ k. next_lines (work_at u at) (ops_in u at k)) long in
    let later = steps_of (next (work_at u at).streaming q) in
    let next = steps_next u at n some pages in
    let begins = steps_begin u (at + n) some after (omega (arith, fits, w.have_size)) in
    let upto = all_first IsSpelled (steps_upto u (at + n)) begins.ahead (subst (AllByRecursion IsSpelled) begins.are all) in
    let own = all_second IsSpelled (steps_upto u at) later (subst (AllByRecursion IsSpelled) next upto) in
    let same : xs ≡ later = apart xs later spelled own (wrote.put ∙ text) in
    record {
      work = wrote.steps.state ∙ ap (written_on (work_at u at)) ops ∙ more_on (begun u) (ops_upto u at) q
          ∙ ap (written_on (begun u)) (sym (stretch_join (begun u) at n u.have u.want some pages));
      those = next ∙ ap (λ ys. steps_upto u at ++ ys) (sym same);
    }

makes_more : LinesApart → PlannedCanBeSpelled → HasSpelling → (u : Update) (at n window : ℕ) (v : Writing) (xs : List Step) (told : Tally) → IsAtWindow (stepped u at window)
    → IsPlace u.m window at n → AllByRecursion IsSpelled xs
    → WroteText unit_steps (output (work_at u at) (Some [])) (output v (Some (step_lines xs))) (stretch at (slice_range u.have at (at + n)) (slice_range u.want at (at + n))) told
    → MakesMore (stepped u at window) (record { work = v; have = u.have; want = u.want; at = at + n; window = window }) xs
makes_more apart can spelling u at n window v xs told is place spelled wrote =
    let w = is.workable in
    let fits : at + n ≤ length u.have = omega (arith, place.inside, w.have_size) in
    let its = kept apart u at n v xs told w (all_spelled can spelling u w) place.page place.pages place.whole fits spelled wrote in
    let there : MakesMore (stepped u at window) (stepped u (at + n) window) xs = record {
      ready = at_window u (at + n) window w place.window fits (λ more. place.aligned (omega (arith, more, w.have_size))) place.whole;
      same = refl;
      further = omega (arith, place.some);
      those = its.those;
    } in
    subst (λ (work : Writing). MakesMore (stepped u at window) (record { work = work; have = u.have; want = u.want; at = at + n; window = window }) xs) (sym its.work) there

pub makes : LinesApart → PlannedCanBeSpelled → HasSpelling → (s : Stepping) (n : ℕ) (v : Writing) (xs : List Step) (told : Tally) → IsAtWindow s → s.at < length s.have
    → n ≡ min s.window (length s.have - s.at) → AllByRecursion IsSpelled xs
    → WroteText unit_steps (output s.work (Some [])) (output v (Some (step_lines xs))) (stretch s.at (slice_range s.have s.at (s.at + n)) (slice_range s.want s.at (s.at + n))) told
    → MakesMore s (record { work = v; have = s.have; want = s.want; at = s.at + n; window = s.window }) xs
makes apart can spelling s n v xs told is more count spelled wrote =
    let u = update_of s in
    let t : Stepping = record { work = v; have = s.have; want = s.want; at = s.at + n; window = s.window } in
    let p = stretch s.at (slice_range s.have s.at (s.at + n)) (slice_range s.want s.at (s.at + n)) in
    let here = place_of s is in
    subst (λ (x : Stepping). MakesMore x t xs) (sym here)
    (makes_more apart can spelling u s.at n s.window v xs told (subst IsAtWindow here is) (next_is s n is more count) spelled
    (subst (λ (w : Writing). WroteText unit_steps (output w (Some [])) (output v (Some (step_lines xs))) p told) is.state wrote))

-- what a list took that was empty
pub kept_text : (old new xs : List Step) (text : List ℕ) → old ≡ [] → xs ≡ new → Appends (Some (step_lines old)) (Some (step_lines new)) text → step_lines xs ≡ text
unfolding step_lines
kept_text old new xs text none is put = ap step_lines is ∙ put ∙ ap (λ (l : List Step). step_lines l ++ text) none

pub kept_wrote : (w v : Writing) (p : Stretch) (told : Tally) (old new xs : List Step) → old ≡ [] → xs ≡ new
    → WroteText unit_steps (output w (Some (step_lines old))) (output v (Some (step_lines new))) p told
    → WroteText unit_steps (output w (Some [])) (output v (Some (step_lines xs))) p told
unfolding step_lines
kept_wrote w v p told old new xs none is wrote =
    subst (λ (l : List Step). WroteText unit_steps (output w (Some [])) (output v (Some (step_lines l))) p told) (sym is)
    (subst (λ (l : List Step). WroteText unit_steps (output w (Some (step_lines l))) (output v (Some (step_lines new))) p told) none wrote)

-- what was kept after the last window
pub closes : LinesApart → PlannedCanBeSpelled → HasSpelling → (s : Stepping) (xs : List Step) → IsAtWindow s → s.at ≡ length s.have → AllByRecursion IsSpelled xs
    → step_lines xs ≡ lines_of (last s.work.streaming) → steps_by (update_of s) ≡ steps_upto (update_of s) s.at ++ xs
closes apart can spelling s xs is whole spelled text =
    let u = update_of s in
    let leave = steps_of (last (work_at u s.at).streaming) in
    let end = steps_end u s.at (whole ∙ is.workable.have_size) in
    let own = all_second IsSpelled (steps_upto u s.at) leave (subst (AllByRecursion IsSpelled) end (all_spelled can spelling u is.workable)) in
    let same : xs ≡ leave = apart xs leave spelled own (text ∙ ap (λ (w : Writing). lines_of (last w.streaming)) is.state) in
    end ∙ ap (λ ys. steps_upto u s.at ++ ys) (sym same)
