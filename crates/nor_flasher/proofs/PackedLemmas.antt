-- Steps that are kept, and unpacked again.
use Rattle.std.proofs.Common.{◌≡◌, ℕ, suc, ◌+◌, ◌*◌, ◌/◌, ◌<◌, ◌≤◌, Bool, true, false, if◌then◌else◌, List, [], ◌∷◌, ◌++◌, length, take, drop, refl, sym, ◌∙◌, ap, subst, arith, min, Global, Result, Ok, Err, Vec, append_assoc, append-nil, length-append, length-drop}
use Rattle.std.specs.Prelude.{sum_by, replicate, flat_map, IfOk}
use Rattle.std.proofs.Math.Seq.{take-append_seam, drop-append_seam}
use Rattle.std.proofs.lemmas.List.{take_all, take-append-le, drop-append-le, length-take-le, length-replicate, nil_from_length}
use Rattle.std.proofs.lemmas.List.Sums.{sum_by-cons}
use Rattle.nor_base.specs.declared.step.Step.{Step}
use Rattle.nor_base.specs.Array.{is_filled}
use Rattle.nor_base.specs.Clocks.{bits}
use Rattle.nor_base.specs.Step.{step_clocks}
use Rattle.nor_base.proofs.BitLaws.{length-all_bits}
use Rattle.nor_serprog.specs.Carried.{operation_clocks}
use Rattle.nor_flasher.specs.declared.kept.Kind.{Kind}
use Rattle.nor_flasher.specs.declared.kept.Kind.TheVariants.{Send, Poll, Verify}
use Rattle.nor_flasher.specs.declared.kept.Mark.{Mark}
use Rattle.nor_flasher.specs.Packed.{step_with, expects, kept_count, clocks_by, step_by, unpacked, AreKept, mark_bytes, packed_mark, symbols_mark, Keeps, KeepsMore}
use Rattle.nor_flasher.specs.Progress.{step_bytes}

-- the bytes of its clocks, and then those expected, keep a step
keeps : (mark : Mark) (first clocks expect : List ℕ) → mark.clocks ≡ length first → clocks_by mark first ≡ clocks
    → (if expects mark.kind then mark.asked else 0) ≡ length expect → Keeps mark (first ++ expect) (step_with mark.kind clocks expect)
keeps mark first clocks expect long by count =
    let front : take mark.clocks (first ++ expect) ≡ first = ap (λ n. take n (first ++ expect)) long ∙ take-append_seam first expect in
    let back : drop mark.clocks (first ++ expect) ≡ expect = ap (λ n. drop n (first ++ expect)) long ∙ drop-append_seam first expect in
    record {
      long = omega (arith, length-append first expect, long, count);
      is = ap (λ xs. step_with mark.kind (clocks_by mark xs) (drop mark.clocks (first ++ expect))) front
          ∙ ap (step_with mark.kind (clocks_by mark first)) back ∙ ap (λ xs. step_with mark.kind xs expect) by;
    }

-- as many as are expected, where a kind expects none only of none
expected_by : (kind : Kind) (asked : ℕ) (expect : List ℕ) → (expects kind ≡ true → asked ≡ length expect) → (expects kind ≡ false → expect ≡ [])
    → (if expects kind then asked else 0) ≡ length expect
expected_by Send asked expect some none = sym (ap length (none refl))
expected_by Poll asked expect some none = sym (ap length (none refl))
expected_by Verify asked expect some none = some refl

pub keeps_packed : (kind : Kind) (sent : List ℕ) (asked : ℕ) (clocks expect : List ℕ) → clocks ≡ operation_clocks sent asked
    → (expects kind ≡ true → asked ≡ length expect) → (expects kind ≡ false → expect ≡ [])
    → Keeps (packed_mark kind sent asked) (sent ++ expect) (step_with kind clocks expect)
keeps_packed kind sent asked clocks expect spelled some none =
    keeps (packed_mark kind sent asked) sent clocks expect refl (sym spelled) (expected_by kind asked expect some none)

pub keeps_symbols : (kind : Kind) (clocks expect : List ℕ) (asked : ℕ) → asked ≡ length expect → (expects kind ≡ false → expect ≡ [])
    → Keeps (symbols_mark kind clocks asked) (clocks ++ expect) (step_with kind clocks expect)
keeps_symbols kind clocks expect asked some none =
    keeps (symbols_mark kind clocks asked) clocks clocks expect refl refl (expected_by kind asked expect (λ _. some) none)

pub keeps_by : (mark other : Mark) (kept : List ℕ) (step shown : Step) → mark ≡ other → step ≡ shown → Keeps other kept shown → Keeps mark kept step
keeps_by mark other kept step shown is same h = subst (λ m. Keeps m kept step) (sym is) (subst (Keeps other kept) (sym same) h)

-- what is kept is appended in two parts
pub kept_both : (old middle new first second : List ℕ) → middle ≡ old ++ first → new ≡ middle ++ second → new ≡ old ++ (first ++ second)
kept_both old middle new first second one two = two ∙ ap (λ (l : List ℕ). l ++ second) one ∙ append_assoc old first second

-- of the first step there are enough bytes, and the others are those of the later ones
pub kept_within : (mark : Mark) (marks : List Mark) (bytes : List ℕ) → AreKept (mark ∷ marks) bytes → kept_count mark ≤ length bytes
kept_within mark marks bytes h = omega (arith, h, sum_by-cons kept_count mark marks)

pub later_kept : (mark : Mark) (marks : List Mark) (bytes : List ℕ) → AreKept (mark ∷ marks) bytes → AreKept marks (drop (kept_count mark) bytes)
later_kept mark marks bytes h = omega (arith, h, sum_by-cons kept_count mark marks, length-drop (kept_count mark) bytes)

-- a step more is unpacked after the others
pub unpacked_more : (marks : List Mark) (bytes : List ℕ) (mark : Mark) (kept : List ℕ) → AreKept marks bytes → length kept ≡ kept_count mark
    → unpacked (marks ++ mark ∷ []) (bytes ++ kept) ≡ unpacked marks bytes ++ (step_by mark kept ∷ [])
unpacked_more [] [] mark kept h long = ap (λ xs. step_by mark xs ∷ []) (take_all (kept_count mark) kept (omega (arith, long)))
unpacked_more [] (b ∷ bs) mark kept h long = absurd (omega (arith, h))
unpacked_more (m ∷ ms) bytes mark kept h long =
    let within = kept_within m ms bytes h in
    let later = unpacked_more ms (drop (kept_count m) bytes) mark kept (later_kept m ms bytes h) long in
    ap (λ xs. step_by m xs ∷ unpacked (ms ++ mark ∷ []) (drop (kept_count m) (bytes ++ kept))) (take-append-le (kept_count m) bytes kept within)
    ∙ ap (λ xs. step_by m (take (kept_count m) bytes) ∷ unpacked (ms ++ mark ∷ []) xs) (drop-append-le (kept_count m) bytes kept within)
    ∙ ap (λ xs. step_by m (take (kept_count m) bytes) ∷ xs) later

-- so a list has one step more where it was kept
pub pushed : {E : Type 0} (result : Result (Unit {0}) E) (old new : List ℕ) (marks more : List Mark) (steps : List Step) (step : Step) → AreKept marks old
    → unpacked marks old ≡ steps → IfOk result (λ _. KeepsMore old new marks more step) → IfOk result (λ _. unpacked more new ≡ steps ++ (step ∷ []))
pushed (Ok u) old new marks more steps step h is m =
    ap (unpacked more) m.bytes ∙ ap (λ (l : List Mark). unpacked l (old ++ m.kept)) m.marked ∙ unpacked_more marks old m.mark m.kept h m.keeps.long
    ∙ ap (λ (x : Step). unpacked marks old ++ (x ∷ [])) m.keeps.is ∙ ap (λ (l : List Step). l ++ (step ∷ [])) is
pushed (Err e) old new marks more steps step h is m = tt

-- there is a step for each mark
pub unpacked_count : (marks : List Mark) (bytes : List ℕ) → length (unpacked marks bytes) ≡ length marks
unpacked_count [] bytes = refl
unpacked_count (mark ∷ marks) bytes = ap suc (unpacked_count marks (drop (kept_count mark) bytes))

pub unpacked_filled : (marks : List Mark) (bytes : List ℕ) → is_filled (unpacked marks bytes) ≡ is_filled marks
unpacked_filled [] bytes = refl
unpacked_filled (mark ∷ marks) bytes = refl

-- the bytes on the bus of the steps are those of their marks
clocks_counted : (mark : Mark) (packed : Bool) (kept : List ℕ) → mark.packed ≡ packed → length kept ≡ mark.clocks
    → length (clocks_by mark kept) / 8 ≡ mark_bytes mark
clocks_counted mark true kept is long =
    let count : length (operation_clocks kept mark.asked) / 8 ≡ mark.clocks + mark.asked =
    omega (arith, long, length-append (flat_map bits kept) (replicate (8 * mark.asked) 0x2E), length-all_bits kept, length-replicate {A = ℕ} (8 * mark.asked) 0x2E) in
    rw is count
clocks_counted mark false kept is long = rw is (ap (λ n. n / 8) long)

clocks_with : (kind : Kind) (clocks expect : List ℕ) → step_clocks (step_with kind clocks expect) ≡ clocks
clocks_with Send clocks expect = refl
clocks_with Poll clocks expect = refl
clocks_with Verify clocks expect = refl

bytes_counted : (mark : Mark) (kept : List ℕ) → length kept ≡ kept_count mark → step_bytes (step_by mark kept) ≡ mark_bytes mark
bytes_counted mark kept long =
    let first : length (take mark.clocks kept) ≡ mark.clocks = length-take-le mark.clocks kept (omega (arith, long)) in
    ap (λ xs. length xs / 8) (clocks_with mark.kind (clocks_by mark (take mark.clocks kept)) (drop mark.clocks kept))
    ∙ clocks_counted mark mark.packed (take mark.clocks kept) refl first

pub all_counted : (marks : List Mark) (bytes : List ℕ) → AreKept marks bytes → sum_by step_bytes (unpacked marks bytes) ≡ sum_by mark_bytes marks
all_counted [] bytes h = refl
all_counted (mark ∷ marks) bytes h =
    let kept = take (kept_count mark) bytes in
    let first = bytes_counted mark kept (length-take-le (kept_count mark) bytes (kept_within mark marks bytes h)) in
    let later = all_counted marks (drop (kept_count mark) bytes) (later_kept mark marks bytes h) in
    omega (arith, first, later, sum_by-cons step_bytes (step_by mark kept) (unpacked marks (drop (kept_count mark) bytes)), sum_by-cons mark_bytes mark marks)

pub filled_some : (steps : List Step) → is_filled steps ≡ true → 0 < length steps
filled_some [] h = cc
filled_some (x ∷ xs) h = omega arith

-- where as many steps were unpacked as there are none is left
pub all_of : {F : Type 0} (count : ℕ) (old new : List Step) (r : Result (Vec Step Global) F) → count ≡ length old → IfOk r (λ steps. old ≡ steps.items ++ new)
    → IfOk r (λ steps. length steps.items ≡ min count (length old)) → IfOk r (λ steps. steps.items ≡ old)
all_of count old new (Ok steps) all next long =
    let both = ap length next ∙ length-append steps.items new in
    let none : new ≡ [] = nil_from_length new (omega (arith, all, long, both)) in
    sym (next ∙ ap (λ (l : List Step). steps.items ++ l) none ∙ append-nil steps.items)
all_of count old new (Err why) all next long = tt
