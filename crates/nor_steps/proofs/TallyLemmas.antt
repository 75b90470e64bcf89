-- What a unit's operations are, by their numbers.
use Rattle.std.proofs.Common.{◌≡◌, ℕ, ◌+◌, ◌*◌, ◌/◌, ◌^◌, ◌≤◌, Bool, true, false, ◌||◌, if◌then◌else◌, List, [], ◌∷◌, ◌++◌, length, map, Option, Result, Ok, Err, refl, ◌∙◌, ap, subst, arith}
use Rattle.std.specs.Prelude.{sum_by, IsErr}
use Rattle.std.specs.Io.KnownBytes.{Appends}
use Rattle.std.proofs.lemmas.List.Sums.{sum_by-cons, sum_by-append}
use Rattle.nor_base.specs.Blocks.{Block}
use Rattle.nor_base.specs.Operations.{Op, erases}
use Rattle.nor_base.specs.Script.{step_lines}
use Rattle.nor_base.specs.Units.{pages}
use Rattle.nor_base.proofs.DeviceLaws.{Appends-none}
use Rattle.nor_pages.specs.declared.run.Run.{Run}
use Rattle.nor_select.specs.Streamed.{next}
use Rattle.nor_steps.specs.declared.tally.Tally.{Tally}
use Rattle.nor_steps.specs.declared.fault.StepsFault.{StepsFault}
use Rattle.nor_steps.specs.Tally.{erases_of, erased_of, programs_of}
use Rattle.nor_steps.specs.Units.{run_op, run_ops, page_read, page_reads, block_reads, run_reads, block_ops, page_ops, Wrote, Writes}
use Rattle.nor_steps.specs.Writing.{Writing, Begins, next_lines, written_on, output}
use Rattle.nor_steps.proofs.OpLemmas.{Done, done_one, more_lines, more_on, begun_more, more_begun}

programs_run : (start : ℕ) (want : List ℕ) (runs : List Run) → (sum_by erases_of (run_ops false start want runs) ≡ 0) × (sum_by erased_of (run_ops false start want runs) ≡ 0)
    × (sum_by programs_of (run_ops false start want runs) ≡ length runs)
programs_run start want [] = (refl, refl, refl)
programs_run start want (r ∷ runs) =
    let rest = programs_run start want runs in
    let op = run_op false start want r in
    let ops = run_ops false start want runs in
    (omega (arith, rest.0, sum_by-cons erases_of op ops), omega (arith, rest.1, sum_by-cons erased_of op ops), omega (arith, rest.2, sum_by-cons programs_of op ops))

-- reads are no erases and no programs
abbrev AreNone : List Op → Type 0
AreNone ops = (sum_by erases_of ops ≡ 0) × (sum_by erased_of ops ≡ 0) × (sum_by programs_of ops ≡ 0)

reads_run : (start : ℕ) (want : List ℕ) (runs : List Run) → AreNone (run_ops true start want runs)
reads_run start want [] = (refl, refl, refl)
reads_run start want (r ∷ runs) = let rest = reads_run start want runs in (omega (arith, rest.0), omega (arith, rest.1), omega (arith, rest.2))

reads_pages : (start page : ℕ) (want : List ℕ) (starts : List ℕ) → AreNone (map (page_read start page want) starts)
reads_pages start page want [] = (refl, refl, refl)
reads_pages start page want (a ∷ starts) = let rest = reads_pages start page want starts in (omega (arith, rest.0), omega (arith, rest.1), omega (arith, rest.2))

reads_if : (b : Bool) (ops : List Op) → AreNone ops → AreNone (if b then ops else [])
reads_if true ops are = are
reads_if false ops are = (refl, refl, refl)

abbrev pub tally : ℕ → ℕ → ℕ → ℕ → Tally
tally a b c d = record { steps = a; erases = b; erased = c; programs = d }

pub same_tally : (a b c d a' b' c' d' : ℕ) → a ≡ a' → b ≡ b' → c ≡ c' → d ≡ d'
    → tally a b c d ≡ tally a' b' c' d'
same_tally a b c d a' b' c' d' p q r s = cc

pub block_wrote : (w v u t : Writing) (x y z end : Option (List ℕ)) (b : Block) (runs : List Run) (want : List ℕ) (i j k : ℕ) → Done w v x y (erases b ∷ []) i
    → Appends y z (next_lines v (run_ops false b.start want runs)) → u ≡ written_on v (run_ops false b.start want runs) → j ≡ length (next v.streaming (run_ops false b.start want runs))
    → Appends z end (next_lines u (block_reads u b.start want)) → t ≡ written_on u (block_reads u b.start want) → k ≡ length (next u.streaming (block_reads u b.start want))
    → i ≤ 6 → j ≤ 6 * length runs → k ≤ 6 * length want → length runs ≤ 2 ^ 24 → length want ≤ 2 ^ 24 → b.size ≡ length want
    → Wrote (output w x) (output t end) 1 (block_ops w b runs want) (record { steps = i + j + k; erases = 1; erased = b.size; programs = length runs })
block_wrote w v u t x y z end b runs want i j k first put state count put' state' count' few few' few'' some some' size =
    let programs = run_ops false b.start want runs in
    let reads = block_reads w b.start want in
    let second = done_one w v u x y z (erases b ∷ []) programs (erases b ∷ programs) i j (i + j) first put state count refl refl in
    let same : block_reads u b.start want ≡ reads = ap (λ (h : Writing). block_reads h b.start want) second.state in
    let third = done_one w u t x z end (erases b ∷ programs) reads (block_ops w b runs want) (i + j) k (i + j + k) second
    (subst (λ ops. Appends z end (next_lines u ops)) same put') (state' ∙ ap (written_on u) same) (count' ∙ ap (λ ops. length (next u.streaming ops)) same) refl refl in
    let run = programs_run b.start want runs in
    let read = reads_if w.verify (page_reads b.start w.streaming.meaning.page want) (reads_pages b.start w.streaming.meaning.page want (pages w.streaming.meaning.page b.start (length want / w.streaming.meaning.page))) in
    let erased = sum_by-append erased_of programs reads in
    let erases' = sum_by-append erases_of programs reads in
    let programmed = sum_by-append programs_of programs reads in
    let more = sum_by-cons erases_of (erases b) (programs ++ reads) in
    let more' = sum_by-cons erased_of (erases b) (programs ++ reads) in
    let more'' = sum_by-cons programs_of (erases b) (programs ++ reads) in
    record {
      put = third.put;
      state = third.state;
      its_tally =
          same_tally _ _ _ _ _ _ _ _ third.count (omega (arith, more, erases', run.0, read.0)) (omega (arith, more', erased, run.1, read.1))
          (omega (arith, more'', programmed, run.2, read.2));
      few = record {
        steps = omega (arith, few, few', few'', some, some');
        erases = omega arith;
        erased = omega (arith, size, some');
        programs = omega (arith, some);
      };
    }

pub page_wrote : (w v u : Writing) (x y z : Option (List ℕ)) (start : ℕ) (runs : List Run) (want : List ℕ) (j k : ℕ) → Done w v x y (run_ops false start want runs) j
    → Appends y z (next_lines v (run_reads v start want runs)) → u ≡ written_on v (run_reads v start want runs) → k ≡ length (next v.streaming (run_reads v start want runs))
    → j ≤ 6 * length runs → k ≤ 6 * length runs → length runs ≤ 2 ^ 24
    → Wrote (output w x) (output u z) 1 (page_ops w start runs want) (record { steps = j + k; erases = 0; erased = 0; programs = length runs })
page_wrote w v u x y z start runs want j k first put state count few few' some =
    let programs = run_ops false start want runs in
    let reads = run_reads w start want runs in
    let same : run_reads v start want runs ≡ reads = ap (λ (h : Writing). run_reads h start want runs) first.state in
    let second = done_one w v u x y z programs reads (page_ops w start runs want) j k (j + k) first
    (subst (λ ops. Appends y z (next_lines v ops)) same put) (state ∙ ap (written_on v) same) (count ∙ ap (λ ops. length (next v.streaming ops)) same) refl refl in
    let run = programs_run start want runs in
    let read = reads_if w.verify (run_ops true start want runs) (reads_run start want runs) in
    let erased = sum_by-append erased_of programs reads in
    let erases' = sum_by-append erases_of programs reads in
    let programmed = sum_by-append programs_of programs reads in
    record {
      put = second.put;
      state = second.state;
      its_tally = same_tally _ _ _ _ _ _ _ _ second.count (omega (arith, erases', run.0, read.0)) (omega (arith, erased, run.1, read.1)) (omega (arith, programmed, run.2, read.2));
      few = record { steps = omega (arith, few, few', some); erases = omega arith; erased = omega arith; programs = omega (arith, some) };
    }

pub writes_err : (w v : Writing) (a b : Option (List ℕ)) (units : ℕ) (ops : List Op) (r : Result Tally StepsFault) → IsErr r → Begins a b (next_lines w ops)
    → Writes (output w a) (output v b) units ops r
writes_err w v a b units ops (Ok x) is p = cc
writes_err w v a b units ops (Err e) is p = p

-- a fault in the programs of a block, and in its reads
pub programs_cut : (w v u : Writing) (x y z : Option (List ℕ)) (b : Block) (start : ℕ) (runs : List Run) (want : List ℕ) (r : Result Tally StepsFault) → IsErr r
    → start ≡ b.start → Appends x y (next_lines w (erases b ∷ [])) → v ≡ written_on w (erases b ∷ []) → Begins y z (next_lines v (run_ops false start want runs))
    → Writes (output w x) (output u z) 1 (block_ops w b runs want) r
programs_cut w v u x y z b start runs want r is same put state cut =
    let programs = run_ops false b.start want runs in
    let cut' : Begins y z (next_lines (written_on w (erases b ∷ [])) programs) =
    subst (λ a. Begins y z (next_lines (written_on w (erases b ∷ [])) (run_ops false a want runs))) same
    (subst (λ (h : Writing). Begins y z (next_lines h (run_ops false start want runs))) state cut) in
    writes_err w u x z 1 (block_ops w b runs want) r is (begun_more x z w (erases b ∷ programs) (block_reads w b.start want) (more_begun x y z w (erases b ∷ []) programs put cut'))

pub reads_cut : (w v u t : Writing) (x y z end : Option (List ℕ)) (b : Block) (start start' : ℕ) (runs : List Run) (want : List ℕ) (r : Result Tally StepsFault) → IsErr r
    → start ≡ b.start → start' ≡ b.start → Appends x y (next_lines w (erases b ∷ [])) → v ≡ written_on w (erases b ∷ []) → Appends y z (next_lines v (run_ops false start want runs))
    → u ≡ written_on v (run_ops false start want runs) → Begins z end (next_lines u (block_reads u start' want)) → Writes (output w x) (output t end) 1 (block_ops w b runs want) r
reads_cut w v u t x y z end b start start' runs want r is same same' put state put' state' cut =
    let programs = run_ops false b.start want runs in
    let here : run_ops false start want runs ≡ programs = ap (λ a. run_ops false a want runs) same in
    let on : u ≡ written_on w (erases b ∷ programs) = state' ∙ ap (written_on v) here ∙ ap (λ (h : Writing). written_on h programs) state ∙ more_on w (erases b ∷ []) programs in
    let puts : Appends x z (next_lines w (erases b ∷ programs)) = more_lines x y z w (erases b ∷ []) programs put
    (subst (λ (h : Writing). Appends y z (next_lines h programs)) state (subst (λ ops. Appends y z (next_lines v ops)) here put')) in
    let cut' : Begins z end (next_lines (written_on w (erases b ∷ programs)) (block_reads w b.start want)) =
    subst (λ a. Begins z end (next_lines (written_on w (erases b ∷ programs)) (block_reads w a want))) same'
    (subst (λ (h : Writing). Begins z end (next_lines h (block_reads h start' want))) on cut) in
    writes_err w t x end 1 (block_ops w b runs want) r is (more_begun x z end w (erases b ∷ programs) (block_reads w b.start want) puts cut')

-- a fault in the reads of a page
pub page_cut : (w v u : Writing) (x y z : Option (List ℕ)) (start : ℕ) (runs : List Run) (want : List ℕ) (r : Result Tally StepsFault) → IsErr r
    → Appends x y (next_lines w (run_ops false start want runs)) → v ≡ written_on w (run_ops false start want runs) → Begins y z (next_lines v (run_reads v start want runs))
    → Writes (output w x) (output u z) 1 (page_ops w start runs want) r
page_cut w v u x y z start runs want r is put state cut =
    let programs = run_ops false start want runs in
    writes_err w u x z 1 (page_ops w start runs want) r is
    (more_begun x y z w programs (run_reads w start want runs) put (subst (λ (h : Writing). Begins y z (next_lines h (run_reads h start want runs))) state cut))

-- what a page is read by, where the work is verified and where it isn't
pub reads_on : (w : Writing) (start : ℕ) (want : List ℕ) (runs : List Run) → w.verify ≡ true → run_ops true start want runs ≡ run_reads w start want runs
reads_on w start want runs on = rw on refl

pub reads_off : (w : Writing) (start : ℕ) (want : List ℕ) (runs : List Run) → w.verify ≡ false → [] ≡ run_reads w start want runs
reads_off w start want runs off = rw off refl

-- no operation, no step
or_none : (b : Bool) → b ≡ (b || false)
or_none true = refl
or_none false = refl

pub stays_on : (w : Writing) → w ≡ written_on w []
stays_on w = ap (λ b. record w { streaming = record w.streaming { started = b } }) (or_none w.streaming.started)

-- where the work isn't verified nothing is written
pub nothing_read : (w : Writing) (a : Option (List ℕ)) (b : Bool) (ops : List Op) → b ≡ false → Appends a a (next_lines w (if b then ops else []))
unfolding step_lines
nothing_read w a true ops is = cc
nothing_read w a false ops is = Appends-none a
