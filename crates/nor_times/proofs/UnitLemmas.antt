-- The clocks of units, and of the units of a stretch of pages.
use Rattle.std.proofs.Common.{◌≡◌, ℕ, zero, suc, ◌+◌, ◌*◌, ◌/◌, ◌^◌, ◌<◌, ◌≤◌, ◌==◌, Bool, true, false, not, ◌&&◌, if◌then◌else◌, List, [], ◌∷◌, ◌++◌, length, map, Option, Some, None, refl, sym, ◌∙◌, ap, subst, arith, inl, inr, append_assoc, append-nil, eqb-true}
use Rattle.std.specs.Prelude.{flat_map, sum_by, is_some, slice_range}
use Rattle.std.specs.List.{AllByRecursion}
use Rattle.std.proofs.Math.Nat.{div-mul-le_self}
use Rattle.std.proofs.lemmas.Bool.{cases_lt, lt-leb, le-leb}
use Rattle.std.proofs.lemmas.Grind.{flat_map-append}
use Rattle.std.proofs.lemmas.List.Sums.{sum_by-cons, sum_by-append}
use Rattle.nor_base.specs.declared.meaning.Strategy.{Strategy}
use Rattle.nor_base.specs.declared.meaning.Strategy.TheVariants.{S1, S2, S3, S4, S5}
use Rattle.nor_base.specs.Accepted.{IsAccepted}
use Rattle.nor_base.specs.Parameters.{Parameters}
use Rattle.nor_base.specs.Blocks.{Block, IsLegalBlock}
use Rattle.nor_base.specs.Instructions.{quad_read_dummies}
use Rattle.nor_base.specs.Need.{erased_at}
use Rattle.nor_base.specs.Programs.{Program, target_bytes, page_programs}
use Rattle.nor_base.specs.Strategies.{is_far}
use Rattle.nor_base.specs.Units.{WorkUnit, pages, page_unit, block_unit, unit_by}
use Rattle.nor_base.specs.Operations.{Op, erases, writes, reads, takes_dedicated, legacy_width, unit_ops}
use Rattle.nor_plan_laws.specs.Able.{BlocksStay}
use Rattle.nor_plan_laws.specs.Least.{ErasesBlocks}
use Rattle.nor_plan_laws.proofs.Erased.Erasing.{erased_for}
use Rattle.nor_plan_laws.proofs.Units.Ranges.{length-range}
use Rattle.nor_outline.specs.declared.line.PlanLine.{PlanLine}
use Rattle.nor_times.specs.Bus.{Doing, head4_clocks, read_clocks, lines_clocks}
use Rattle.nor_outline.specs.Outline.{reasons, program_line, unit_plan}
use Rattle.nor_times.proofs.ClockLemmas.{op_clocks, erases_clocks, writes_clocks, reads_clocks}
use Rattle.nor_base.proofs.ListLaws.{all_append}
use Rattle.nor_times.proofs.LineLemmas.{reasons_quiet, quiet_clocks, written, reread, below_end, past_end, BeginsIn, programs_in}

abbrev pub ops_clocks : Doing → List Op → ℕ
ops_clocks d ops = sum_by (op_clocks d.meaning d.start d.by) ops

one_more : (d : Doing) (op : Op) (ops : List Op) (n k : ℕ) → op_clocks d.meaning d.start d.by op ≡ n → ops_clocks d ops ≡ k → ops_clocks d (op ∷ ops) ≡ n + k
one_more d op ops n k first rest = sum_by-cons (op_clocks d.meaning d.start d.by) op ops ∙ ap (λ x. x + ops_clocks d ops) first ∙ ap (λ x. n + x) rest

-- programs and their reads
writes_sum : (d : Doing) (ps : List Program) → ops_clocks d (map writes ps) ≡ sum_by (written d) ps
writes_sum d [] = refl
writes_sum d (p ∷ ps) =
    one_more d (writes p) (map writes ps) _ _ (writes_clocks d.meaning d.start d.by p) (writes_sum d ps) ∙ sym (sum_by-cons (written d) p ps)

reads_sum : (d : Doing) (ps : List Program) (t : Bool) → d.verify ≡ t → ops_clocks d (if t then map reads ps else []) ≡ sum_by (reread d) ps
reads_sum d [] true is = refl
reads_sum d [] false is = refl
reads_sum d (p ∷ ps) true is =
    one_more d (reads p) (map reads ps) _ _
    (reads_clocks d.meaning d.start d.by p ∙ sym (ap (λ v. if v then read_clocks d.meaning d.start d.by p.at (length p.bytes) else 0) is))
    (reads_sum d ps true is) ∙ sym (sum_by-cons (reread d) p ps)
reads_sum d (p ∷ ps) false is =
    let rest = reads_sum d ps false is in
    let none : reread d p ≡ 0 = ap (λ v. if v then read_clocks d.meaning d.start d.by p.at (length p.bytes) else 0) is in
    let sum = sum_by-cons (reread d) p ps in
    rest ∙ omega (arith, none, sum)

-- which opcodes an address takes goes by whether it is far
dedicated_by : (by : Strategy) (a b : ℕ) → is_far a ≡ is_far b → takes_dedicated by a ≡ takes_dedicated by b
dedicated_by S1 a b same = refl
dedicated_by S2 a b same = refl
dedicated_by S3 a b same = same
dedicated_by S4 a b same = refl
dedicated_by S5 a b same = refl

read_at : (d : Doing) (a b count : ℕ) → is_far a ≡ is_far b → read_clocks d.meaning d.start d.by a count ≡ read_clocks d.meaning d.start d.by b count
read_at d a b count same =
    let m = d.meaning in
    let s = d.start in
    ap (λ t. if s.quad && m.quad_read4 then head4_clocks + (quad_read_dummies m + 2 * count)
    else if s.quad && (is_some m.quad_read && not t) then (if t then head4_clocks else 8 + 8 * legacy_width d.by) + (quad_read_dummies m + 2 * count)
    else (if t then head4_clocks else 8 + 8 * legacy_width d.by) + 8 * count) (dedicated_by d.by a b same)

-- the reads of a block's pages
page_reads : (d : Doing) (want : List ℕ) (first high : ℕ) → high ≤ length want → ((x : ℕ) → first ≤ x → x < high → is_far x ≡ is_far first)
    → 0 < d.meaning.page → (n a : ℕ) → first ≤ a → a + n * d.meaning.page ≤ high
    → ops_clocks d (map (λ start. reads (target_bytes want start (start + d.meaning.page))) (pages d.meaning.page a n))
    ≡ n * read_clocks d.meaning d.start d.by first d.meaning.page
page_reads d want first high inside same some zero a from upto = omega arith
page_reads d want first high inside same some (suc n) a from upto =
    let page = d.meaning.page in
    let more : suc n * page ≡ page + n * page = omega arith in
    let count : length (slice_range want a (a + page)) ≡ page =
    length-range want a (a + page) (omega arith) (omega (arith, upto, more, inside)) ∙ omega arith in
    let one : op_clocks d.meaning d.start d.by (reads (target_bytes want a (a + page))) ≡ read_clocks d.meaning d.start d.by first page =
    reads_clocks d.meaning d.start d.by (target_bytes want a (a + page)) ∙ ap (read_clocks d.meaning d.start d.by a) count
    ∙ read_at d a first page (same a from (omega (arith, upto, more, some))) in
    let rest = page_reads d want first high inside same some n (a + page) (omega (arith, from)) (omega (arith, upto, more)) in
    one_more d (reads (target_bytes want a (a + page))) (map (λ start. reads (target_bytes want start (start + page))) (pages page (a + page) n)) _ _ one rest ∙ sum_of n (read_clocks d.meaning d.start d.by first page)
  where
    sum_of : (k r : ℕ) → r + k * r ≡ suc k * r
    sum_of k r = omega arith

-- a unit's operations and its lines
page_clocks : (d : Doing) (due : ℕ → Bool) (want : List ℕ) (start end : ℕ) (ps : List Program) (rest : List PlanLine) (u : WorkUnit)
    → u ≡ record { erase = None; start = start; size = d.meaning.page; programs = ps } → AllByRecursion (λ p. end ≤ p.at) ps
    → lines_clocks d end (unit_plan d.meaning d.by due u ++ rest) ≡ ops_clocks d (unit_ops d.meaning d.verify want u) + lines_clocks d end rest
page_clocks d due want start end ps rest u is past =
    let it : WorkUnit = record { erase = None; start = start; size = d.meaning.page; programs = ps } in
    let sum = sum_by-append (op_clocks d.meaning d.start d.by) (map writes ps) (if d.verify then map reads ps else []) in
    let put = writes_sum d ps in
    let read = reads_sum d ps d.verify refl in
    let lines = past_end d end ps rest past in
    let of_it : lines_clocks d end (map program_line ps ++ rest) ≡ ops_clocks d (map writes ps ++ (if d.verify then map reads ps else [])) + lines_clocks d end rest =
    omega (arith, sum, put, read, lines) in
    subst (λ v. lines_clocks d end (unit_plan d.meaning d.by due v ++ rest) ≡ ops_clocks d (unit_ops d.meaning d.verify want v) + lines_clocks d end rest) (sym is) of_it

if_none : (d : Doing) (t : Bool) (ops : List Op) (n : ℕ) → ops_clocks d ops ≡ n → ops_clocks d (if t then ops else []) ≡ (if t then n else 0)
if_none d true ops n is = is
if_none d false ops n is = refl

block_lines : (d : Doing) (due : ℕ → Bool) (level want : List ℕ) (b : Block) (end : ℕ) (rest : List PlanLine) → b.start + b.size ≤ length want
    → ((x : ℕ) → b.start ≤ x → x < b.start + b.size → is_far x ≡ is_far b.start) → 0 < d.meaning.page
    → AllByRecursion (λ p. p.at < b.start + b.size) (flat_map (page_programs d.meaning level want) (pages d.meaning.page b.start (b.size / d.meaning.page)))
    → lines_clocks d end (unit_plan d.meaning d.by due (block_unit d.meaning level want b) ++ rest)
    ≡ ops_clocks d (unit_ops d.meaning d.verify want (block_unit d.meaning level want b)) + lines_clocks d (b.start + b.size) rest
block_lines d due level want b end rest inside same some below =
    let page = d.meaning.page in
    let ps = flat_map (page_programs d.meaning level want) (pages page b.start (b.size / page)) in
    let all_reads = map (λ start. reads (target_bytes want start (start + page))) (pages page b.start (b.size / page)) in
    let assoc = ap (lines_clocks d (b.start + b.size)) (append_assoc (reasons d.meaning due b.start b.size) (map program_line ps) rest) in
    let quiet = quiet_clocks d (b.start + b.size) (reasons d.meaning due b.start b.size) (map program_line ps ++ rest) (reasons_quiet d.meaning due b.start b.size) in
    let lines = below_end d (b.start + b.size) ps rest below in
    let fits = div-mul-le_self b.size page in
    let read = if_none d d.verify all_reads _
    (page_reads d want b.start (b.start + b.size) inside same some (b.size / page) b.start (omega arith) (omega (arith, fits))) in
    let put = writes_sum d ps in
    let both = sum_by-append (op_clocks d.meaning d.start d.by) (map writes ps) (if d.verify then all_reads else []) in
    let first = one_more d (erases b) (map writes ps ++ (if d.verify then all_reads else [])) _ _ (erases_clocks d.meaning d.start d.by b) both in
    omega (arith, assoc, quiet, lines, read, put, first)

-- the programs of a block's pages
pages_in : (m : Parameters) (level want : List ℕ) (low high : ℕ) (n a : ℕ) → low ≤ a → a + n * m.page ≤ high
    → AllByRecursion (BeginsIn low high) (flat_map (page_programs m level want) (pages m.page a n))
pages_in m level want low high zero a from upto = tt
pages_in m level want low high (suc n) a from upto =
    let more : suc n * m.page ≡ m.page + n * m.page = omega arith in
    all_append (BeginsIn low high) (page_programs m level want a) _ (programs_in m level want low high a from (omega (arith, upto, more)))
    (pages_in m level want low high n (a + m.page) (omega (arith, from)) (omega (arith, upto, more)))

all_below : (low high : ℕ) (ps : List Program) → AllByRecursion (BeginsIn low high) ps → AllByRecursion (λ p. p.at < high) ps
all_below low high [] all = tt
all_below low high (p ∷ ps) all = (all.0.1, all_below low high ps all.1)

all_past : (low high end : ℕ) (ps : List Program) → end ≤ low → AllByRecursion (BeginsIn low high) ps → AllByRecursion (λ p. end ≤ p.at) ps
all_past low high end [] past all = tt
all_past low high end (p ∷ ps) past all = (omega (arith, past, all.0.0), all_past low high end ps past all.1)

-- no block lies across 2^24
far_same : (m : Parameters) (b : Block) (x : ℕ) → BlocksStay → IsAccepted m → IsLegalBlock m b → b.start ≤ x → x < b.start + b.size → is_far x ≡ is_far b.start
far_same m b x stay accepted legal from upto = elim (cases_lt b.start (2 ^ 24)) [
  | inl near ↦
      let ends = stay m b accepted legal near in
      lt-leb 0x1000000 x (omega (arith, ends, upto)) ∙ sym (lt-leb 0x1000000 b.start near)
  | inr far ↦ le-leb 0x1000000 x (omega (arith, far, from)) ∙ sym (le-leb 0x1000000 b.start far)
]

-- each address from a page's start on and below an end lies in a block that is erased, and begins before
abbrev pub GoesOn : (ℕ → Option Block) → ℕ → ℕ → Type 0
GoesOn erased end start = (x : ℕ) → start ≤ x → x < end → (b : Block) × (erased x ≡ Some b) × (b.start < start)

-- the units that start with a page, and where the block that was erased last ends then
record IsStep (d : Doing) (due : ℕ → Bool) (want : List ℕ) (end next : ℕ) (us : List WorkUnit) (rest : List PlanLine) : Type 0 where
  pub past : ℕ
  pub goes : GoesOn (erased_at d.meaning d.by due) past next
  pub clocks : lines_clocks d end (flat_map (unit_plan d.meaning d.by due) us ++ rest)
      ≡ ops_clocks d (flat_map (unit_ops d.meaning d.verify want) us) + lines_clocks d past rest

goes_later : (erased : ℕ → Option Block) (end start page : ℕ) → GoesOn erased end start → GoesOn erased end (start + page)
goes_later erased end start page goes x from upto =
    let found = goes x (omega (arith, from)) upto in
    (found.0, found.1, omega (arith, found.2))

no_unit : (d : Doing) (due : ℕ → Bool) (want : List ℕ) (end start : ℕ) (rest : List PlanLine) → GoesOn (erased_at d.meaning d.by due) end start
    → IsStep d due want end (start + d.meaning.page) [] rest
no_unit d due want end start rest goes = record {
  past = end;
  goes = goes_later (erased_at d.meaning d.by due) end start d.meaning.page goes;
  clocks = none (lines_clocks d end rest);
}
  where
    none : (n : ℕ) → n ≡ 0 + n
    none n = omega arith

one_unit : (d : Doing) (due : ℕ → Bool) (want : List ℕ) (end past : ℕ) (u : WorkUnit) (rest : List PlanLine)
    → lines_clocks d end (unit_plan d.meaning d.by due u ++ rest) ≡ ops_clocks d (unit_ops d.meaning d.verify want u) + lines_clocks d past rest
    → lines_clocks d end (flat_map (unit_plan d.meaning d.by due) (u ∷ []) ++ rest)
    ≡ ops_clocks d (flat_map (unit_ops d.meaning d.verify want) (u ∷ [])) + lines_clocks d past rest
one_unit d due want end past u rest is =
    ap (λ ls. lines_clocks d end (ls ++ rest)) (append-nil (unit_plan d.meaning d.by due u)) ∙ is
    ∙ ap (λ ops. ops_clocks d ops + lines_clocks d past rest) (sym (append-nil (unit_ops d.meaning d.verify want u)))

-- what is known of a plan
pub record IsPlan (d : Doing) (want : List ℕ) : Type 0 where
  pub accepted : IsAccepted d.meaning
  pub some_page : 0 < d.meaning.page
  pub size : length want ≡ d.meaning.size
  pub stay : BlocksStay
  pub law : ErasesBlocks

block_step : (d : Doing) (due : ℕ → Bool) (level want : List ℕ) (end start : ℕ) (b : Block) (rest : List PlanLine) (t : Bool) → IsPlan d want
    → erased_at d.meaning d.by due start ≡ Some b → (b.start == start) ≡ t → GoesOn (erased_at d.meaning d.by due) end start
    → IsStep d due want end (start + d.meaning.page) (if t then block_unit d.meaning level want b ∷ [] else []) rest
block_step d due level want end start b rest false p is same goes = no_unit d due want end start rest goes
block_step d due level want end start b rest true p is same goes =
    let m = d.meaning in
    let e = erased_for m d.by due start b p.accepted is in
    let legal = (p.law m d.by due start b p.accepted is).legal in
    let here : b.start ≡ start = eqb-true b.start start same in
    let fits = div-mul-le_self b.size m.page in
    let below = all_below b.start (b.start + b.size) _ (pages_in m level want b.start (b.start + b.size) (b.size / m.page) b.start (omega arith) (omega (arith, fits))) in
    record {
      past = b.start + b.size;
      goes = λ x from upto. (b, e.all x (omega (arith, here, from)) upto, omega (arith, here, p.some_page));
      clocks = one_unit d due want end (b.start + b.size) (block_unit m level want b) rest
          (block_lines d due level want b end rest (omega (arith, p.size, e.inside)) (λ x from upto. far_same m b x p.stay p.accepted legal from upto) p.some_page below);
    }

-- no block goes on at a page that isn't erased
ended : (erased : ℕ → Option Block) (end start : ℕ) → erased start ≡ None → GoesOn erased end start → end ≤ start
ended erased end start none goes = elim (cases_lt start end) [
  | inl before ↦
      let found = goes start (omega arith) before in
      let both : Some found.0 ≡ None = sym found.1 ∙ none in
      cc
  | inr past ↦ past
]

page_step : (d : Doing) (due : ℕ → Bool) (want : List ℕ) (end start : ℕ) (ps : List Program) (rest : List PlanLine)
    → erased_at d.meaning d.by due start ≡ None → AllByRecursion (BeginsIn start (start + d.meaning.page)) ps → GoesOn (erased_at d.meaning d.by due) end start
    → IsStep d due want end (start + d.meaning.page) (page_unit d.meaning start ps) rest
page_step d due want end start [] rest none all goes = no_unit d due want end start rest goes
page_step d due want end start (p ∷ ps) rest none all goes =
    let past = ended (erased_at d.meaning d.by due) end start none goes in
    let u : WorkUnit = record { erase = None; start = start; size = d.meaning.page; programs = p ∷ ps } in
    record {
      past = end;
      goes = goes_later (erased_at d.meaning d.by due) end start d.meaning.page goes;
      clocks = one_unit d due want end end u rest
          (page_clocks d due want start end (p ∷ ps) rest u refl (all_past start (start + d.meaning.page) end (p ∷ ps) past all));
    }

step_at : (d : Doing) (due : ℕ → Bool) (level want : List ℕ) (end start : ℕ) (o : Option Block) (rest : List PlanLine) → IsPlan d want
    → erased_at d.meaning d.by due start ≡ o → GoesOn (erased_at d.meaning d.by due) end start
    → IsStep d due want end (start + d.meaning.page) (unit_by d.meaning level want start o) rest
step_at d due level want end start (Some b) rest p is goes = block_step d due level want end start b rest (b.start == start) p is refl goes
step_at d due level want end start None rest p is goes =
    page_step d due want end start (page_programs d.meaning level want start) rest is
    (programs_in d.meaning level want start (start + d.meaning.page) start (omega arith) (omega arith)) goes

-- the units that start with one of some pages
abbrev pub units_from : Doing → (ℕ → Bool) → List ℕ → List ℕ → ℕ → ℕ → List WorkUnit
units_from d due level want start n =
    flat_map (λ first. unit_by d.meaning level want first (erased_at d.meaning d.by due first)) (pages d.meaning.page start n)

pub stretch_clocks : (d : Doing) (due : ℕ → Bool) (level want : List ℕ) → IsPlan d want → (n start end : ℕ) → GoesOn (erased_at d.meaning d.by due) end start
    → lines_clocks d end (flat_map (unit_plan d.meaning d.by due) (units_from d due level want start n))
    ≡ ops_clocks d (flat_map (unit_ops d.meaning d.verify want) (units_from d due level want start n))
stretch_clocks d due level want p zero start end goes = refl
stretch_clocks d due level want p (suc n) start end goes =
    let us = unit_by d.meaning level want start (erased_at d.meaning d.by due start) in
    let more = units_from d due level want (start + d.meaning.page) n in
    let step = step_at d due level want end start (erased_at d.meaning d.by due start) (flat_map (unit_plan d.meaning d.by due) more) p refl goes in
    let later = stretch_clocks d due level want p n (start + d.meaning.page) step.past step.goes in
    let lines = ap (lines_clocks d end) (flat_map-append (unit_plan d.meaning d.by due) us more) in
    let ops = ap (ops_clocks d) (flat_map-append (unit_ops d.meaning d.verify want) us more) in
    let sum = sum_by-append (op_clocks d.meaning d.start d.by) (flat_map (unit_ops d.meaning d.verify want) us) (flat_map (unit_ops d.meaning d.verify want) more) in
    lines ∙ step.clocks ∙ ap (λ n. ops_clocks d (flat_map (unit_ops d.meaning d.verify want) us) + n) later ∙ sym (ops ∙ sum)
