-- The clocks of lines: reasons have none; programs below the end of a block, and past it.
use Rattle.std.proofs.Common.{◌≡◌, ℕ, zero, suc, ◌+◌, ◌<◌, ◌≤◌, ◌==◌, Bool, true, false, cond, not, ◌&&◌, nat_lt, if◌then◌else◌, List, [], ◌∷◌, ◌++◌, length, map, Option, Some, None, refl, ap, arith}
use Rattle.std.specs.Prelude.{flat_map, filter, sum_by, find}
use Rattle.std.specs.List.{AllByRecursion, range_with_len, slice_split, onto_first}
use Rattle.std.specs.Option.{option_map_or}
use Rattle.std.proofs.lemmas.Bool.{lt-ltb, le-ltb}
use Rattle.std.proofs.lemmas.List.Sums.{sum_by-cons}
use Rattle.nor_base.specs.Parameters.{Parameters}
use Rattle.nor_base.specs.Blocks.{Block, smallest}
use Rattle.nor_base.specs.Need.{differs}
use Rattle.nor_base.specs.Programs.{Program, span, is_closed, page_programs}
use Rattle.nor_outline.specs.declared.line.PlanLine.{PlanLine}
use Rattle.nor_outline.specs.declared.line.PlanLine.TheVariants as line
use Rattle.nor_times.specs.Bus.{Doing, change_clocks, program_clocks, read_clocks, lines_clocks, is_work}
use Rattle.nor_outline.specs.Outline.{because, reason_at, reasons, program_line}
use Rattle.nor_base.proofs.ListLaws.{all_append}

-- a line tells no instruction
abbrev pub IsQuiet : PlanLine → Type 0
IsQuiet l = is_work l ≡ false

because_quiet : (start : ℕ) (o : Option ℕ) → AllByRecursion IsQuiet (because start o)
because_quiet start None = tt
because_quiet start (Some cause) = (refl, tt)

if_quiet : (t : Bool) (start : ℕ) (o : Option ℕ) → AllByRecursion IsQuiet (if t then because start o else [])
if_quiet true start o = because_quiet start o
if_quiet false start o = tt

at_quiet : (due : ℕ → Bool) (a : ℕ) (o : Option Block)
    → AllByRecursion IsQuiet (option_map_or (λ b. if b.start == a then because b.start (find due (range_with_len b.start b.size)) else []) o [])
at_quiet due a None = tt
at_quiet due a (Some b) = if_quiet (b.start == a) b.start (find due (range_with_len b.start b.size))

over_quiet : (m : Parameters) (due : ℕ → Bool) (xs : List ℕ) → AllByRecursion IsQuiet (flat_map (reason_at m due) xs)
over_quiet m due [] = tt
over_quiet m due (a ∷ xs) = all_append IsQuiet (reason_at m due a) (flat_map (reason_at m due) xs) (at_quiet due a (smallest m a)) (over_quiet m due xs)

pub reasons_quiet : (m : Parameters) (due : ℕ → Bool) (start size : ℕ) → AllByRecursion IsQuiet (reasons m due start size)
reasons_quiet m due start size = over_quiet m due (range_with_len start size)

pub quiet_clocks : (d : Doing) (end : ℕ) (ls rest : List PlanLine) → AllByRecursion IsQuiet ls → lines_clocks d end (ls ++ rest) ≡ lines_clocks d end rest
quiet_clocks d end [] rest quiet = refl
quiet_clocks d end (line.Erase start size opcode ∷ ls) rest quiet = let no = quiet.0 in cc
quiet_clocks d end (line.Because start cause ∷ ls) rest quiet = quiet_clocks d end ls rest quiet.1
quiet_clocks d end (line.Program start count ∷ ls) rest quiet = let no = quiet.0 in cc

-- a program, and its read
abbrev pub written : Doing → Program → ℕ
written d p = change_clocks (program_clocks d.meaning d.start d.by p.at (length p.bytes))

abbrev pub reread : Doing → Program → ℕ
reread d p = if d.verify then read_clocks d.meaning d.start d.by p.at (length p.bytes) else 0

skipped : (verify below : Bool) (n : ℕ) → below ≡ true → (if verify && not below then n else 0) ≡ 0
skipped true below n is = ap (λ b. if not b then n else 0) is
skipped false below n is = refl

taken : (verify below : Bool) (n : ℕ) → below ≡ false → (if verify && not below then n else 0) ≡ (if verify then n else 0)
taken true below n is = ap (λ b. if not b then n else 0) is
taken false below n is = refl

pub below_end : (d : Doing) (end : ℕ) (ps : List Program) (rest : List PlanLine) → AllByRecursion (λ p. p.at < end) ps
    → lines_clocks d end (map program_line ps ++ rest) ≡ sum_by (written d) ps + lines_clocks d end rest
below_end d end [] rest below = omega arith
below_end d end (p ∷ ps) rest below =
    let none = skipped d.verify (nat_lt p.at end) (read_clocks d.meaning d.start d.by p.at (length p.bytes)) (lt-ltb p.at end below.0) in
    let more = below_end d end ps rest below.1 in
    let sum = sum_by-cons (written d) p ps in
    omega (arith, none, more, sum)

pub past_end : (d : Doing) (end : ℕ) (ps : List Program) (rest : List PlanLine) → AllByRecursion (λ p. end ≤ p.at) ps
    → lines_clocks d end (map program_line ps ++ rest) ≡ sum_by (written d) ps + (sum_by (reread d) ps + lines_clocks d end rest)
past_end d end [] rest past = omega arith
past_end d end (p ∷ ps) rest past =
    let one = taken d.verify (nat_lt p.at end) (read_clocks d.meaning d.start d.by p.at (length p.bytes)) (le-ltb p.at end past.0) in
    let more = past_end d end ps rest past.1 in
    let sum = sum_by-cons (written d) p ps in
    let sum' = sum_by-cons (reread d) p ps in
    omega (arith, one, more, sum, sum')

-- a program begins between two addresses
abbrev pub BeginsIn : ℕ → ℕ → Program → Type 0
BeginsIn low high p = (low ≤ p.at) × (p.at < high)

abbrev LiesIn : ℕ → ℕ → ℕ → Type 0
LiesIn low high x = (low ≤ x) × (x < high)

range_in : (low high : ℕ) (n a : ℕ) → low ≤ a → a + n ≤ high → AllByRecursion (LiesIn low high) (range_with_len a n)
range_in low high zero a from upto = tt
range_in low high (suc n) a from upto = ((from, omega (arith, upto)), range_in low high n (a + 1) (omega (arith, from)) (omega (arith, upto)))

filter_in : (P : ℕ → Type 0) (test : ℕ → Bool) (xs : List ℕ) → AllByRecursion P xs → AllByRecursion P (filter test xs)
filter_in P test [] all = tt
filter_in P test (x ∷ xs) all = by_test (test x) (filter_in P test xs all.1)
  where
    by_test : (b : Bool) → AllByRecursion P (filter test xs) → AllByRecursion P (cond b (x ∷ filter test xs) (filter test xs))
    by_test true rest = (all.0, rest)
    by_test false rest = rest

onto_in : (P : ℕ → Type 0) (x : ℕ) (parts : List (List ℕ)) → P x → AllByRecursion (AllByRecursion P) parts → AllByRecursion (AllByRecursion P) (onto_first x parts)
onto_in P x [] one all = ((one, tt), tt)
onto_in P x (part ∷ parts) one all = ((one, all.0), all.1)

split_in : (P : ℕ → Type 0) (test : ℕ → Bool) (xs : List ℕ) → AllByRecursion P xs → AllByRecursion (AllByRecursion P) (slice_split test xs)
split_in P test [] all = (tt, tt)
split_in P test (x ∷ xs) all = by_test (test x) (split_in P test xs all.1)
  where
    by_test : (b : Bool) → AllByRecursion (AllByRecursion P) (slice_split test xs)
        → AllByRecursion (AllByRecursion P) (cond b ([] ∷ slice_split test xs) (onto_first x (slice_split test xs)))
    by_test true rest = (tt, rest)
    by_test false rest = onto_in P x (slice_split test xs) all.0 rest

span_in : (low high : ℕ) (want places : List ℕ) → AllByRecursion (LiesIn low high) places → AllByRecursion (BeginsIn low high) (span want places)
span_in low high want [] all = tt
span_in low high want (a ∷ more) all = (all.0, tt)

parts_in : (low high : ℕ) (level want : List ℕ) (parts : List (List ℕ)) → AllByRecursion (AllByRecursion (LiesIn low high)) parts
    → AllByRecursion (BeginsIn low high) (flat_map (λ part. span want (filter (differs level want) part)) parts)
parts_in low high level want [] all = tt
parts_in low high level want (part ∷ parts) all =
    all_append (BeginsIn low high) (span want (filter (differs level want) part)) _
    (span_in low high want (filter (differs level want) part) (filter_in (LiesIn low high) (differs level want) part all.0))
    (parts_in low high level want parts all.1)

-- the programs of a page that lies between them
pub programs_in : (m : Parameters) (level want : List ℕ) (low high start : ℕ) → low ≤ start → start + m.page ≤ high
    → AllByRecursion (BeginsIn low high) (page_programs m level want start)
unfolding page_programs
programs_in m level want low high start from upto =
    parts_in low high level want (slice_split (is_closed m level) (range_with_len start m.page))
    (split_in (LiesIn low high) (is_closed m level) (range_with_len start m.page) (range_in low high m.page start from upto))
