-- A run of planned work erases each needed address once.
use Rattle.std.proofs.Common.{◌≡◌, ℕ, ◌+◌, ◌<◌, ◌≤◌, nat_le, nat_lt, Bool, true, false, ◌&&◌, if◌then◌else◌, cond, List, [], ◌∷◌, ◌++◌, map, Option, Some, None, refl, sym, ◌∙◌, ap, subst, arith, inl, inr, leb-true, ltb-true}
use Rattle.std.specs.List.{list_any, count_by, sum_by}
use Rattle.std.proofs.Math.Nat.{add-zero}
use Rattle.std.proofs.lemmas.Bool.{and_parts, both_ways, cases_lt}
use Rattle.std.proofs.lemmas.List.Sums.{sum_by-cons}
use Rattle.nor_base.specs.declared.meaning.Start.{Start}
use Rattle.nor_base.specs.declared.meaning.Strategy.{Strategy}
use Rattle.nor_base.specs.declared.step.Step.{Step}
use Rattle.nor_base.specs.Parameters.{Parameters, block_size}
use Rattle.nor_base.specs.Blocks.{Block}
use Rattle.nor_base.specs.Chip.{Setting, IsChipOf, ready}
use Rattle.nor_base.specs.Strategies.{strategy}
use Rattle.nor_base.specs.Need.{is_due, is_needed, levelled}
use Rattle.nor_base.specs.Units.{WorkUnit}
use Rattle.nor_base.specs.Spelling.{seen}
use Rattle.nor_base.specs.Operations.{Op, erases, writes, reads, programming, reading, unit_reads, unit_erases, unit_ops}
use Rattle.nor_base.specs.Planned.{planned_units, ArePlanned, IsWorkable}
use Rattle.nor_base.specs.Events.{events}
use Rattle.nor_plan_laws.specs.Runs.{ErasesOnce}
use Rattle.nor_plan_laws.proofs.Task.Made.{IsSoundBy, AreSoundUnits}
use Rattle.nor_plan_laws.proofs.Task.Whole.{units_sound}
use Rattle.nor_plan_laws.proofs.Spelling.Sent.{own_page}
use Rattle.nor_plan_laws.proofs.Runs.Lists.{all_of, all_each, any_none, sum_flat, sum_same}
use Rattle.nor_plan_laws.proofs.Runs.Shown.{passes, count_none}
use Rattle.nor_plan_laws.proofs.Runs.Chosen.{programming_programs, reading_reads}
use Rattle.nor_plan_laws.proofs.Runs.Counted.{doing, count_then, planned_count}
use Rattle.nor_plan_laws.proofs.Runs.Exact.{IsReadOp, reads_only, erases_at, erase_addressed, program_erases_none, read_erases_none, none_counted, planned_erases_needed}

-- whether a unit's block holds an address
abbrev pub block_holds_it : Parameters → ℕ → Option Block → Bool
block_holds_it m a None = false
block_holds_it m a (Some b) = nat_le b.start a && nat_lt a (b.start + block_size m b.kind)

abbrev erases_it : Parameters → Start → Strategy → ℕ → Op → Bool
erases_it m start by a op = erases_at m a (seen (doing m start by op))

-- of a unit's operations its erase alone erases
none_of : (m : Parameters) (start : Start) (by : Strategy) (a : ℕ) (op : Op) → IsReadOp op → erases_it m start by a op ≡ false
none_of m start by a (erases b) is = absurd is
none_of m start by a (writes p) is = absurd is
none_of m start by a (reads p) is = read_erases_none m a (seen (reading m start by p)) (reading m start by p).what (reading_reads m start by p).read

erase_once : (m : Parameters) (start : Start) (by : Strategy) (a : ℕ) (e : Option Block) → count_by (erases_it m start by a) (unit_erases e) ≡ cond (block_holds_it m a e) 1 0
erase_once m start by a None = refl
erase_once m start by a (Some b) =
    sum_by-cons (λ op. cond (erases_it m start by a op) 1 0) (erases b) [] ∙ add-zero (cond (nat_le b.start a && nat_lt a (b.start + block_size m b.kind)) 1 0)

unit_once : (m : Parameters) (start : Start) (by : Strategy) (verify : Bool) (want : List ℕ) (a : ℕ) (u : WorkUnit)
    → count_by (erases_it m start by a) (unit_ops m verify want u) ≡ cond (block_holds_it m a u.erase) 1 0
unit_once m start by verify want a u =
    let T = erases_it m start by a in
    let last = if verify then unit_reads m want u u.erase else [] in
    let no_write : count_by T (map writes u.programs) ≡ 0 =
    count_none T (map writes u.programs) (all_of (λ op. T op ≡ false) writes
    (λ p. program_erases_none m a (seen (programming m start by p)) (programming m start by p).what (programming_programs m start by p).program) u.programs) in
    let no_read : count_by T last ≡ 0 = count_none T last (all_each IsReadOp (λ op. T op ≡ false) (none_of m start by a) last (reads_only m want u verify)) in
    let first = erase_once m start by a u.erase in
    let parts = count_then T (unit_erases u.erase) (map writes u.programs ++ last) in
    let others = count_then T (map writes u.programs) last in
    omega (arith, no_write, no_read, first, parts, others)

-- at most one unit holds an address: they rise
held_within : (m : Parameters) (page : ℕ) (level have want : List ℕ) (u : WorkUnit) (e : Option Block) (a : ℕ) → IsSoundBy m page level have want u e
    → block_holds_it m a e ≡ true → (u.start ≤ a) × (a < u.start + u.size)
held_within m page level have want u None a sound h = cc
held_within m page level have want u (Some b) a sound h =
    let parts = and_parts (nat_le b.start a) (nat_lt a (b.start + block_size m b.kind)) h in
    let from = leb-true b.start a parts.0 in
    let upto = ltb-true a (b.start + block_size m b.kind) parts.1 in
    (omega (arith, from, sound.start_is), omega (arith, upto, sound.start_is, sound.size_is, sound.can.size))

abbrev pub holding : Parameters → ℕ → List WorkUnit → ℕ
holding m a us = sum_by (λ (u : WorkUnit). cond (block_holds_it m a u.erase) 1 0) us

pub record AtMostOne (m : Parameters) (a low : ℕ) (us : List WorkUnit) : Type 0 where
  pub before : a < low → holding m a us ≡ 0
  pub most : holding m a us ≤ 1

one_more : (m : Parameters) (page : ℕ) (level have want : List ℕ) (a low : ℕ) (u : WorkUnit) (us : List WorkUnit) (b : Bool) → low ≤ u.start
    → IsSoundBy m page level have want u u.erase → block_holds_it m a u.erase ≡ b → AtMostOne m a (u.start + u.size) us → AtMostOne m a low (u ∷ us)
one_more m page level have want a low u us true rises sound is rest =
    let within = held_within m page level have want u u.erase a sound is in
    let sum : holding m a (u ∷ us) ≡ 1 + holding m a us = sum_by-cons (λ (v : WorkUnit). cond (block_holds_it m a v.erase) 1 0) u us ∙ ap (λ b. cond b 1 0 + holding m a us) is in
    let none = rest.before within.1 in
    record { before = λ first. absurd (omega (arith, first, rises, within.0)); most = omega (arith, sum, none) }
one_more m page level have want a low u us false rises sound is rest =
    let sum : holding m a (u ∷ us) ≡ 0 + holding m a us = sum_by-cons (λ (v : WorkUnit). cond (block_holds_it m a v.erase) 1 0) u us ∙ ap (λ b. cond b 1 0 + holding m a us) is in
    let most = rest.most in
    record { before = λ first. (let none = rest.before (omega (arith, first, rises)) in omega (arith, sum, none)); most = omega (arith, sum, most) }

pub at_most_one : (m : Parameters) (page : ℕ) (level have want : List ℕ) (a : ℕ) (us : List WorkUnit) (low : ℕ) → AreSoundUnits m page level have want low us
    → AtMostOne m a low us
at_most_one m page level have want a [] low sound = record { before = λ first. refl; most = omega arith }
at_most_one m page level have want a (u ∷ us) low sound =
    one_more m page level have want a low u us (block_holds_it m a u.erase) sound.0 sound.2.kind refl (at_most_one m page level have want a us (u.start + u.size) sound.3)

-- so a run of planned work
units_hold : (m : Parameters) (start : Start) (verify : Bool) (have want : List ℕ) (steps : List Step) → IsWorkable m start have want
    → ArePlanned m start verify have want steps → (s : Setting) → IsChipOf m start s → (a : ℕ)
    → count_by (passes (erases_at m a)) (events s (ready s have) steps) ≡ holding m a (planned_units m start have want)
units_hold m start verify have want steps w are s is a =
    let by = strategy m start in
    planned_count (erases_at m a) m start verify have want steps (erase_addressed m a) w are s is
    ∙ sum_flat (λ op. cond (erases_it m start by a op) 1 0) (unit_ops m verify want) (planned_units m start have want)
    ∙ sum_same (λ u. count_by (erases_it m start by a) (unit_ops m verify want u)) (λ (u : WorkUnit). cond (block_holds_it m a u.erase) 1 0)
    (unit_once m start by verify want a) (planned_units m start have want)

-- what is there, and at most once, is there once
one_of : {A : Type 0} (test : A → Bool) (xs : List A) → list_any test xs ≡ true → count_by test xs ≤ 1 → count_by test xs ≡ 1
one_of test xs is most = elim (cases_lt 0 (count_by test xs)) [
  | inl some ↦ omega (arith, some, most)
  | inr none ↦ absurd (both_ways (list_any test xs) (any_none test xs (omega (arith, none))) is)
]

once_in : (m : Parameters) (start : Start) (verify : Bool) (have want : List ℕ) (steps : List Step) → IsWorkable m start have want
    → ArePlanned m start verify have want steps → (s : Setting) → IsChipOf m start s → (a : ℕ) (b : Bool) → is_needed m (is_due m have want) a ≡ b
    → count_by (passes (erases_at m a)) (events s (ready s have) steps) ≡ cond b 1 0
once_in m start verify have want steps w are s is a true needed =
    let by = strategy m start in
    let es = events s (ready s have) steps in
    let erased : list_any (passes (erases_at m a)) es ≡ true =
    subst (λ (n : Parameters). list_any (passes (erases_at n a)) es ≡ true) is.its_meaning (planned_erases_needed m start verify have want steps w are s is a ∙ needed) in
    let most = (at_most_one m m.page (levelled m by (is_due m have want) have) have want a (planned_units m start have want) 0
    (units_sound m start m.page have want w (own_page m))).most in
    let held = units_hold m start verify have want steps w are s is a in
    one_of (passes (erases_at m a)) es erased (omega (arith, held, most))
once_in m start verify have want steps w are s is a false none = none_counted m start verify have want steps w are s is a none

pub units_hold_needed : (m : Parameters) (start : Start) (verify : Bool) (have want : List ℕ) (steps : List Step) → IsWorkable m start have want
    → ArePlanned m start verify have want steps → (s : Setting) → IsChipOf m start s → (a : ℕ)
    → holding m a (planned_units m start have want) ≡ cond (is_needed m (is_due m have want) a) 1 0
units_hold_needed m start verify have want steps w are s is a =
    sym (units_hold m start verify have want steps w are s is a) ∙ once_in m start verify have want steps w are s is a (is_needed m (is_due m have want) a) refl

pub erases_once : ErasesOnce
erases_once m start verify have want steps w are s is a =
    subst (λ (n : Parameters). count_by (passes (erases_at n a)) (events s (ready s have) steps) ≡ cond (is_needed m (is_due m have want) a) 1 0) (sym is.its_meaning)
    (once_in m start verify have want steps w are s is a (is_needed m (is_due m have want) a) refl)
