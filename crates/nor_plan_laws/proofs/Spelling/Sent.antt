-- The operations of a workable content and target can be spelled.
use Rattle.std.proofs.Common.{◌≡◌, ℕ, zero, suc, ◌+◌, ◌-◌, ◌*◌, ◌/◌, ◌%◌, ◌<◌, ◌≤◌, ◌==◌, Bool, true, false, not, ◌&&◌, ◌||◌, if◌then◌else◌, cond, List, [], ◌∷◌, length, take, drop, map, Option, Some, None, refl, sym, ◌∙◌, ap, subst, arith, inl, inr, eq-eqb}
use Rattle.std.specs.Prelude.{nat_lt, nat_le, flat_map, filter, is_some}
use Rattle.std.specs.List.{slice_index, slice_range, slice_split, list_any, range_with_len, AllByRecursion}
use Rattle.std.proofs.Math.Nat.{mul-add-mod_self_left}
use Rattle.std.proofs.Math.Pow.{pow_mono}
use Rattle.std.proofs.lemmas.Bool.{and_parts, or_cases, lt-ltb, lt-leb, leb-false, not-true}
use Rattle.nor_base.specs.declared.meaning.Region.{Region}
use Rattle.nor_base.specs.declared.meaning.Start.{Start}
use Rattle.nor_base.specs.declared.meaning.Strategy.{Strategy}
use Rattle.nor_base.specs.declared.meaning.Strategy.TheVariants.{S1, S2, S3, S4, S5}
use Rattle.nor_base.specs.Array.{are_bytes}
use Rattle.nor_base.specs.Parameters.{Parameters, allows, is_live, block_size}
use Rattle.nor_base.specs.Accepted.{IsAccepted, IsPowerOfTwo}
use Rattle.nor_base.specs.Instructions.{dedicated}
use Rattle.nor_base.specs.Blocks.{Block, lies_in_one}
use Rattle.nor_base.specs.Strategies.{strategy, is_far, reaches}
use Rattle.nor_base.specs.Chip.{may_page}
use Rattle.nor_base.specs.Need.{differs, is_due, is_beyond, lacks_erase, erased_at, levelled}
use Rattle.nor_base.specs.Programs.{Program, program_end, target_bytes, span, is_closed, page_programs}
use Rattle.nor_base.specs.Units.{WorkUnit, pages, page_unit, block_unit, unit_by, units_over, units}
use Rattle.nor_base.specs.Operations.{writes, reads, takes_dedicated, unit_reads, unit_erases, unit_ops}
use Rattle.nor_base.specs.Planned.{planned_units, planned_ops, IsWorkable}
use Rattle.nor_plan_laws.proofs.Units.Ranges.{length-range, aligned_le}
use Rattle.nor_plan_laws.proofs.Spelling.Driven.{CanBeErased, CanBeWritten, CanBeDone, within}
use Rattle.nor_plan_laws.proofs.Task.Made.{ArePut, EndBy, IsSoundBy, IsSoundUnit, AreSoundUnits}
use Rattle.nor_geometry.proofs.KindLemmas.{legal_kind, size_of}
use Rattle.nor_geometry.proofs.WindowLemmas.{divides}
use Rattle.nor_plan_laws.proofs.Erased.Erasing.{legal_parts, erased_for}
use Rattle.nor_plan_laws.proofs.Erased.Reached.{four}
use Rattle.nor_plan_laws.proofs.Erased.Needed.{erases_blocks}
use Rattle.nor_plan_laws.proofs.Units.Wider.{some_page}
use Rattle.nor_plan_laws.proofs.Task.Whole.{level_at, units_sound}
use Rattle.nor_base.proofs.ListLaws.{all_append}

-- parts of bytes are bytes
bytes_of_each : (xs : List ℕ) → ((k : ℕ) → slice_index xs k < 256) → are_bytes xs ≡ true
bytes_of_each [] small = refl
bytes_of_each (x ∷ xs) small = rw (lt-ltb x 256 (small 0), bytes_of_each xs (λ k. small (suc k))) refl

bytes_first : (n : ℕ) (xs : List ℕ) → are_bytes xs ≡ true → are_bytes (take n xs) ≡ true
bytes_first zero xs h = refl
bytes_first (suc n) [] h = refl
bytes_first (suc n) (x ∷ xs) h = let parts = and_parts (nat_lt x 256) (are_bytes xs) h in rw (parts.0, bytes_first n xs parts.1) refl

bytes_others : (n : ℕ) (xs : List ℕ) → are_bytes xs ≡ true → are_bytes (drop n xs) ≡ true
bytes_others zero xs h = h
bytes_others (suc n) [] h = refl
bytes_others (suc n) (x ∷ xs) h = bytes_others n xs (and_parts (nat_lt x 256) (are_bytes xs) h).1

bytes_between : (xs : List ℕ) (low high : ℕ) → are_bytes xs ≡ true → are_bytes (slice_range xs low high) ≡ true
bytes_between xs low high h = bytes_first (high - low) (drop low xs) (bytes_others low xs h)

-- a program begins with a byte that differs
abbrev BeginsApart : List ℕ → List ℕ → Program → Type 0
BeginsApart level want p = differs level want p.at ≡ true

kept_first : (test : ℕ → Bool) (x : ℕ) (xs rest : List ℕ) (b : Bool) → test x ≡ b → (filter test xs ≡ rest → AllByRecursion (λ a. test a ≡ true) (take 1 rest))
    → cond b (x ∷ filter test xs) (filter test xs) ≡ rest → AllByRecursion (λ a. test a ≡ true) (take 1 rest)
kept_first test x xs rest true is later h = subst (λ r. AllByRecursion (λ a. test a ≡ true) (take 1 r)) h (is, tt)
kept_first test x xs rest false is later h = later h

first_passes : (test : ℕ → Bool) (xs rest : List ℕ) → filter test xs ≡ rest → AllByRecursion (λ a. test a ≡ true) (take 1 rest)
first_passes test [] rest h = subst (λ r. AllByRecursion (λ a. test a ≡ true) (take 1 r)) h tt
first_passes test (x ∷ xs) rest h = kept_first test x xs rest (test x) refl (first_passes test xs rest) h

span_apart : (level want addresses : List ℕ) → AllByRecursion (λ a. differs level want a ≡ true) (take 1 addresses) → AllByRecursion (BeginsApart level want) (span want addresses)
span_apart level want [] h = tt
span_apart level want (a ∷ more) h = (h.0, tt)

parts_apart : (level want : List ℕ) (parts : List (List ℕ))
    → AllByRecursion (BeginsApart level want) (flat_map (λ part. span want (filter (differs level want) part)) parts)
parts_apart level want [] = tt
parts_apart level want (part ∷ parts) =
    all_append (BeginsApart level want) (span want (filter (differs level want) part)) _
    (span_apart level want (filter (differs level want) part) (first_passes (differs level want) part (filter (differs level want) part) refl)) (parts_apart level want parts)

page_apart : (m : Parameters) (level want : List ℕ) (start : ℕ) → AllByRecursion (BeginsApart level want) (page_programs m level want start)
unfolding page_programs
page_apart m level want start = parts_apart level want (slice_split (is_closed m level) (range_with_len start m.page))

pages_apart : (m : Parameters) (level want : List ℕ) (starts : List ℕ) → AllByRecursion (BeginsApart level want) (flat_map (page_programs m level want) starts)
pages_apart m level want [] = tt
pages_apart m level want (start ∷ starts) =
    all_append (BeginsApart level want) (page_programs m level want start) _ (page_apart m level want start) (pages_apart m level want starts)

-- of a unit: its block is erased for some address, and each of its programs begins apart
pub record IsFrom (level want : List ℕ) (erased : ℕ → Option Block) (u : WorkUnit) : Type 0 where
  pub block : (b : Block) → u.erase ≡ Some b → (a : ℕ) × (erased a ≡ Some b)
  apart : AllByRecursion (BeginsApart level want) u.programs

block_from : (m : Parameters) (level want : List ℕ) (erased : ℕ → Option Block) (start : ℕ) (b : Block) (t : Bool) → erased start ≡ Some b
    → AllByRecursion (IsFrom level want erased) (if t then block_unit m level want b ∷ [] else [])
block_from m level want erased start b true is = (
  record { block = λ c same. (start, is ∙ same); apart = pages_apart m level want (pages m.page b.start (b.size / m.page)) },
  tt,
)
block_from m level want erased start b false is = tt

page_from : (m : Parameters) (level want : List ℕ) (erased : ℕ → Option Block) (start : ℕ) (ps : List Program) → AllByRecursion (BeginsApart level want) ps
    → AllByRecursion (IsFrom level want erased) (page_unit m start ps)
page_from m level want erased start [] apart = tt
page_from m level want erased start (p ∷ ps) apart = (record { block = λ c same. cc; apart = apart }, tt)

unit_from : (m : Parameters) (level want : List ℕ) (erased : ℕ → Option Block) (start : ℕ) (o : Option Block) → erased start ≡ o
    → AllByRecursion (IsFrom level want erased) (unit_by m level want start o)
unit_from m level want erased start (Some b) is = block_from m level want erased start b (b.start == start) is
unit_from m level want erased start None is = page_from m level want erased start (page_programs m level want start) (page_apart m level want start)

pub units_from : (m : Parameters) (level want : List ℕ) (erased : ℕ → Option Block) (starts : List ℕ) → AllByRecursion (IsFrom level want erased) (units_over m level want erased starts)
unfolding units_over
units_from m level want erased [] = tt
units_from m level want erased (start ∷ starts) =
    all_append (IsFrom level want erased) (unit_by m level want start (erased start)) _ (unit_from m level want erased start (erased start) refl)
    (units_from m level want erased starts)

-- what is known of the chip's addresses
record IsGiven (m : Parameters) (start : Start) (level want : List ℕ) (erased : ℕ → Option Block) : Type 0 where
  accepted : IsAccepted m
  some_page : 0 < m.page
  size : length want ≡ m.size
  bytes : are_bytes want ≡ true
  near : (x : ℕ) → x < m.size → differs level want x ≡ true → is_beyond (strategy m start) x ≡ false
  erase : (a : ℕ) (b : Block) → erased a ≡ Some b → CanBeErased m (strategy m start) b
  held : (a : ℕ) (b : Block) (x : ℕ) → erased a ≡ Some b → b.start ≤ x → x < b.start + b.size → is_beyond (strategy m start) x ≡ false

-- the programs of a stretch
programs_done : (m : Parameters) (start : Start) (level want : List ℕ) (erased : ℕ → Option Block) (low high : ℕ) → IsGiven m start level want erased → high ≤ m.size
    → (ps : List Program) → ArePut m m.page level want low high ps → AllByRecursion (BeginsApart level want) ps
    → AllByRecursion (CanBeWritten (strategy m start)) ps
programs_done m start level want erased low high g inside [] put apart = tt
programs_done m start level want erased low high g inside (p ∷ ps) put apart =
    let one = put.0 in
    let there : p.at < m.size = omega (arith, inside, one.upto, one.some) in (
      record {
        within = within m start (strategy m start) p.at refl g.accepted there (g.near p.at there apart.0);
        some = one.some;
        bytes = ap are_bytes one.puts ∙ bytes_between want p.at (program_end p) g.bytes;
      },
      programs_done m start level want erased (program_end p) high g inside ps put.1 apart.1,
    )

all_writes : (m : Parameters) (by : Strategy) (ps : List Program) → AllByRecursion (CanBeWritten by) ps → AllByRecursion (CanBeDone m by) (map writes ps)
all_writes m by [] all = tt
all_writes m by (p ∷ ps) all = (all.0, all_writes m by ps all.1)

all_reads : (m : Parameters) (by : Strategy) (ps : List Program) → AllByRecursion (CanBeWritten by) ps → AllByRecursion (CanBeDone m by) (map reads ps)
all_reads m by [] all = tt
all_reads m by (p ∷ ps) all = (all.0, all_reads m by ps all.1)

-- the pages of an erased block, read
page_reads : (m : Parameters) (start : Start) (level want : List ℕ) (erased : ℕ → Option Block) (a first high : ℕ) (b : Block) (n : ℕ) → IsGiven m start level want erased
    → erased a ≡ Some b → b.start ≤ first → high ≡ b.start + b.size → high ≤ m.size → EndBy m.page first n high
    → AllByRecursion (CanBeDone m (strategy m start)) (map (λ x. reads (target_bytes want x (x + m.page))) (pages m.page first n))
page_reads m start level want erased a first high b zero g is from ends inside by = tt
page_reads m start level want erased a first high b (suc n) g is from ends inside by =
    let some = g.some_page in
    let upto : first + m.page ≤ high = by.0 in
    let there : first < m.size = omega (arith, some, upto, inside) in
    let held = g.held a b first is from (omega (arith, some, upto, ends)) in
    let long : length (slice_range want first (first + m.page)) ≡ (first + m.page) - first = length-range want first (first + m.page) (omega arith) (omega (arith, g.size, inside, upto)) in (
      record {
        within = within m start (strategy m start) first refl g.accepted there held;
        some = omega (arith, long, some);
        bytes = bytes_between want first (first + m.page) g.bytes;
      },
      page_reads m start level want erased a (first + m.page) high b n g is (omega (arith, from)) ends inside by.1,
    )

-- a sound unit's operations
erase_done : (m : Parameters) (start : Start) (level want : List ℕ) (erased : ℕ → Option Block) (u : WorkUnit) (e : Option Block) → IsGiven m start level want erased
    → u.erase ≡ e → IsFrom level want erased u → AllByRecursion (CanBeDone m (strategy m start)) (unit_erases e)
erase_done m start level want erased u None g is from = tt
erase_done m start level want erased u (Some b) g is from = let found = from.block b is in (g.erase found.0 b found.1, tt)

reads_done : (m : Parameters) (start : Start) (level have want : List ℕ) (erased : ℕ → Option Block) (u : WorkUnit) (verify : Bool) (e : Option Block)
    → IsGiven m start level want erased → u.erase ≡ e → IsFrom level want erased u → u.start + u.size ≤ m.size → IsSoundBy m m.page level have want u e
    → AllByRecursion (CanBeWritten (strategy m start)) u.programs → AllByRecursion (CanBeDone m (strategy m start)) (if verify then unit_reads m want u e else [])
reads_done m start level have want erased u false e g is from inside sound all = tt
reads_done m start level have want erased u true None g is from inside sound all = all_reads m (strategy m start) u.programs all
reads_done m start level have want erased u true (Some b) g is from inside sound all =
    let found = from.block b is in
    page_reads m start level want erased found.0 b.start (u.start + u.size) b (b.size / m.page) g found.1 (omega arith) (omega (arith, sound.start_is, sound.size_is)) inside
    sound.ends

unit_done : (m : Parameters) (start : Start) (level have want : List ℕ) (erased : ℕ → Option Block) (u : WorkUnit) (verify : Bool) → IsGiven m start level want erased
    → IsFrom level want erased u → IsSoundUnit m m.page level have want u → AllByRecursion (CanBeDone m (strategy m start)) (unit_ops m verify want u)
unit_done m start level have want erased u verify g from sound =
    let inside : u.start + u.size ≤ m.size = omega (arith, g.size, sound.inside) in
    let programs = programs_done m start level want erased u.start (u.start + u.size) g inside u.programs sound.put from.apart in
    all_append (CanBeDone m (strategy m start)) (unit_erases u.erase) _ (erase_done m start level want erased u u.erase g refl from)
    (all_append (CanBeDone m (strategy m start)) (map writes u.programs) _ (all_writes m (strategy m start) u.programs programs)
    (reads_done m start level have want erased u verify u.erase g refl from inside sound.kind programs))

units_done : (m : Parameters) (start : Start) (level have want : List ℕ) (erased : ℕ → Option Block) (verify : Bool) (us : List WorkUnit) (low : ℕ)
    → IsGiven m start level want erased → AllByRecursion (IsFrom level want erased) us → AreSoundUnits m m.page level have want low us
    → AllByRecursion (CanBeDone m (strategy m start)) (flat_map (unit_ops m verify want) us)
units_done m start level have want erased verify [] low g from sound = tt
units_done m start level have want erased verify (u ∷ us) low g from sound =
    all_append (CanBeDone m (strategy m start)) (unit_ops m verify want u) _ (unit_done m start level have want erased u verify g from.0 sound.2)
    (units_done m start level have want erased verify us (u.start + u.size) g from.1 sound.3)

-- a kind that a region allows is live
allowed_in : (regions : List Region) (base kind start size : ℕ) → lies_in_one base regions kind start size ≡ true → list_any (λ region. allows region kind) regions ≡ true
allowed_in [] base kind start size h = cc
allowed_in (region ∷ regions) base kind start size h = elim (or_cases _ (lies_in_one (base + region.size) regions kind start size) h) [
  | inl here ↦
      let inner = and_parts (nat_le base start) (nat_le (start + size) (base + region.size) && allows region kind) here in
      let allowed = (and_parts (nat_le (start + size) (base + region.size)) (allows region kind) inner.1).1 in
      rw allowed refl
  | inr later ↦ or_later (allows region kind) _ (allowed_in regions (base + region.size) kind start size later)
]
  where
    or_later : (x y : Bool) → y ≡ true → x || y ≡ true
    or_later true y h = refl
    or_later false y h = h

-- what is reached by a dedicated opcode has one, and what a strategy doesn't reach isn't reached
far_dedicated : (m : Parameters) (by : Strategy) (kind a : ℕ) → reaches by m kind a ≡ true → takes_dedicated by a ≡ true → is_some (dedicated m kind) ≡ true
far_dedicated m S1 kind a h is = cc
far_dedicated m S2 kind a h is = cc
far_dedicated m S3 kind a h is = by_far (is_far a) (is_some (dedicated m kind)) h is
  where
    by_far : (f d : Bool) → not f || d ≡ true → f ≡ true → d ≡ true
    by_far true d h is = h
    by_far false d h is = cc
far_dedicated m S4 kind a h is = cc
far_dedicated m S5 kind a h is = cc

near_by : (by : Strategy) (m : Parameters) (kind start size x : ℕ) → reaches by m kind start ≡ true → (start < 0x1000000 → start + size ≤ 0x1000000) → x < start + size
    → is_beyond by x ≡ false
near_by S1 m kind start size x h whole upto = refl
near_by S2 m kind start size x h whole upto = refl
near_by S3 m kind start size x h whole upto = refl
near_by S4 m kind start size x h whole upto = refl
near_by S5 m kind start size x h whole upto =
    let small : start < 0x1000000 = leb-false 0x1000000 start (not-true (is_far start) h) in
    lt-leb 0x1000000 x (omega (arith, whole small, upto))

-- a block of a legal kind doesn't lie across 2^24
pub ends_before : (start size : ℕ) → 0 < size → start % size ≡ 0 → 0x1000000 % size ≡ 0 → start < 0x1000000 → start + size ≤ 0x1000000
ends_before start size some whole divides small =
    aligned_le (start + size) 0x1000000 size some (sum_whole start size whole) divides (omega arith)
  where
    sum_whole : (start size : ℕ) → start % size ≡ 0 → (start + size) % size ≡ 0
    sum_whole start size whole = let turned : start + size ≡ size * 1 + start = omega arith in ap (λ n. n % size) turned ∙ mul-add-mod_self_left size 1 start ∙ whole

pub power_small : (n : ℕ) → IsPowerOfTwo 8 24 n → n ≤ 0x1000000
power_small n p = subst (λ k. k ≤ 0x1000000) (sym p.value) (pow_mono p.at_most)

erased_block : (m : Parameters) (start : Start) (due : ℕ → Bool) (a : ℕ) (b : Block) → IsAccepted m → erased_at m (strategy m start) due a ≡ Some b
    → CanBeErased m (strategy m start) b × ((x : ℕ) → b.start ≤ x → x < b.start + b.size → is_beyond (strategy m start) x ≡ false)
erased_block m start due a b accepted h =
    let by = strategy m start in
    let whole = erased_for m by due a b accepted h in
    let is = erases_blocks m by due a b accepted h in
    let kind = legal_kind m b.kind b.start whole.can.legal in
    let parts = legal_parts m b.kind b.start whole.can.legal in
    let has = accepted.kinds b.kind kind.erase kind.there in
    let size : b.size ≡ kind.erase.size = whole.can.size ∙ size_of m b.kind kind.erase kind.there in
    let top : IsPowerOfTwo 24 24 0x1000000 = record { exponent = 24; at_least = omega arith; at_most = omega arith; value = refl } in
    let fits : kind.erase.size ≤ 0x1000000 = power_small kind.erase.size has.size in
    let divides_top : 0x1000000 % b.size ≡ 0 = ap (λ n. 0x1000000 % n) size ∙ divides 8 24 24 24 kind.erase.size 0x1000000 has.size top fits in
    let aligned : b.start % b.size ≡ 0 = ap (λ n. b.start % n) whole.can.size ∙ parts.0 in
    let some : 0 < b.size = omega (arith, whole.low, whole.high) in
    let ends = ends_before b.start b.size some aligned divides_top in
    let beyond : (x : ℕ) → b.start ≤ x → x < b.start + b.size → is_beyond by x ≡ false = λ x from upto. near_by by m b.kind b.start b.size x is.reached ends upto in
    let there = ap (λ o. is_some o && list_any (λ region. allows region b.kind) m.regions) kind.there in
    let live : is_live m b.kind ≡ true = there ∙ allowed_in m.regions 0 b.kind b.start (block_size m b.kind) parts.1 in (
      record {
        within = within m start by b.start refl accepted (omega (arith, whole.inside, some)) (beyond b.start (omega arith) (omega (arith, some)));
        kind = record { kind = four m b.kind accepted kind; live = live; dedicated = far_dedicated m by b.kind b.start is.reached };
      },
      beyond,
    )

-- a byte that differs of the levelled content is in an erased block, or differs of the content and is no fault
near_of : (m : Parameters) (start : Start) (have want : List ℕ) (x : ℕ) (o : Option Block) → IsWorkable m start have want → x < m.size
    → erased_at m (strategy m start) (is_due m have want) x ≡ o
    → slice_index (levelled m (strategy m start) (is_due m have want) have) x ≡ (if is_some o then 255 else slice_index have x)
    → differs (levelled m (strategy m start) (is_due m have want) have) want x ≡ true → is_beyond (strategy m start) x ≡ false
near_of m start have want x (Some b) w inside is level apart =
    let whole = erased_for m (strategy m start) (is_due m have want) x b w.accepted is in
    (erased_block m start (is_due m have want) x b w.accepted is).1 x whole.low whole.high
near_of m start have want x None w inside is level apart =
    let here : differs have want x ≡ true = subst (λ old. not (old == slice_index want x) ≡ true) level apart in
    no_fault (is_beyond (strategy m start) x) (differs have want x) (lacks_erase m (strategy m start) have want x) here (w.sound x inside)
  where
    no_fault : (b d l : Bool) → d ≡ true → (b && d) || l ≡ false → b ≡ false
    no_fault false d l h is = refl
    no_fault true true l h is = cc
    no_fault true false l h is = cc

given : (m : Parameters) (start : Start) (have want : List ℕ) → IsWorkable m start have want
    → IsGiven m start (levelled m (strategy m start) (is_due m have want) have) want (erased_at m (strategy m start) (is_due m have want))
given m start have want w = record {
  accepted = w.accepted;
  some_page = some_page m w.accepted;
  size = w.want_size;
  bytes = bytes_of_each want w.bytes;
  near = λ x inside apart.
      near_of m start have want x (erased_at m (strategy m start) (is_due m have want) x) w inside refl (level_at m start have want x (omega (arith, w.have_size, inside))) apart;
  erase = λ a b is. (erased_block m start (is_due m have want) a b w.accepted is).0;
  held = λ a b x is from upto. (erased_block m start (is_due m have want) a b w.accepted is).1 x from upto;
}

pub own_page : (m : Parameters) → may_page m m.page ≡ true
own_page m = let same : (m.page == m.page) ≡ true = eq-eqb m.page m.page refl in rw same refl

pub planned_done : (m : Parameters) (start : Start) (verify : Bool) (have want : List ℕ) → IsWorkable m start have want
    → AllByRecursion (CanBeDone m (strategy m start)) (planned_ops m start verify have want)
unfolding units
planned_done m start verify have want w =
    let level = levelled m (strategy m start) (is_due m have want) have in
    let erased = erased_at m (strategy m start) (is_due m have want) in
    units_done m start level have want erased verify (planned_units m start have want) 0 (given m start have want w)
    (units_from m level want erased (pages m.page 0 (m.size / m.page))) (units_sound m start m.page have want w (own_page m))
