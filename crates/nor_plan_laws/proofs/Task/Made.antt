-- Units one after another: each leads from the target up to its start to the target up to its end.
use Rattle.std.proofs.Common.{◌≡◌, ℕ, zero, suc, ◌+◌, ◌-◌, ◌/◌, ◌<◌, ◌≤◌, Bool, true, false, if◌then◌else◌, List, [], ◌∷◌, ◌++◌, length, map, Option, Some, None, refl, sym, ◌∙◌, ap, subst, arith, inl, inr, ext_get_or}
use Rattle.std.specs.Prelude.{flat_map}
use Rattle.std.specs.List.{slice_index, slice_range, AllByRecursion}
use Rattle.std.proofs.lemmas.Bool.{cases_lt}
use Rattle.nor_base.specs.Parameters.{Parameters}
use Rattle.nor_base.specs.Blocks.{Block}
use Rattle.nor_base.specs.Effect.{may_program, erased}
use Rattle.nor_base.specs.Programs.{Program, program_end, target_bytes}
use Rattle.nor_base.specs.Units.{WorkUnit, pages}
use Rattle.nor_base.specs.Operations.{Op, writes, reads, laid, unit_reads, unit_erases, unit_ops}
use Rattle.nor_base.specs.Planned.{IsUnitOver, IsInTheMaking}
use Rattle.nor_base.proofs.ArrayLaws.{length-each, erased_fills, erased_keeps}
use Rattle.nor_plan_laws.proofs.Units.Ranges.{length-range, range_at, same_range}
use Rattle.nor_plan_laws.proofs.Task.Laid.{length-laid, laid_keeps, laid_gives}
use Rattle.nor_plan_laws.proofs.Task.Ops.{Chain, chain_then}
use Rattle.nor_plan_laws.specs.Able.{CanErase, CanRead, IsInPage, MayLay, byte_for}

-- the target below one address, one array from there up to another, and the content past that
pub record IsMade (mid have want array : List ℕ) (upto high : ℕ) : Type 0 where
  pub size : length array ≡ length want
  pub below : (x : ℕ) → x < upto → slice_index array x ≡ slice_index want x
  pub within : (x : ℕ) → upto ≤ x → x < high → slice_index array x ≡ slice_index mid x
  pub above : (x : ℕ) → high ≤ x → slice_index array x ≡ slice_index have x

-- a program of a stretch: up to it nothing differs, and it may be done over what is there
pub record IsPut (m : Parameters) (page : ℕ) (mid want : List ℕ) (low high : ℕ) (p : Program) : Type 0 where
  pub from : low ≤ p.at
  pub some : 0 < length p.bytes
  pub upto : program_end p ≤ high
  pub same : (x : ℕ) → low ≤ x → x < p.at → slice_index mid x ≡ slice_index want x
  pub in_page : IsInPage page p
  pub puts : p.bytes ≡ slice_range want p.at (program_end p)
  pub may : (x : ℕ) → p.at ≤ x → x < program_end p → may_program m (slice_index mid x) (slice_index want x) ≡ true

-- the programs of a stretch: one after another, and where none goes nothing differs
abbrev pub ArePut : Parameters → ℕ → List ℕ → List ℕ → ℕ → ℕ → List Program → Type 0
ArePut m page mid want low high [] = (x : ℕ) → low ≤ x → x < high → slice_index mid x ≡ slice_index want x
ArePut m page mid want low high (p ∷ ps) = IsPut m page mid want low high p × ArePut m page mid want (program_end p) high ps

-- what operations lead to
pub record Made (P : List ℕ → Type 0) (m : Parameters) (page : ℕ) (mid have want a : List ℕ) (ops : List Op) (upto high : ℕ) : Type 0 where
  pub array : List ℕ
  pub made : IsMade mid have want array upto high
  pub chain : Chain P m page a ops array

-- where nothing differs the target has come further
advances : (mid have want a : List ℕ) (low upto high : ℕ) → low ≤ upto → upto ≤ high → ((x : ℕ) → low ≤ x → x < upto → slice_index mid x ≡ slice_index want x)
    → IsMade mid have want a low high → IsMade mid have want a upto high
advances mid have want a low upto high rises fits same h = record {
  size = h.size;
  below = λ x before. elim (cases_lt x low) [
    | inl low_x ↦ h.below x low_x
    | inr from ↦ h.within x from (omega arith) ∙ same x from before
  ];
  within = λ x from before. h.within x (omega arith) before;
  above = h.above;
}

byte_is : (m : Parameters) (page : ℕ) (mid want : List ℕ) (low high : ℕ) (p : Program) (x : ℕ) → IsPut m page mid want low high p → p.at ≤ x → x < program_end p
    → byte_for p x ≡ slice_index want x
byte_is m page mid want low high p x put from upto = ap (λ bytes. slice_index bytes (x - p.at)) put.puts ∙ range_at want p.at (program_end p) x from upto

may_lay : (m : Parameters) (page : ℕ) (mid have want a : List ℕ) (low high : ℕ) (p : Program) → IsPut m page mid want low high p → IsMade mid have want a p.at high
    → MayLay m p a
may_lay m page mid have want a low high p put h x from upto =
    let old : slice_index a x ≡ slice_index mid x = h.within x from (omega (arith, put.upto, upto)) in
    ap (λ o. may_program m o (byte_for p x)) old ∙ ap (may_program m (slice_index mid x)) (byte_is m page mid want low high p x put from upto) ∙ put.may x from upto

laid_makes : (m : Parameters) (page : ℕ) (mid have want a : List ℕ) (low high : ℕ) (p : Program) → ((x : ℕ) → slice_index want x < 256) → high ≤ length want
    → IsPut m page mid want low high p → IsMade mid have want a p.at high → IsMade mid have want (laid p a) (program_end p) high
laid_makes m page mid have want a low high p bytes inside put h = record {
  size = length-laid p a ∙ h.size;
  below = λ x before. elim (cases_lt x p.at) [
    | inl first ↦ laid_keeps p a x (inl first) ∙ h.below x first
    | inr from ↦
        let byte = byte_is m page mid want low high p x put from before in
        laid_gives m p a x (may_lay m page mid have want a low high p put h) (subst (λ n. n < 256) (sym byte) (bytes x))
        (omega (arith, h.size, put.upto, before, inside)) from before ∙ byte
  ];
  within = λ x from before. laid_keeps p a x (inr from) ∙ h.within x (omega (arith, put.some, from)) before;
  above = λ x past. laid_keeps p a x (inr (omega (arith, put.upto, past))) ∙ h.above x past;
}

-- what holds of each array while a stretch is made
abbrev pub Along : (List ℕ → Type 0) → List ℕ → List ℕ → List ℕ → ℕ → ℕ → Type 0
Along P mid have want low high = (array : List ℕ) (upto : ℕ) → low ≤ upto → upto ≤ high → IsMade mid have want array upto high → P array

pub programs_make : (P : List ℕ → Type 0) (m : Parameters) (page : ℕ) (mid have want : List ℕ) (start high : ℕ) → length want ≡ m.size
    → ((x : ℕ) → slice_index want x < 256) → high ≤ length want → Along P mid have want start high
    → (ps : List Program) (low : ℕ) (a : List ℕ) → start ≤ low → low ≤ high → ArePut m page mid want low high ps → IsMade mid have want a low high
    → Made P m page mid have want a (map writes ps) high high
programs_make P m page mid have want start high size bytes inside along [] low a from fits put h = record {
  array = a;
  made = advances mid have want a low high high fits (omega arith) put h;
  chain = refl;
}
programs_make P m page mid have want start high size bytes inside along (p ∷ ps) low a from fits put h =
    let first = put.0 in
    let there = advances mid have want a low p.at high first.from (omega (arith, first.some, first.upto)) first.same h in
    let after = laid_makes m page mid have want a low high p bytes inside first there in
    let rest = programs_make P m page mid have want start high size bytes inside along ps (program_end p) (laid p a)
    (omega (arith, first.from, from)) first.upto put.1 after in
    record {
      array = rest.array;
      made = rest.made;
      chain = (
        record { some = first.some; inside = omega (arith, first.upto, inside, size); in_page = first.in_page; may = may_lay m page mid have want a low high p first there },
        along a p.at (omega (arith, first.from, from)) (omega (arith, first.some, first.upto)) there,
        along (laid p a) (program_end p) (omega (arith, first.from, from)) first.upto after,
        rest.chain,
      );
    }

-- reads of what is there change nothing
reads_stay : (P : List ℕ → Type 0) (m : Parameters) (page : ℕ) (a : List ℕ) → P a → (rs : List Program) → AllByRecursion (λ r. CanRead m r a) rs
    → Chain P m page a (map reads rs) a
reads_stay P m page a here [] all = refl
reads_stay P m page a here (r ∷ rs) all = (all.0, here, here, reads_stay P m page a here rs all.1)

-- so many pages from one on end by an address
abbrev pub EndBy : ℕ → ℕ → ℕ → ℕ → Type 0
EndBy page start zero high = Unit {0}
EndBy page start (suc n) high = (start + page ≤ high) × EndBy page (start + page) n high

can_read : (m : Parameters) (want a : List ℕ) (start page high : ℕ) → 0 < page → start + page ≤ high → high ≤ length want → length want ≡ m.size
    → length a ≡ length want → ((x : ℕ) → x < high → slice_index a x ≡ slice_index want x) → CanRead m (target_bytes want start (start + page)) a
can_read m want a start page high some ends inside size lengths same =
    let count : length (slice_range want start (start + page)) ≡ page =
    omega (arith, length-range want start (start + page) (omega arith) (omega arith)) in
    record {
      some = omega (arith, count, some);
      inside = omega (arith, count, ends, inside, size);
      there = ap (λ n. slice_range a start (start + n)) count
          ∙ same_range a want start (start + page) (omega arith) (omega (arith, lengths)) (omega arith) (λ x from upto. same x (omega arith));
    }

pages_stay : (P : List ℕ → Type 0) (m : Parameters) (page p : ℕ) (want a : List ℕ) (high : ℕ) → 0 < p → high ≤ length want → length want ≡ m.size
    → length a ≡ length want → ((x : ℕ) → x < high → slice_index a x ≡ slice_index want x) → P a → (start n : ℕ) → EndBy p start n high
    → Chain P m page a (map (λ first. reads (target_bytes want first (first + p))) (pages p start n)) a
pages_stay P m page p want a high some inside size lengths same here start zero ends = refl
pages_stay P m page p want a high some inside size lengths same here start (suc n) ends = (
  can_read m want a start p high some ends.0 inside size lengths same,
  here,
  here,
  pages_stay P m page p want a high some inside size lengths same here (start + p) n ends.1,
)

-- the programs that were put are there
all_there : (m : Parameters) (page : ℕ) (mid want a : List ℕ) (high : ℕ) → high ≤ length want → length want ≡ m.size → length a ≡ length want
    → ((x : ℕ) → x < high → slice_index a x ≡ slice_index want x) → (ps : List Program) (low : ℕ) → ArePut m page mid want low high ps
    → AllByRecursion (λ r. CanRead m r a) ps
all_there m page mid want a high inside size lengths same [] low put = tt
all_there m page mid want a high inside size lengths same (p ∷ ps) low put =
    let first = put.0 in (
      record {
        some = first.some;
        inside = omega (arith, first.upto, inside, size);
        there = same_range a want p.at (program_end p) (omega arith) (omega (arith, lengths, first.upto, inside)) (omega (arith, first.upto, inside))
            (λ x from upto. same x (omega (arith, first.upto, upto))) ∙ sym first.puts;
      },
      all_there m page mid want a high inside size lengths same ps (program_end p) put.1,
    )

-- a unit that the content, with its erased blocks level, calls for
pub record IsSoundBlock (m : Parameters) (page : ℕ) (level want : List ℕ) (u : WorkUnit) (b : Block) : Type 0 where
  pub can : CanErase m b
  pub start_is : b.start ≡ u.start
  pub size_is : b.size ≡ u.size
  pub blank : (x : ℕ) → u.start ≤ x → x < u.start + u.size → slice_index level x ≡ 255
  pub ends : EndBy m.page b.start (b.size / m.page) (u.start + u.size)

abbrev pub IsSoundBy : Parameters → ℕ → List ℕ → List ℕ → List ℕ → WorkUnit → Option Block → Type 0
IsSoundBy m page level have want u (Some b) = IsSoundBlock m page level want u b
IsSoundBy m page level have want u None = (x : ℕ) → u.start ≤ x → x < u.start + u.size → slice_index level x ≡ slice_index have x

pub record IsSoundUnit (m : Parameters) (page : ℕ) (level have want : List ℕ) (u : WorkUnit) : Type 0 where
  pub inside : u.start + u.size ≤ length want
  pub kind : IsSoundBy m page level have want u u.erase
  pub put : ArePut m page level want u.start (u.start + u.size) u.programs

-- after the erase, if there is one, the unit's stretch is level
erase_makes : (P : List ℕ → Type 0) (m : Parameters) (page : ℕ) (level have want a : List ℕ) (u : WorkUnit) (e : Option Block) → u.start + u.size ≤ length want
    → IsSoundBy m page level have want u e → IsMade have have want a u.start (u.start + u.size) → P a → Along P level have want u.start (u.start + u.size)
    → Made P m page level have want a (unit_erases e) u.start (u.start + u.size)
unfolding erased
erase_makes P m page level have want a u None inside kind h here along = record {
  array = a;
  made = record { size = h.size; below = h.below; within = λ x from before. h.within x from before ∙ sym (kind x from before); above = h.above };
  chain = refl;
}
erase_makes P m page level have want a u (Some b) inside kind h here along =
    let after : IsMade level have want (erased b.start b.size a) u.start (u.start + u.size) = record {
      size = length-each _ a ∙ h.size;
      below = λ x before. erased_keeps b.start b.size a x (inl (omega (arith, kind.start_is, before))) ∙ h.below x before;
      within = λ x from before.
          erased_fills b.start b.size a x (omega (arith, h.size, inside, before)) (omega (arith, kind.start_is, from)) (omega (arith, kind.start_is, kind.size_is, before))
          ∙ sym (kind.blank x from before);
      above = λ x past. erased_keeps b.start b.size a x (inr (omega (arith, kind.start_is, kind.size_is, past))) ∙ h.above x past;
    } in
    record { array = erased b.start b.size a; made = after; chain = (kind.can, here, along (erased b.start b.size a) u.start (omega arith) (omega arith) after, refl) }

-- the reads of a unit, where it is verified, change nothing
verify_stays : (P : List ℕ → Type 0) (m : Parameters) (page : ℕ) (level have want a : List ℕ) (u : WorkUnit) (verify : Bool) (e : Option Block) → 0 < m.page
    → length want ≡ m.size → u.start + u.size ≤ length want → IsSoundBy m page level have want u e → ArePut m page level want u.start (u.start + u.size) u.programs
    → IsMade level have want a (u.start + u.size) (u.start + u.size) → P a → Chain P m page a (if verify then unit_reads m want u e else []) a
verify_stays P m page level have want a u false e some size inside kind put h here = refl
verify_stays P m page level have want a u true None some size inside kind put h here =
    reads_stay P m page a here u.programs (all_there m page level want a (u.start + u.size) inside size h.size h.below u.programs u.start put)
verify_stays P m page level have want a u true (Some b) some size inside kind put h here =
    pages_stay P m page m.page want a (u.start + u.size) some inside size h.size h.below here b.start (b.size / m.page) kind.ends

-- a unit leads from the target up to its start to the target up to its end
unit_makes : (P : List ℕ → Type 0) (m : Parameters) (page : ℕ) (level have want a : List ℕ) (verify : Bool) (u : WorkUnit) → 0 < m.page → length want ≡ m.size
    → ((x : ℕ) → slice_index want x < 256) → IsSoundUnit m page level have want u → IsMade have have want a u.start (u.start + u.size) → P a
    → Along P level have want u.start (u.start + u.size) → Made P m page level have want a (unit_ops m verify want u) (u.start + u.size) (u.start + u.size)
unit_makes P m page level have want a verify u some size bytes sound h here along =
    let erase = erase_makes P m page level have want a u u.erase sound.inside sound.kind h here along in
    let put = programs_make P m page level have want u.start (u.start + u.size) size bytes sound.inside along u.programs u.start erase.array (omega arith) (omega arith)
    sound.put erase.made in
    let last : P put.array = along put.array (u.start + u.size) (omega arith) (omega arith) put.made in
    record {
      array = put.array;
      made = put.made;
      chain = chain_then P m page a erase.array put.array (unit_erases u.erase) (map writes u.programs ++ (if verify then unit_reads m want u u.erase else [])) erase.chain
          (chain_then P m page erase.array put.array put.array (map writes u.programs) (if verify then unit_reads m want u u.erase else []) put.chain
          (verify_stays P m page level have want put.array u verify u.erase some size sound.inside sound.kind sound.put put.made last));
    }

-- units from an address on: between them nothing differs
abbrev pub AreSoundUnits : Parameters → ℕ → List ℕ → List ℕ → List ℕ → ℕ → List WorkUnit → Type 0
AreSoundUnits m page level have want low [] = (x : ℕ) → low ≤ x → x < length want → slice_index have x ≡ slice_index want x
AreSoundUnits m page level have want low (u ∷ us) =
    (low ≤ u.start) × ((x : ℕ) → low ≤ x → x < u.start → slice_index have x ≡ slice_index want x) × IsSoundUnit m page level have want u
    × AreSoundUnits m page level have want (u.start + u.size) us

-- between units
abbrev pub IsBetween : List ℕ → List ℕ → List ℕ → ℕ → Type 0
IsBetween have want a low = IsMade have have want a low low

waits_at : (have want a : List ℕ) (low upto high : ℕ) → low ≤ upto → upto ≤ high → ((x : ℕ) → low ≤ x → x < upto → slice_index have x ≡ slice_index want x)
    → IsBetween have want a low → IsMade have have want a upto high
waits_at have want a low upto high rises fits same h = record {
  size = h.size;
  below = λ x before. elim (cases_lt x low) [ inl first ↦ h.below x first | inr from ↦ h.above x from ∙ same x from before ];
  within = λ x from before. h.above x (omega arith);
  above = λ x past. h.above x (omega arith);
}

between : (level have want a : List ℕ) (high : ℕ) → IsMade level have want a high high → IsBetween have want a high
between level have want a high h = record { size = h.size; below = h.below; within = λ x from before. absurd (omega arith); above = h.above }

-- an array of one unit in the making
making_unit : (us : List WorkUnit) (mid have want a : List ℕ) (low upto high : ℕ) → IsUnitOver us low high → low ≤ upto → upto ≤ high
    → IsMade mid have want a upto high → IsInTheMaking us have want a
making_unit us mid have want a low upto high over rises fits h = record {
  low = low;
  high = high;
  below = λ x before. h.below x (omega arith);
  above = h.above;
  between = inr over;
}

-- units one after another, with at most one of them in the making
pub units_lead : (m : Parameters) (page : ℕ) (level have want : List ℕ) (verify : Bool) → 0 < m.page → length want ≡ m.size → length have ≡ length want
    → ((x : ℕ) → slice_index want x < 256) → (all us : List WorkUnit) → ((low high : ℕ) → IsUnitOver us low high → IsUnitOver all low high)
    → (low : ℕ) (a : List ℕ) → AreSoundUnits m page level have want low us → IsBetween have want a low
    → Chain (IsInTheMaking all have want) m page a (flat_map (unit_ops m verify want) us) want
units_lead m page level have want verify some size lengths bytes all [] among low a sound h =
    ext_get_or 0 a want h.size (λ x inside. elim (cases_lt x low) [
      | inl first ↦ h.below x first
      | inr from ↦ h.above x from ∙ sound x from (omega (arith, h.size, inside))
    ])
units_lead m page level have want verify some size lengths bytes all (u ∷ us) among low a sound h =
    let over = among u.start (u.start + u.size) (inl (refl, refl)) in
    let there = waits_at have want a low u.start (u.start + u.size) sound.0 (omega arith) sound.1 h in
    let made = unit_makes (IsInTheMaking all have want) m page level have want a verify u some size bytes sound.2 there
    (making_unit all have have want a u.start u.start (u.start + u.size) over (omega arith) (omega arith) there)
    (λ array upto rises fits is. making_unit all level have want array u.start upto (u.start + u.size) over rises fits is) in
    chain_then (IsInTheMaking all have want) m page a made.array want (unit_ops m verify want u) (flat_map (unit_ops m verify want) us) made.chain
    (units_lead m page level have want verify some size lengths bytes all us (λ low' high' is. among low' high' (inr is)) (u.start + u.size) made.array sound.3
    (between level have want made.array (u.start + u.size) made.made))
