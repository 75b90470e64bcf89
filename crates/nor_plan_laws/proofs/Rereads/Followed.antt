-- Each instruction of verified work that changes bytes comes before reads of them, against the target.
use Rattle.std.proofs.Common.{◌≡◌, ◌⊎◌, ℕ, suc, ◌+◌, ◌<◌, ◌≤◌, nat_le, nat_lt, Bool, true, false, ◌&&◌, ◌||◌, List, [], ◌∷◌, ◌++◌, length, None, refl, sym, ◌∙◌, ap, subst, inl, inr, le-leb, leb-true, ltb-true, append-nil}
use Rattle.std.specs.Prelude.{flat_map}
use Rattle.std.specs.List.{slice_range}
use Rattle.std.specs.Option.{option_map_or}
use Rattle.std.proofs.lemmas.Bool.{and_parts, or_cases, both_ways}
use Rattle.nor_base.specs.declared.instruction.What.{What}
use Rattle.nor_base.specs.declared.instruction.What.TheVariants as what
use Rattle.nor_base.specs.declared.meaning.Start.{Start}
use Rattle.nor_base.specs.declared.meaning.Strategy.{Strategy}
use Rattle.nor_base.specs.declared.meaning.Strategy.TheVariants.{S1, S2, S3, S4, S5}
use Rattle.nor_base.specs.declared.meaning.Switch.{Switch}
use Rattle.nor_base.specs.declared.meaning.Switch.TheVariants.{Absent, Plain, Latched}
use Rattle.nor_base.specs.Parameters.{Parameters, block_size}
use Rattle.nor_base.specs.Decoding.{Instruction}
use Rattle.nor_base.specs.Effect.{is_program, is_read, has_address, written}
use Rattle.nor_base.specs.Programs.{Program, program_end}
use Rattle.nor_base.specs.Spelling.{Instr, seen}
use Rattle.nor_base.specs.Operations.{Op, erases, writes, reads, bare, programming, reading, instructions, switching_by, entering, leaving, lowered}
use Rattle.nor_base.specs.Events.{erases_address, programs_address, reads_address}
use Rattle.nor_plan_laws.specs.Able.{IsInPage}
use Rattle.nor_plan_laws.proofs.Task.Laid.{reached, writes_nothing}
use Rattle.nor_plan_laws.proofs.Runs.Chosen.{ReadsBack, programming_programs, reading_reads}
use Rattle.nor_plan_laws.proofs.Rereads.Reread.{IsReread, AreCovered}

-- the instruction reads the address, against the target
abbrev pub Rereads : List ℕ → ℕ → Instr → Type 0
Rereads want a i = (is_read i.what ≡ true) × (reads_address a (seen i) ≡ true) × (i.bytes ≡ slice_range want i.address (i.address + (seen i).asked))

abbrev pub AreReread : List ℕ → ℕ → List Instr → Type 0
AreReread want a [] = ⊥
AreReread want a (i ∷ these) = Rereads want a i ⊎ AreReread want a these

-- it changes the address, on a chip of such pages
abbrev pub changes : Parameters → ℕ → ℕ → Instr → Bool
changes m page a i = erases_address m a (seen i) i.what || programs_address page a (seen i) i.what

-- what each of some instructions changes a later one reads
abbrev pub AreFollowed : Parameters → ℕ → List ℕ → List Instr → Type 0
AreFollowed m page want [] = Unit {0}
AreFollowed m page want (i ∷ these) = ((a : ℕ) → changes m page a i ≡ true → AreReread want a these) × AreFollowed m page want these

-- the read of an operation
rereads : (want : List ℕ) (a : ℕ) (p : Program) (i : Instr) → ReadsBack p i → p.at ≤ a → a < program_end p → p.bytes ≡ slice_range want p.at (program_end p) → Rereads want a i
rereads want a p i is from upto puts = (
  is.read,
  rw (is.read, is.asked, is.at, le-leb p.at a from, le-leb (suc a) (program_end p) upto) refl,
  is.bytes ∙ puts ∙ ap (λ n. slice_range want n (n + length p.bytes)) (sym is.at) ∙ ap (λ n. slice_range want i.address (i.address + n)) (sym is.asked),
)

ops_reread : (want : List ℕ) (a : ℕ) (m : Parameters) (start : Start) (by : Strategy) (ops : List Op) (rest : List Instr) → IsReread want a ops
    → AreReread want a (flat_map (instructions m start by) ops ++ rest)
ops_reread want a m start by [] rest h = absurd h
ops_reread want a m start by (erases b ∷ ops) rest (inl here) = absurd here
ops_reread want a m start by (erases b ∷ ops) rest (inr later) = inr (inr (inr (ops_reread want a m start by ops rest later)))
ops_reread want a m start by (writes p ∷ ops) rest (inl here) = absurd here
ops_reread want a m start by (writes p ∷ ops) rest (inr later) = inr (inr (inr (ops_reread want a m start by ops rest later)))
ops_reread want a m start by (reads p ∷ ops) rest (inl here) = inl (rereads want a p (reading m start by p) (reading_reads m start by p) here.0 here.1 here.2)
ops_reread want a m start by (reads p ∷ ops) rest (inr later) = inr (ops_reread want a m start by ops rest later)

-- what an instruction changes: a program within a page just its own bytes, a read and one without an address nothing
programs_within : (m : Parameters) (page a : ℕ) (p : Program) (i : Instr) (w : What) → is_program w ≡ true → i.address ≡ p.at → (seen i).sent ≡ p.bytes → IsInPage page p
    → erases_address m a (seen i) w || programs_address page a (seen i) w ≡ true → (p.at ≤ a) × (a < program_end p)
programs_within m page a p i w is at sent fits h = elim (reached p a) [
  | inl within ↦ within
  | inr outside ↦
      let none : written page i.address (seen i).sent a ≡ None =
      ap (λ n. written page n (seen i).sent a) at ∙ ap (λ bytes. written page p.at bytes a) sent ∙ writes_nothing page p a fits outside in
      absurd (both_ways (erases_address m a (seen i) w || programs_address page a (seen i) w) (by_what m page a (seen i) w is none) h)
]
  where
    by_what : (m : Parameters) (page a : ℕ) (j : Instruction) (w : What) → is_program w ≡ true → written page j.address j.sent a ≡ None
        → erases_address m a j w || programs_address page a j w ≡ false
    by_what m page a j what.Program is none = ap (λ o. option_map_or (λ byte. true) o false) none
    by_what m page a j what.QuadProgram is none = ap (λ o. option_map_or (λ byte. true) o false) none
    by_what m page a j other is none = cc

reads_change_none : (m : Parameters) (page a : ℕ) (j : Instruction) (w : What) → is_read w ≡ true → erases_address m a j w || programs_address page a j w ≡ false
reads_change_none m page a j what.Read is = refl
reads_change_none m page a j what.QuadRead is = refl
reads_change_none m page a j other is = cc

bare_changes_none : (m : Parameters) (page a : ℕ) (j : Instruction) (w : What) → has_address w ≡ false → erases_address m a j w || programs_address page a j w ≡ false
bare_changes_none m page a j (what.Erase kind) is = cc
bare_changes_none m page a j what.Program is = cc
bare_changes_none m page a j what.QuadProgram is = cc
bare_changes_none m page a j other is = refl

erases_within : (m : Parameters) (a start size : ℕ) → (nat_le start a && nat_lt a (start + size)) || false ≡ true → (start ≤ a) × (a < start + size)
erases_within m a start size h = elim (or_cases (nat_le start a && nat_lt a (start + size)) false h) [
  | inl here ↦ let parts = and_parts (nat_le start a) (nat_lt a (start + size)) here in (leb-true start a parts.0, ltb-true a (start + size) parts.1)
  | inr none ↦ cc
]

none_so : {P : Type 0} (b : Bool) → b ≡ false → b ≡ true → P
none_so b none is = absurd (both_ways b none is)

ops_followed : (m : Parameters) (page : ℕ) (want : List ℕ) (start : Start) (by : Strategy) (ops : List Op) (rest : List Instr) → AreCovered m page want ops
    → AreFollowed m page want rest → AreFollowed m page want (flat_map (instructions m start by) ops ++ rest)
ops_followed m page want start by [] rest covered more = more
ops_followed m page want start by (erases b ∷ ops) rest covered more = (
  λ a h. cc,
  (
    λ a h. let within = erases_within m a b.start (block_size m b.kind) h in inr (ops_reread want a m start by ops rest (covered.0 a within.0 within.1)),
    (λ a h. cc, ops_followed m page want start by ops rest covered.1 more),
  ),
)
ops_followed m page want start by (writes p ∷ ops) rest covered more =
    let i = programming m start by p in
    let is = programming_programs m start by p in (
      λ a h. cc,
      (
        λ a h.
            let within = programs_within m page a p i i.what is.program is.at is.sent covered.0.0 h in
            inr (ops_reread want a m start by ops rest (covered.0.1 a within.0 within.1)),
        (λ a h. cc, ops_followed m page want start by ops rest covered.1 more),
      ),
    )
ops_followed m page want start by (reads p ∷ ops) rest covered more = (
  λ a h. none_so _ (reads_change_none m page a (seen (reading m start by p)) (reading m start by p).what (reading_reads m start by p).read) h,
  ops_followed m page want start by ops rest covered.1 more,
)

-- a change of the mode before them, or after
switch_followed : (m : Parameters) (page : ℕ) (want : List ℕ) (by : Switch) (w : What) (op : ℕ) (rest : List Instr) → has_address w ≡ false → AreFollowed m page want rest
    → AreFollowed m page want (switching_by by w op ++ rest)
switch_followed m page want Absent w op rest none more = more
switch_followed m page want Plain w op rest none more = (λ a h. none_so _ (bare_changes_none m page a (seen (bare w op)) w none) h, more)
switch_followed m page want Latched w op rest none more = (λ a h. cc, (λ a h. none_so _ (bare_changes_none m page a (seen (bare w op)) w none) h, (λ a h. cc, more)))

enters_followed : (m : Parameters) (page : ℕ) (want : List ℕ) (by : Strategy) (rest : List Instr) → AreFollowed m page want rest → AreFollowed m page want (entering m by ++ rest)
enters_followed m page want S1 rest more = more
enters_followed m page want S2 rest more = more
enters_followed m page want S3 rest more = more
enters_followed m page want S4 rest more = switch_followed m page want m.enter what.Enter 0xB7 rest refl more
enters_followed m page want S5 rest more = more

leaves_followed : (m : Parameters) (page : ℕ) (want : List ℕ) (by : Strategy) → AreFollowed m page want (leaving m by)
leaves_followed m page want S1 = tt
leaves_followed m page want S2 = tt
leaves_followed m page want S3 = tt
leaves_followed m page want S4 = subst (AreFollowed m page want) (append-nil (leaving m S4)) (switch_followed m page want m.leave what.Leave 0xE9 [] refl tt)
leaves_followed m page want S5 = tt

pub lowered_followed : (m : Parameters) (page : ℕ) (want : List ℕ) (start : Start) (by : Strategy) (ops : List Op) → AreCovered m page want ops
    → AreFollowed m page want (lowered m start by ops)
lowered_followed m page want start by [] covered = tt
lowered_followed m page want start by (op ∷ ops) covered =
    enters_followed m page want by _ (ops_followed m page want start by (op ∷ ops) (leaving m by) covered (leaves_followed m page want by))
