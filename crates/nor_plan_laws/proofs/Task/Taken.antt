-- What a chip at rest does with each instruction of the planned work.
use Rattle.std.proofs.Common.{◌≡◌, ℕ, ◌<◌, Bool, true, false, not, ◌&&◌, if◌then◌else◌, List, [], ◌∷◌, drop, Ok, Some, refl, ◌∙◌, ap}
use Rattle.std.specs.List.{slice_index}
use Rattle.std.proofs.Math.Bool.{and-false}
use Rattle.std.proofs.lemmas.Bool.{and_parts, lt-leb}
use Rattle.nor_base.specs.declared.instruction.What.TheVariants as what
use Rattle.nor_base.specs.declared.meaning.Strategy.{Strategy}
use Rattle.nor_base.specs.declared.meaning.Switch.{Switch}
use Rattle.nor_base.specs.declared.meaning.Switch.TheVariants.{Absent, Plain, Latched}
use Rattle.nor_base.specs.Parameters.{block_size}
use Rattle.nor_base.specs.Instructions.{is_there}
use Rattle.nor_base.specs.Decoding.{Instruction, decode}
use Rattle.nor_base.specs.Blocks.{Block, is_legal}
use Rattle.nor_base.specs.Chip.{Setting, Chip, resting}
use Rattle.nor_base.specs.Effect.{is_latched, effect, effect_if, effect_of, after, answer, is_out_of_range, is_barred, programmed, erased}
use Rattle.nor_base.specs.Spelling.{Instr, seen}
use Rattle.nor_base.specs.Programs.{Program}
use Rattle.nor_base.specs.Operations.{bare, enable, disable, poll, at_address, erasing, programming, takes_dedicated, switching_by}
use Rattle.nor_plan_laws.proofs.Task.Steps.{Leads, leads_then, leads_sent, leads_polled}

-- with the latch as it is
abbrev pub latched : Bool → Bool → List ℕ → List ℕ → Chip
latched latch mode4 a t = record (resting mode4 a t) { latch = latch }

-- busy with the next of the busy times
abbrev pub busy : Bool → List ℕ → List ℕ → Chip
busy mode4 a t = record (resting mode4 a (drop 1 t)) { left = slice_index t 0 }

by_instruction : (s : Setting) (c : Chip) (clocks : List ℕ) (i : Instruction) → decode s.meaning c.mode4 clocks ≡ Some i → effect s c clocks ≡ effect_of s c i
unfolding effect
by_instruction s c clocks i decoded = ap (effect_if s c) decoded

enable_done : (s : Setting) (latch mode4 : Bool) (a t : List ℕ) → effect_of s (latched latch mode4 a t) (seen enable) ≡ Ok (latched true mode4 a t, [])
unfolding effect_of after answer is_out_of_range
enable_done s latch mode4 a t = refl

disable_done : (s : Setting) (latch mode4 : Bool) (a t : List ℕ) → effect_of s (latched latch mode4 a t) (seen disable) ≡ Ok (resting mode4 a t, [])
unfolding effect_of after answer is_out_of_range
disable_done s latch mode4 a t = refl

erase_done : (s : Setting) (mode4 : Bool) (a t : List ℕ) (kind start : ℕ) → is_legal s.meaning kind start ≡ true → start < s.meaning.size
    → effect_of s (latched true mode4 a t) (record { what = what.Erase kind; address = start; sent = []; asked = 0 })
    ≡ Ok (busy mode4 (erased start (block_size s.meaning kind) a) t, [])
unfolding effect_of after answer is_out_of_range
erase_done s mode4 a t kind start legal inside = rw (lt-leb s.meaning.size start inside, legal) refl

program_done : (s : Setting) (mode4 : Bool) (a t : List ℕ) (p : Program) → p.at < s.meaning.size → is_barred s.meaning s.page p.at p.bytes a ≡ false
    → effect_of s (latched true mode4 a t) (record { what = what.Program; address = p.at; sent = p.bytes; asked = 0 })
    ≡ Ok (busy mode4 (programmed s.page p.at p.bytes a) t, [])
unfolding effect_of after answer is_out_of_range
program_done s mode4 a t p inside free = rw (lt-leb s.meaning.size p.at inside, free) refl

quad_program_done : (s : Setting) (mode4 : Bool) (a t : List ℕ) (p : Program) → s.start.quad ≡ true → p.at < s.meaning.size
    → is_barred s.meaning s.page p.at p.bytes a ≡ false
    → effect_of s (latched true mode4 a t) (record { what = what.QuadProgram; address = p.at; sent = p.bytes; asked = 0 })
    ≡ Ok (busy mode4 (programmed s.page p.at p.bytes a) t, [])
unfolding effect_of after answer is_out_of_range
quad_program_done s mode4 a t p quad inside free = rw (quad, lt-leb s.meaning.size p.at inside, free) refl

-- a change of the mode is taken with the latch set, and with it clear where the chip asks for none
switch_done : (s : Setting) (latch mode4 : Bool) (a t : List ℕ) → is_latched s.meaning.enter && not latch ≡ false
    → effect_of s (latched latch mode4 a t) (seen (bare what.Enter 0xB7)) ≡ Ok (latched (latch && s.keeps) true a t, [])
unfolding effect_of after answer is_out_of_range
switch_done s latch mode4 a t may = rw may refl

switch_back : (s : Setting) (latch mode4 : Bool) (a t : List ℕ) → is_latched s.meaning.leave && not latch ≡ false
    → effect_of s (latched latch mode4 a t) (seen (bare what.Leave 0xE9)) ≡ Ok (latched (latch && s.keeps) false a t, [])
unfolding effect_of after answer is_out_of_range
switch_back s latch mode4 a t may = rw may refl

-- the write enable, the write disable
pub enables : (P : List ℕ → Type 0) (s : Setting) (latch mode4 : Bool) (a t : List ℕ) → P a → Leads P s (latched latch mode4 a t) (enable ∷ []) (latched true mode4 a t)
enables P s latch mode4 a t here =
    leads_sent P s (latched latch mode4 a t) (latched true mode4 a t) enable refl (λ x is. is)
    (λ clocks decoded. by_instruction s (latched latch mode4 a t) clocks (seen enable) decoded ∙ enable_done s latch mode4 a t) here

disables : (P : List ℕ → Type 0) (s : Setting) (latch mode4 : Bool) (a t : List ℕ) → P a → Leads P s (latched latch mode4 a t) (disable ∷ []) (resting mode4 a t)
disables P s latch mode4 a t here =
    leads_sent P s (latched latch mode4 a t) (resting mode4 a t) disable refl (λ x is. is)
    (λ clocks decoded. by_instruction s (latched latch mode4 a t) clocks (seen disable) decoded ∙ disable_done s latch mode4 a t) here

enters_by : (P : List ℕ → Type 0) (s : Setting) (latch mode4 : Bool) (a t : List ℕ) → is_latched s.meaning.enter && not latch ≡ false → P a
    → Leads P s (latched latch mode4 a t) (bare what.Enter 0xB7 ∷ []) (latched (latch && s.keeps) true a t)
enters_by P s latch mode4 a t may here =
    leads_sent P s (latched latch mode4 a t) (latched (latch && s.keeps) true a t) (bare what.Enter 0xB7) refl (λ x is. is)
    (λ clocks decoded. by_instruction s (latched latch mode4 a t) clocks (seen (bare what.Enter 0xB7)) decoded ∙ switch_done s latch mode4 a t may) here

leaves_by : (P : List ℕ → Type 0) (s : Setting) (latch mode4 : Bool) (a t : List ℕ) → is_latched s.meaning.leave && not latch ≡ false → P a
    → Leads P s (latched latch mode4 a t) (bare what.Leave 0xE9 ∷ []) (latched (latch && s.keeps) false a t)
leaves_by P s latch mode4 a t may here =
    leads_sent P s (latched latch mode4 a t) (latched (latch && s.keeps) false a t) (bare what.Leave 0xE9) refl (λ x is. is)
    (λ clocks decoded. by_instruction s (latched latch mode4 a t) clocks (seen (bare what.Leave 0xE9)) decoded ∙ switch_back s latch mode4 a t may) here

-- a latched change: the enable, the change with the latch set, and the disable, whether the latch was kept or not
enters_latched : (P : List ℕ → Type 0) (s : Setting) (mode4 : Bool) (a t : List ℕ) → P a
    → Leads P s (resting mode4 a t) (enable ∷ bare what.Enter 0xB7 ∷ disable ∷ []) (resting true a t)
enters_latched P s mode4 a t here =
    leads_then P s (resting mode4 a t) (latched true mode4 a t) (resting true a t) (enable ∷ []) (bare what.Enter 0xB7 ∷ disable ∷ []) (enables P s false mode4 a t here)
    (leads_then P s (latched true mode4 a t) (latched s.keeps true a t) (resting true a t) (bare what.Enter 0xB7 ∷ []) (disable ∷ [])
    (enters_by P s true mode4 a t (and-false (is_latched s.meaning.enter)) here) (disables P s s.keeps true a t here))

leaves_latched : (P : List ℕ → Type 0) (s : Setting) (mode4 : Bool) (a t : List ℕ) → P a
    → Leads P s (resting mode4 a t) (enable ∷ bare what.Leave 0xE9 ∷ disable ∷ []) (resting false a t)
leaves_latched P s mode4 a t here =
    leads_then P s (resting mode4 a t) (latched true mode4 a t) (resting false a t) (enable ∷ []) (bare what.Leave 0xE9 ∷ disable ∷ []) (enables P s false mode4 a t here)
    (leads_then P s (latched true mode4 a t) (latched s.keeps false a t) (resting false a t) (bare what.Leave 0xE9 ∷ []) (disable ∷ [])
    (leaves_by P s true mode4 a t (and-false (is_latched s.meaning.leave)) here) (disables P s s.keeps false a t here))

-- four-byte mode is entered and left by the chip's own way, where it has one
pub enters : (P : List ℕ → Type 0) (s : Setting) (by : Switch) (mode4 : Bool) (a t : List ℕ) → s.meaning.enter ≡ by → is_there by ≡ true → P a
    → Leads P s (resting mode4 a t) (switching_by by what.Enter 0xB7) (resting true a t)
enters P s Absent mode4 a t is there here = cc
enters P s Plain mode4 a t is there here = enters_by P s false mode4 a t (ap (λ w. is_latched w && true) is) here
enters P s Latched mode4 a t is there here = enters_latched P s mode4 a t here

pub leaves : (P : List ℕ → Type 0) (s : Setting) (by : Switch) (mode4 : Bool) (a t : List ℕ) → s.meaning.leave ≡ by → is_there by ≡ true → P a
    → Leads P s (resting mode4 a t) (switching_by by what.Leave 0xE9) (resting false a t)
leaves P s Absent mode4 a t is there here = cc
leaves P s Plain mode4 a t is there here = leaves_by P s false mode4 a t (ap (λ w. is_latched w && true) is) here
leaves P s Latched mode4 a t is there here = leaves_latched P s mode4 a t here

-- the poll after an erase or a program
waits : (P : List ℕ → Type 0) (s : Setting) (mode4 : Bool) (a t : List ℕ) → P a → Leads P s (busy mode4 a t) (poll ∷ []) (resting mode4 a (drop 1 t))
waits P s mode4 a t here = leads_polled P s (resting mode4 a (drop 1 t)) (slice_index t 0) poll (λ x is. is) refl here

-- an erase or a program, with the enable before it and the poll after it
done_so : (P : List ℕ → Type 0) (s : Setting) (mode4 : Bool) (a b t : List ℕ) (i : Instr) → P a → P b
    → Leads P s (latched true mode4 a t) (i ∷ []) (busy mode4 b t) → Leads P s (resting mode4 a t) (enable ∷ i ∷ poll ∷ []) (resting mode4 b (drop 1 t))
done_so P s mode4 a b t i before after does =
    leads_then P s (resting mode4 a t) (latched true mode4 a t) (resting mode4 b (drop 1 t)) (enable ∷ []) (i ∷ poll ∷ []) (enables P s false mode4 a t before)
    (leads_then P s (latched true mode4 a t) (busy mode4 b t) (resting mode4 b (drop 1 t)) (i ∷ []) (poll ∷ []) does (waits P s mode4 b t after))

erases_by : (P : List ℕ → Type 0) (s : Setting) (by : Strategy) (mode4 : Bool) (a t : List ℕ) (b : Block) → is_legal s.meaning b.kind b.start ≡ true
    → b.start < s.meaning.size → P (erased b.start (block_size s.meaning b.kind) a)
    → Leads P s (latched true mode4 a t) (erasing s.meaning by b ∷ []) (busy mode4 (erased b.start (block_size s.meaning b.kind) a) t)
erases_by P s by mode4 a t b legal inside here =
    leads_sent P s (latched true mode4 a t) (busy mode4 (erased b.start (block_size s.meaning b.kind) a) t) (erasing s.meaning by b) refl (λ x is. is)
    (λ clocks decoded. by_instruction s (latched true mode4 a t) clocks (seen (erasing s.meaning by b)) decoded ∙ erase_done s mode4 a t b.kind b.start legal inside) here

pub erases_there : (P : List ℕ → Type 0) (s : Setting) (by : Strategy) (mode4 : Bool) (a t : List ℕ) (b : Block) → is_legal s.meaning b.kind b.start ≡ true
    → b.start < s.meaning.size → P a → P (erased b.start (block_size s.meaning b.kind) a)
    → Leads P s (resting mode4 a t) (enable ∷ erasing s.meaning by b ∷ poll ∷ []) (resting mode4 (erased b.start (block_size s.meaning b.kind) a) (drop 1 t))
erases_there P s by mode4 a t b legal inside before after =
    done_so P s mode4 a _ t (erasing s.meaning by b) before after (erases_by P s by mode4 a t b legal inside after)

-- a program on one lane, and one on four
single_by : (P : List ℕ → Type 0) (s : Setting) (mode4 : Bool) (a t : List ℕ) (p : Program) (i : Instr)
    → p.at < s.meaning.size → is_barred s.meaning s.page p.at p.bytes a ≡ false → P (programmed s.page p.at p.bytes a)
    → Leads P s (latched true mode4 a t) (record i { what = what.Program; address = p.at; bytes = p.bytes } ∷ []) (busy mode4 (programmed s.page p.at p.bytes a) t)
single_by P s mode4 a t p i inside free here =
    let j = record i { what = what.Program; address = p.at; bytes = p.bytes } in
    leads_sent P s (latched true mode4 a t) (busy mode4 (programmed s.page p.at p.bytes a) t) j refl (λ x is. is)
    (λ clocks decoded. by_instruction s (latched true mode4 a t) clocks (seen j) decoded ∙ program_done s mode4 a t p inside free) here

quad_by : (P : List ℕ → Type 0) (s : Setting) (mode4 : Bool) (a t : List ℕ) (p : Program) (i : Instr) → s.start.quad ≡ true
    → p.at < s.meaning.size → is_barred s.meaning s.page p.at p.bytes a ≡ false → P (programmed s.page p.at p.bytes a)
    → Leads P s (latched true mode4 a t) (record i { what = what.QuadProgram; address = p.at; bytes = p.bytes } ∷ []) (busy mode4 (programmed s.page p.at p.bytes a) t)
quad_by P s mode4 a t p i quad inside free here =
    let j = record i { what = what.QuadProgram; address = p.at; bytes = p.bytes } in
    leads_sent P s (latched true mode4 a t) (busy mode4 (programmed s.page p.at p.bytes a) t) j refl (λ x is. is)
    (λ clocks decoded. by_instruction s (latched true mode4 a t) clocks (seen j) decoded ∙ quad_program_done s mode4 a t p quad inside free) here

-- the program of the strategy, whichever it is
chosen_by : (P : List ℕ → Type 0) (s : Setting) (by : Strategy) (mode4 : Bool) (a t : List ℕ) (p : Program) (long short : Bool)
    → (long ≡ true → s.start.quad ≡ true) → (short ≡ true → s.start.quad ≡ true)
    → p.at < s.meaning.size → is_barred s.meaning s.page p.at p.bytes a ≡ false → P (programmed s.page p.at p.bytes a)
    → Leads P s (latched true mode4 a t)
    ((if long then record { what = what.QuadProgram; op = 0x34; address = p.at; width = 4; dummies = 0; bytes = p.bytes }
    else if short then at_address by what.QuadProgram 0x32 0x34 0 p.at p.bytes
    else at_address by what.Program 0x02 0x12 0 p.at p.bytes) ∷ [])
    (busy mode4 (programmed s.page p.at p.bytes a) t)
chosen_by P s by mode4 a t p true short quad4 quad3 inside free here =
    quad_by P s mode4 a t p (record { what = what.QuadProgram; op = 0x34; address = p.at; width = 4; dummies = 0; bytes = p.bytes }) (quad4 refl) inside free here
chosen_by P s by mode4 a t p false true quad4 quad3 inside free here =
    quad_by P s mode4 a t p (at_address by what.QuadProgram 0x32 0x34 0 p.at p.bytes) (quad3 refl) inside free here
chosen_by P s by mode4 a t p false false quad4 quad3 inside free here =
    single_by P s mode4 a t p (at_address by what.Program 0x02 0x12 0 p.at p.bytes) inside free here

pub programs_there : (P : List ℕ → Type 0) (s : Setting) (by : Strategy) (mode4 : Bool) (a t : List ℕ) (p : Program) → p.at < s.meaning.size
    → is_barred s.meaning s.page p.at p.bytes a ≡ false → P a → P (programmed s.page p.at p.bytes a)
    → Leads P s (resting mode4 a t) (enable ∷ programming s.meaning s.start by p ∷ poll ∷ []) (resting mode4 (programmed s.page p.at p.bytes a) (drop 1 t))
programs_there P s by mode4 a t p inside free before after =
    done_so P s mode4 a _ t (programming s.meaning s.start by p) before after
    (chosen_by P s by mode4 a t p (s.start.quad && s.meaning.quad4) (s.start.quad && (s.meaning.quad3 && not (takes_dedicated by p.at)))
    (λ h. (and_parts s.start.quad _ h).0) (λ h. (and_parts s.start.quad _ h).0) inside free after)
