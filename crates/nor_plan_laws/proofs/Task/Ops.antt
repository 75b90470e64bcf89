-- Operations on a chip at rest: their instructions do what they do.
use Rattle.std.proofs.Common.{◌≡◌, ℕ, ◌+◌, ◌<◌, nat_le, nat_lt, Bool, true, false, not, ◌&&◌, if◌then◌else◌, List, [], ◌∷◌, ◌++◌, length, drop, Ok, refl, sym, ◌∙◌, ap, subst, arith}
use Rattle.std.specs.Prelude.{flat_map, is_some}
use Rattle.std.specs.Option.{option_map_or}
use Rattle.std.proofs.lemmas.Bool.{and_parts, le-ltb, lt-leb}
use Rattle.std.proofs.lemmas.Slice.Eq.{bytes_eq-Decides}
use Rattle.nor_base.specs.declared.instruction.What.TheVariants as what
use Rattle.nor_base.specs.declared.meaning.Strategy.{Strategy}
use Rattle.nor_base.specs.declared.step.Step.{Step}
use Rattle.nor_base.specs.declared.step.Step.TheVariants.{Verify}
use Rattle.nor_base.specs.Parameters.{Parameters, block_size}
use Rattle.nor_base.specs.Instructions.{quad_read_dummies}
use Rattle.nor_base.specs.Chip.{Setting, Chip, resting}
use Rattle.nor_base.specs.Effect.{is_read, effect, effect_if, effect_of, after, answer, is_out_of_range, erased}
use Rattle.nor_base.specs.Run.{step, step_trail, is_verify}
use Rattle.nor_base.specs.Spelling.{Instr, seen, IsReadBy, IsStepOf, mode_after}
use Rattle.nor_base.specs.Programs.{Program}
use Rattle.nor_base.specs.Operations.{Op, erases, writes, reads, does, at_address, reading, takes_dedicated, instructions}
use Rattle.nor_plan_laws.proofs.Task.Steps.{Takes, Leads, leads_one, Moves, moves_none, moves_then}
use Rattle.nor_plan_laws.proofs.Task.Taken.{erases_there, programs_there}
use Rattle.nor_plan_laws.proofs.Task.Laid.{not_barred, programmed_is_laid}
use Rattle.nor_plan_laws.proofs.Task.Reading.{read_verifies}
use Rattle.nor_plan_laws.specs.Able.{CanDo, CanRead}

-- a read of bytes that are there
read_done : (s : Setting) (mode4 : Bool) (a t : List ℕ) (p : Program) → CanRead s.meaning p a
    → effect_of s (resting mode4 a t) (record { what = what.Read; address = p.at; sent = []; asked = length p.bytes }) ≡ Ok (resting mode4 a t, p.bytes)
unfolding effect_of after answer is_out_of_range
read_done s mode4 a t p can =
    let first : nat_le s.meaning.size p.at ≡ false = lt-leb s.meaning.size p.at (omega (arith, can.some, can.inside)) in
    let last : nat_lt s.meaning.size (p.at + length p.bytes) ≡ false = le-ltb s.meaning.size (p.at + length p.bytes) can.inside in
    rw (first, last, can.there) refl

quad_read_done : (s : Setting) (mode4 : Bool) (a t : List ℕ) (p : Program) → s.start.quad ≡ true → CanRead s.meaning p a
    → effect_of s (resting mode4 a t) (record { what = what.QuadRead; address = p.at; sent = []; asked = length p.bytes }) ≡ Ok (resting mode4 a t, p.bytes)
unfolding effect_of after answer is_out_of_range
quad_read_done s mode4 a t p quad can =
    let first : nat_le s.meaning.size p.at ≡ false = lt-leb s.meaning.size p.at (omega (arith, can.some, can.inside)) in
    let last : nat_lt s.meaning.size (p.at + length p.bytes) ≡ false = le-ltb s.meaning.size (p.at + length p.bytes) can.inside in
    rw (quad, first, last, can.there) refl

takes_read : (P : List ℕ → Type 0) (s : Setting) (c : Chip) (clocks bytes : List ℕ) → is_verify clocks ≡ true → effect s c clocks ≡ Ok (c, bytes) → P c.array
    → Takes P s c (Verify clocks bytes) c
unfolding step step_trail
takes_read P s c clocks bytes verifies given here = record {
  takes = rw (verifies, given, (bytes_eq-Decides bytes bytes).1 refl) refl;
  along = rw (verifies, given) (here, tt);
}

leads_read : (P : List ℕ → Type 0) (s : Setting) (c : Chip) (i : Instr) → mode_after i.what c.mode4 ≡ c.mode4
    → ((x : Step) → IsStepOf s.meaning c.mode4 i x → IsReadBy s.meaning c.mode4 i x) → is_read i.what ≡ true → 0 < (seen i).asked
    → effect_of s c (seen i) ≡ Ok (c, i.bytes) → P c.array → Leads P s c (i ∷ []) c
unfolding effect
leads_read P s c i mode by_read is_reading some given here = leads_one P s c c i mode (λ x is.
    let read = by_read x is in
    let verifies = read_verifies s.meaning c.mode4 read.clocks (seen i) read.spelled.decodes is_reading some in
    subst (λ (y : Step). Takes P s c y c) (sym read.read)
    (takes_read P s c read.clocks i.bytes verifies (ap (effect_if s c) read.spelled.decodes ∙ given) here))

-- the read of the strategy, whichever it is
single_read : (P : List ℕ → Type 0) (s : Setting) (mode4 : Bool) (a t : List ℕ) (p : Program) (i : Instr) → CanRead s.meaning p a → P a
    → Leads P s (resting mode4 a t) (record i { what = what.Read; address = p.at; bytes = p.bytes } ∷ []) (resting mode4 a t)
single_read P s mode4 a t p i can here =
    leads_read P s (resting mode4 a t) (record i { what = what.Read; address = p.at; bytes = p.bytes }) refl (λ x is. is) refl can.some (read_done s mode4 a t p can) here

quad_read : (P : List ℕ → Type 0) (s : Setting) (mode4 : Bool) (a t : List ℕ) (p : Program) (i : Instr) → s.start.quad ≡ true → CanRead s.meaning p a → P a
    → Leads P s (resting mode4 a t) (record i { what = what.QuadRead; address = p.at; bytes = p.bytes } ∷ []) (resting mode4 a t)
quad_read P s mode4 a t p i quad can here =
    leads_read P s (resting mode4 a t) (record i { what = what.QuadRead; address = p.at; bytes = p.bytes }) refl (λ x is. is) refl can.some (quad_read_done s mode4 a t p quad can) here

chosen_read : (P : List ℕ → Type 0) (s : Setting) (by : Strategy) (mode4 : Bool) (a t : List ℕ) (p : Program) (op dummies : ℕ) (long short : Bool)
    → (long ≡ true → s.start.quad ≡ true) → (short ≡ true → s.start.quad ≡ true) → CanRead s.meaning p a → P a
    → Leads P s (resting mode4 a t)
    ((if long then record { what = what.QuadRead; op = 0x6C; address = p.at; width = 4; dummies = dummies; bytes = p.bytes }
    else if short then at_address by what.QuadRead op 0x6C dummies p.at p.bytes
    else at_address by what.Read 0x03 0x13 0 p.at p.bytes) ∷ [])
    (resting mode4 a t)
chosen_read P s by mode4 a t p op dummies true short quad4 quad3 can here =
    quad_read P s mode4 a t p (record { what = what.QuadRead; op = 0x6C; address = p.at; width = 4; dummies = dummies; bytes = p.bytes }) (quad4 refl) can here
chosen_read P s by mode4 a t p op dummies false true quad4 quad3 can here =
    quad_read P s mode4 a t p (at_address by what.QuadRead op 0x6C dummies p.at p.bytes) (quad3 refl) can here
chosen_read P s by mode4 a t p op dummies false false quad4 quad3 can here =
    single_read P s mode4 a t p (at_address by what.Read 0x03 0x13 0 p.at p.bytes) can here

reads_there : (P : List ℕ → Type 0) (s : Setting) (by : Strategy) (mode4 : Bool) (a t : List ℕ) (p : Program) → CanRead s.meaning p a → P a
    → Leads P s (resting mode4 a t) (reading s.meaning s.start by p ∷ []) (resting mode4 a t)
reads_there P s by mode4 a t p can here =
    chosen_read P s by mode4 a t p (option_map_or (λ q. q.op) s.meaning.quad_read 0) (quad_read_dummies s.meaning)
    (s.start.quad && s.meaning.quad_read4) (s.start.quad && (is_some s.meaning.quad_read && not (takes_dedicated by p.at)))
    (λ h. (and_parts s.start.quad _ h).0) (λ h. (and_parts s.start.quad _ h).0) can here

-- the instructions of an operation do on a chip at rest what it does to the array
pub op_moves : (P : List ℕ → Type 0) (s : Setting) (by : Strategy) (mode4 : Bool) (op : Op) (a : List ℕ) → CanDo s.meaning s.page op a → P a → P (does op a)
    → Moves P s mode4 a (instructions s.meaning s.start by op) (does op a)
op_moves P s by mode4 (erases b) a can before after =
    let same : erased b.start (block_size s.meaning b.kind) a ≡ erased b.start b.size a = ap (λ n. erased b.start n a) (sym can.size) in
    record {
      after = drop 1;
      leads = λ t.
          subst (λ (d : List ℕ). Leads P s (resting mode4 a t) (instructions s.meaning s.start by (erases b)) (resting mode4 d (drop 1 t))) same
          (erases_there P s by mode4 a t b can.legal can.inside before (subst P (sym same) after));
    }
op_moves P s by mode4 (writes p) a can before after =
    let same = programmed_is_laid s.page p a can.in_page in
    let inside : p.at < s.meaning.size = omega (arith, can.some, can.inside) in
    record {
      after = drop 1;
      leads = λ t.
          subst (λ (d : List ℕ). Leads P s (resting mode4 a t) (instructions s.meaning s.start by (writes p)) (resting mode4 d (drop 1 t))) same
          (programs_there P s by mode4 a t p inside (not_barred s.meaning s.page p a can.in_page can.may) before (subst P (sym same) after));
    }
op_moves P s by mode4 (reads p) a can before after = record { after = λ t. t; leads = λ t. reads_there P s by mode4 a t p can before }

-- operations one after another, and what holds of the array all along
abbrev pub Chain : (List ℕ → Type 0) → Parameters → ℕ → List ℕ → List Op → List ℕ → Type 0
Chain P m page a [] b = a ≡ b
Chain P m page a (op ∷ ops) b = CanDo m page op a × P a × P (does op a) × Chain P m page (does op a) ops b

pub chain_then : (P : List ℕ → Type 0) (m : Parameters) (page : ℕ) (a b c : List ℕ) (ops more : List Op) → Chain P m page a ops b → Chain P m page b more c
    → Chain P m page a (ops ++ more) c
chain_then P m page a b c [] more first second = subst (λ (d : List ℕ). Chain P m page d more c) (sym first) second
chain_then P m page a b c (op ∷ ops) more first second =
    (first.0, first.1, first.2, chain_then P m page (does op a) b c ops more first.3 second)

pub ops_move : (P : List ℕ → Type 0) (s : Setting) (by : Strategy) (mode4 : Bool) (a b : List ℕ) (ops : List Op) → Chain P s.meaning s.page a ops b
    → Moves P s mode4 a (flat_map (instructions s.meaning s.start by) ops) b
ops_move P s by mode4 a b [] chain = subst (λ (d : List ℕ). Moves P s mode4 a [] d) chain (moves_none P s mode4 a)
ops_move P s by mode4 a b (op ∷ ops) chain =
    moves_then P s mode4 a (does op a) b (instructions s.meaning s.start by op) (flat_map (instructions s.meaning s.start by) ops)
    (op_moves P s by mode4 op a chain.0 chain.1 chain.2) (ops_move P s by mode4 (does op a) b ops chain.3)
