-- The steps of planned instructions: they spell them, and a script may have them.
use Rattle.std.proofs.Common.{◌≡◌, ℕ, zero, suc, ◌+◌, ◌*◌, ◌/◌, ◌%◌, ◌^◌, ◌<◌, ◌&&◌, not, Bool, true, false, if◌then◌else◌, List, [], ◌∷◌, ◌++◌, length, refl, ap, arith}
use Rattle.std.specs.Prelude.{⊤, flat_map, is_some, replicate}
use Rattle.std.specs.List.{list_all, AllByRecursion}
use Rattle.std.proofs.lemmas.Bool.{and_parts, agree_below_at}
use Rattle.nor_base.specs.declared.instruction.What.{What}
use Rattle.nor_base.specs.declared.instruction.What.TheVariants as what
use Rattle.nor_base.specs.declared.meaning.Start.{Start}
use Rattle.nor_base.specs.declared.meaning.Strategy.{Strategy}
use Rattle.nor_base.specs.declared.meaning.Strategy.TheVariants.{S1, S2, S3, S4, S5}
use Rattle.nor_base.specs.declared.meaning.Switch.{Switch}
use Rattle.nor_base.specs.declared.meaning.Switch.TheVariants.{Absent, Plain, Latched}
use Rattle.nor_base.specs.declared.step.Step.TheVariants.{Poll}
use Rattle.nor_base.specs.Array.{are_bytes, is_filled}
use Rattle.nor_base.specs.Clocks.{bits, nibbles, head_bytes, body_clocks, clocks_of, CanCarry, CanAllBeSpelled}
use Rattle.nor_base.specs.Instructions.{Form, nothing, sends, sends4, samples, samples4, form_of}
use Rattle.nor_base.specs.Parameters.{Parameters}
use Rattle.nor_base.specs.Programs.{Program}
use Rattle.nor_base.specs.Operations.{Op, erases, writes, reads, takes_dedicated, instructions, programming, reading, switching_by, entering, leaving, lowered}
use Rattle.nor_base.specs.Run.{poll_clocks}
use Rattle.nor_base.specs.Sample.{is_symbol}
use Rattle.nor_base.specs.Spelling.{Instr, Spells, IsStepBy, AreStepsOf, mode_after}
use Rattle.nor_base.specs.Step.{are_clocks, IsStep}
use Rattle.nor_laws.specs.Spelling.{HasSpelling}
use Rattle.nor_steps.specs.Lines.{step_by, steps_of}
use Rattle.nor_base.proofs.ListLaws.{all_append}

-- a status read is the poll, and what is sent or read are bytes
abbrev IsPollBy : What → Instr → Type 0
IsPollBy what.Status i = clocks_of i ≡ poll_clocks
IsPollBy other i = ⊤

pub record IsPlain (i : Instr) : Type 0 where
  pub poll : IsPollBy i.what i
  pub bytes : are_bytes i.bytes ≡ true

plain_if : (b : Bool) (x y : Instr) → IsPlain x → IsPlain y → IsPlain (if b then x else y)
plain_if true x y p q = p
plain_if false x y p q = q

-- the bytes of an operation
abbrev pub AreOpBytes : Op → Type 0
AreOpBytes (erases b) = ⊤
AreOpBytes (writes p) = are_bytes p.bytes ≡ true
AreOpBytes (reads p) = are_bytes p.bytes ≡ true

plain_programming : (m : Parameters) (start : Start) (by : Strategy) (p : Program) → are_bytes p.bytes ≡ true → IsPlain (programming m start by p)
plain_programming m start by p are =
    plain_if (start.quad && m.quad4) _ _ (record { poll = tt; bytes = are })
    (plain_if (start.quad && (m.quad3 && not (takes_dedicated by p.at))) _ _ (record { poll = tt; bytes = are }) (record { poll = tt; bytes = are }))

plain_reading : (m : Parameters) (start : Start) (by : Strategy) (p : Program) → are_bytes p.bytes ≡ true → IsPlain (reading m start by p)
plain_reading m start by p are =
    plain_if (start.quad && m.quad_read4) _ _ (record { poll = tt; bytes = are })
    (plain_if (start.quad && (is_some m.quad_read && not (takes_dedicated by p.at))) _ _ (record { poll = tt; bytes = are }) (record { poll = tt; bytes = are }))

plain_op : (m : Parameters) (start : Start) (by : Strategy) (op : Op) → AreOpBytes op → AllByRecursion IsPlain (instructions m start by op)
unfolding bits
plain_op m start by (erases b) are = (record { poll = tt; bytes = refl }, (record { poll = tt; bytes = refl }, (record { poll = refl; bytes = refl }, tt)))
plain_op m start by (writes p) are = (record { poll = tt; bytes = refl }, (plain_programming m start by p are, (record { poll = refl; bytes = refl }, tt)))
plain_op m start by (reads p) are = (plain_reading m start by p are, tt)

plain_ops : (m : Parameters) (start : Start) (by : Strategy) (ops : List Op) → AllByRecursion AreOpBytes ops → AllByRecursion IsPlain (flat_map (instructions m start by) ops)
plain_ops m start by [] are = tt
plain_ops m start by (op ∷ ops) are = all_append IsPlain (instructions m start by op) _ (plain_op m start by op are.0) (plain_ops m start by ops are.1)

plain_enter : (s : Switch) (op : ℕ) → AllByRecursion IsPlain (switching_by s what.Enter op)
plain_enter Absent op = tt
plain_enter Plain op = (record { poll = tt; bytes = refl }, tt)
plain_enter Latched op = (record { poll = tt; bytes = refl }, (record { poll = tt; bytes = refl }, (record { poll = tt; bytes = refl }, tt)))

plain_leave : (s : Switch) (op : ℕ) → AllByRecursion IsPlain (switching_by s what.Leave op)
plain_leave Absent op = tt
plain_leave Plain op = (record { poll = tt; bytes = refl }, tt)
plain_leave Latched op = (record { poll = tt; bytes = refl }, (record { poll = tt; bytes = refl }, (record { poll = tt; bytes = refl }, tt)))

plain_entering : (m : Parameters) (by : Strategy) → AllByRecursion IsPlain (entering m by)
plain_entering m S1 = tt
plain_entering m S2 = tt
plain_entering m S3 = tt
plain_entering m S4 = plain_enter m.enter 0xB7
plain_entering m S5 = tt

plain_leaving : (m : Parameters) (by : Strategy) → AllByRecursion IsPlain (leaving m by)
plain_leaving m S1 = tt
plain_leaving m S2 = tt
plain_leaving m S3 = tt
plain_leaving m S4 = plain_leave m.leave 0xE9
plain_leaving m S5 = tt

pub plain_lowered : (m : Parameters) (start : Start) (by : Strategy) (ops : List Op) → AllByRecursion AreOpBytes ops → AllByRecursion IsPlain (lowered m start by ops)
plain_lowered m start by [] are = tt
plain_lowered m start by (op ∷ ops) are =
    all_append IsPlain (entering m by) _ (plain_entering m by)
    (all_append IsPlain (flat_map (instructions m start by) (op ∷ ops)) _ (plain_ops m start by (op ∷ ops) are) (plain_leaving m by))

-- the steps of instructions that are plain and can be spelled spell them
is_step_by : (m : Parameters) (mode4 : Bool) (i : Instr) (is : What) → IsPollBy is i → Spells m mode4 i (clocks_of i) → IsStepBy m mode4 i is (step_by is i)
is_step_by m mode4 i what.Enable poll spelled = record { clocks = clocks_of i; spelled = spelled; sent = refl }
is_step_by m mode4 i what.Disable poll spelled = record { clocks = clocks_of i; spelled = spelled; sent = refl }
is_step_by m mode4 i what.Status poll spelled = ap Poll poll
is_step_by m mode4 i what.Enter poll spelled = record { clocks = clocks_of i; spelled = spelled; sent = refl }
is_step_by m mode4 i what.Leave poll spelled = record { clocks = clocks_of i; spelled = spelled; sent = refl }
is_step_by m mode4 i (what.Erase kind) poll spelled = record { clocks = clocks_of i; spelled = spelled; sent = refl }
is_step_by m mode4 i what.Program poll spelled = record { clocks = clocks_of i; spelled = spelled; sent = refl }
is_step_by m mode4 i what.QuadProgram poll spelled = record { clocks = clocks_of i; spelled = spelled; sent = refl }
is_step_by m mode4 i what.Read poll spelled = record { clocks = clocks_of i; spelled = spelled; read = refl }
is_step_by m mode4 i what.QuadRead poll spelled = record { clocks = clocks_of i; spelled = spelled; read = refl }
is_step_by m mode4 i what.Broken poll spelled = record { clocks = clocks_of i; spelled = spelled; sent = refl }

pub steps_spell : HasSpelling → (m : Parameters) (mode4 : Bool) (these : List Instr) → AllByRecursion IsPlain these → CanAllBeSpelled m mode4 these
    → AreStepsOf m mode4 these (steps_of these)
steps_spell law m mode4 [] plain can = tt
steps_spell law m mode4 (i ∷ these) plain can =
    (is_step_by m mode4 i i.what plain.0.poll (law m mode4 i can.0.row can.0.fits), steps_spell law m (mode_after i.what mode4) these plain.1 can.1)

-- each clock is a symbol
all_join : (p : ℕ → Bool) (xs ys : List ℕ) → list_all p xs ≡ true → list_all p ys ≡ true → list_all p (xs ++ ys) ≡ true
all_join p [] ys first second = second
all_join p (x ∷ xs) ys first second =
    let parts = and_parts (p x) (list_all p xs) first in
    rw (parts.0, all_join p xs ys parts.1 second) refl

all_same : (p : ℕ → Bool) (n x : ℕ) → p x ≡ true → list_all p (replicate n x) ≡ true
all_same p zero x is = refl
all_same p (suc n) x is = rw (is, all_same p n x is) refl

some_bit : (n : ℕ) → is_symbol (0x30 + n % 2) ≡ true
some_bit n = by_rest (n % 2) (omega arith)
  where
    by_rest : (r : ℕ) → r < 2 → is_symbol (0x30 + r) ≡ true
    by_rest r small = agree_below_at (λ k. is_symbol (0x30 + k)) (λ k. true) 2 r refl small

some_nibble : (n : ℕ) → is_symbol (0x61 + n % 16) ≡ true
some_nibble n = by_rest (n % 16) (omega arith)
  where
    by_rest : (r : ℕ) → r < 16 → is_symbol (0x61 + r) ≡ true
    by_rest r small = agree_below_at (λ k. is_symbol (0x61 + k)) (λ k. true) 16 r refl small

bits_symbols : (byte : ℕ) → list_all is_symbol (bits byte) ≡ true
unfolding bits
bits_symbols byte =
    rw (some_bit (byte / 2 ^ 7), some_bit (byte / 2 ^ 6), some_bit (byte / 2 ^ 5), some_bit (byte / 2 ^ 4), some_bit (byte / 2 ^ 3), some_bit (byte / 2 ^ 2), some_bit (byte / 2 ^ 1), some_bit (byte / 2 ^ 0)) refl

nibbles_symbols : (byte : ℕ) → list_all is_symbol (nibbles byte) ≡ true
unfolding nibbles
nibbles_symbols byte = rw (some_nibble (byte / 16), some_nibble byte) refl

flat_symbols : (f : ℕ → List ℕ) → ((byte : ℕ) → list_all is_symbol (f byte) ≡ true) → (bytes : List ℕ) → list_all is_symbol (flat_map f bytes) ≡ true
flat_symbols f each [] = refl
flat_symbols f each (b ∷ bytes) = all_join is_symbol (f b) (flat_map f bytes) (each b) (flat_symbols f each bytes)

body_symbols : (form : Form) (bytes : List ℕ) → list_all is_symbol (body_clocks form bytes) ≡ true
body_symbols nothing bytes = refl
body_symbols sends bytes = flat_symbols bits bits_symbols bytes
body_symbols sends4 bytes = flat_symbols nibbles nibbles_symbols bytes
body_symbols samples bytes = all_same is_symbol (8 * length bytes) 0x2E refl
body_symbols samples4 bytes = all_same is_symbol (2 * length bytes) 0x3D refl

filled_clocks : (i : Instr) → is_filled (clocks_of i) ≡ true
unfolding bits
filled_clocks i = refl

clocks_are : (i : Instr) → are_clocks (clocks_of i) ≡ true
clocks_are i =
    let symbols : list_all is_symbol (clocks_of i) ≡ true =
    all_join is_symbol (flat_map bits (head_bytes i)) _ (flat_symbols bits bits_symbols (head_bytes i))
    (all_join is_symbol (replicate i.dummies 0x2D) _ (all_same is_symbol i.dummies 0x2D refl) (body_symbols (form_of i.what) i.bytes)) in
    rw (filled_clocks i, symbols) refl

filled_some : (bytes : List ℕ) → 0 < length bytes → is_filled bytes ≡ true
filled_some [] some = absurd (omega (arith, some))
filled_some (b ∷ bytes) some = refl

step_is_by : (i : Instr) (is : What) → CanCarry (form_of is) i.bytes → are_bytes i.bytes ≡ true → IsStep (step_by is i)
step_is_by i what.Enable carried are = record { passes = clocks_are i; bytes = refl }
step_is_by i what.Disable carried are = record { passes = clocks_are i; bytes = refl }
step_is_by i what.Status carried are = record { passes = clocks_are i; bytes = refl }
step_is_by i what.Enter carried are = record { passes = clocks_are i; bytes = refl }
step_is_by i what.Leave carried are = record { passes = clocks_are i; bytes = refl }
step_is_by i (what.Erase kind) carried are = record { passes = clocks_are i; bytes = refl }
step_is_by i what.Program carried are = record { passes = clocks_are i; bytes = refl }
step_is_by i what.QuadProgram carried are = record { passes = clocks_are i; bytes = refl }
step_is_by i what.Read carried are = record { passes = rw (clocks_are i, filled_some i.bytes carried) refl; bytes = are }
step_is_by i what.QuadRead carried are = record { passes = rw (clocks_are i, filled_some i.bytes carried) refl; bytes = are }
step_is_by i what.Broken carried are = record { passes = clocks_are i; bytes = refl }

-- and each is a step that a script may have
pub steps_pass : (m : Parameters) (mode4 : Bool) (these : List Instr) → AllByRecursion IsPlain these → CanAllBeSpelled m mode4 these → AllByRecursion IsStep (steps_of these)
steps_pass m mode4 [] plain can = tt
steps_pass m mode4 (i ∷ these) plain can =
    (step_is_by i i.what can.0.fits.carried plain.0.bytes, steps_pass m (mode_after i.what mode4) these plain.1 can.1)
