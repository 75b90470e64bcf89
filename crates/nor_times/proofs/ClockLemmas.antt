-- The clocks of instructions and of operations.
use Rattle.std.proofs.Common.{◌≡◌, ℕ, zero, suc, ◌+◌, ◌*◌, Bool, true, false, not, ◌&&◌, if◌then◌else◌, List, [], ◌∷◌, ◌++◌, length, refl, sym, ◌∙◌, ap, arith, length-append}
use Rattle.std.specs.Prelude.{flat_map, replicate, sum_by, is_some}
use Rattle.std.specs.Option.{option_map_or}
use Rattle.std.proofs.lemmas.List.{length-replicate}
use Rattle.std.proofs.lemmas.List.Sums.{sum_by-cons}
use Rattle.nor_base.specs.declared.instruction.What.{What}
use Rattle.nor_base.specs.declared.instruction.What.TheVariants as what
use Rattle.nor_base.specs.declared.meaning.Start.{Start}
use Rattle.nor_base.specs.declared.meaning.Strategy.{Strategy}
use Rattle.nor_base.specs.Parameters.{Parameters}
use Rattle.nor_base.specs.Blocks.{Block}
use Rattle.nor_base.specs.Clocks.{bits, address_bytes, body_clocks, clocks_of}
use Rattle.nor_base.specs.Instructions.{Form, nothing, sends, sends4, samples, samples4, form_of, quad_read_dummies}
use Rattle.nor_base.specs.Programs.{Program}
use Rattle.nor_base.specs.Spelling.{Instr}
use Rattle.nor_base.specs.Operations.{Op, erases, writes, reads, enable, poll, takes_dedicated, legacy_width, at_address, erasing, programming, reading, instructions}
use Rattle.nor_base.proofs.BitLaws.{length-all_bits, length-all_nibbles}
use Rattle.nor_steps.specs.Lines.{step_by, steps_of}
use Rattle.nor_times.specs.Bus.{step_clocks, steps_clocks, head4_clocks, head_clocks, erase_clocks, program_clocks, read_clocks, change_clocks}

abbrev pub instr_clocks : Instr → ℕ
instr_clocks i = length (clocks_of i)

-- the clocks of a step are its instruction's
clocks_step : (w : What) (i : Instr) → step_clocks (step_by w i) ≡ instr_clocks i
clocks_step what.Enable i = refl
clocks_step what.Disable i = refl
clocks_step what.Status i = refl
clocks_step what.Enter i = refl
clocks_step what.Leave i = refl
clocks_step (what.Erase kind) i = refl
clocks_step what.Program i = refl
clocks_step what.QuadProgram i = refl
clocks_step what.Read i = refl
clocks_step what.QuadRead i = refl
clocks_step what.Broken i = refl

pub clocks_steps : (these : List Instr) → steps_clocks (steps_of these) ≡ sum_by instr_clocks these
clocks_steps [] = refl
clocks_steps (i ∷ these) =
    sum_by-cons step_clocks (step_by i.what i) (steps_of these) ∙ ap (λ n. n + steps_clocks (steps_of these)) (clocks_step i.what i)
    ∙ ap (λ n. instr_clocks i + n) (clocks_steps these) ∙ sym (sum_by-cons instr_clocks i these)

length-address : (n a : ℕ) → length (address_bytes n a) ≡ n
length-address zero a = refl
length-address (suc n) a = omega (arith, length-address n a)

abbrev data_clocks : Form → ℕ → ℕ
data_clocks nothing n = 0
data_clocks sends n = 8 * n
data_clocks sends4 n = 2 * n
data_clocks samples n = 8 * n
data_clocks samples4 n = 2 * n

length-body : (f : Form) (bytes : List ℕ) → length (body_clocks f bytes) ≡ data_clocks f (length bytes)
length-body nothing bytes = refl
length-body sends bytes = length-all_bits bytes
length-body sends4 bytes = length-all_nibbles bytes
length-body samples bytes = length-replicate (8 * length bytes) 0x2E
length-body samples4 bytes = length-replicate (2 * length bytes) 0x3D

-- opcode and address, dummies, data
pub clocks_are : (i : Instr) → instr_clocks i ≡ 8 + 8 * i.width + (i.dummies + data_clocks (form_of i.what) (length i.bytes))
clocks_are i =
    let head = length-all_bits (i.op ∷ address_bytes i.width i.address) in
    let address = length-address i.width i.address in
    let both = length-append (flat_map bits (i.op ∷ address_bytes i.width i.address)) (replicate i.dummies 0x2D ++ body_clocks (form_of i.what) i.bytes) in
    let rest = length-append (replicate i.dummies 0x2D) (body_clocks (form_of i.what) i.bytes) in
    let dummies = length-replicate {A = ℕ} i.dummies 0x2D in
    let body = length-body (form_of i.what) i.bytes in
    omega (arith, head, address, both, rest, dummies, body)

width_head : (t : Bool) (w : ℕ) → 8 + 8 * (if t then 4 else w) ≡ (if t then head4_clocks else 8 + 8 * w)
width_head true w = refl
width_head false w = refl

at_clocks : (by : Strategy) (is : What) (op op4 dummies a : ℕ) (bytes : List ℕ)
    → instr_clocks (at_address by is op op4 dummies a bytes) ≡ head_clocks by a + (dummies + data_clocks (form_of is) (length bytes))
at_clocks by is op op4 dummies a bytes =
    clocks_are (at_address by is op op4 dummies a bytes)
    ∙ ap (λ n. n + (dummies + data_clocks (form_of is) (length bytes))) (width_head (takes_dedicated by a) (legacy_width by))

-- one of three
one_of : (b c : Bool) (x y z : Instr) (nx ny nz : ℕ) → instr_clocks x ≡ nx → instr_clocks y ≡ ny → instr_clocks z ≡ nz
    → instr_clocks (if b then x else if c then y else z) ≡ (if b then nx else if c then ny else nz)
one_of true c x y z nx ny nz first second third = first
one_of false true x y z nx ny nz first second third = second
one_of false false x y z nx ny nz first second third = third

no_dummies : (n d : ℕ) → n + (0 + d) ≡ n + d
no_dummies n d = omega arith

programming_clocks : (m : Parameters) (s : Start) (by : Strategy) (p : Program) → instr_clocks (programming m s by p) ≡ program_clocks m s by p.at (length p.bytes)
programming_clocks m s by p =
    one_of (s.quad && m.quad4) (s.quad && (m.quad3 && not (takes_dedicated by p.at))) _ _ _ _ _ _
    (clocks_are (record { what = what.QuadProgram; op = 0x34; address = p.at; width = 4; dummies = 0; bytes = p.bytes }) ∙ no_dummies 40 (2 * length p.bytes))
    (at_clocks by what.QuadProgram 0x32 0x34 0 p.at p.bytes ∙ no_dummies (head_clocks by p.at) (2 * length p.bytes))
    (at_clocks by what.Program 0x02 0x12 0 p.at p.bytes ∙ no_dummies (head_clocks by p.at) (8 * length p.bytes))

reading_clocks : (m : Parameters) (s : Start) (by : Strategy) (p : Program) → instr_clocks (reading m s by p) ≡ read_clocks m s by p.at (length p.bytes)
reading_clocks m s by p =
    one_of (s.quad && m.quad_read4) (s.quad && (is_some m.quad_read && not (takes_dedicated by p.at))) _ _ _ _ _ _
    (clocks_are (record { what = what.QuadRead; op = 0x6C; address = p.at; width = 4; dummies = quad_read_dummies m; bytes = p.bytes }))
    (at_clocks by what.QuadRead (option_map_or (λ q. q.op) m.quad_read 0) 0x6C (quad_read_dummies m) p.at p.bytes)
    (at_clocks by what.Read 0x03 0x13 0 p.at p.bytes ∙ no_dummies (head_clocks by p.at) (8 * length p.bytes))

-- of an operation
abbrev pub op_clocks : Parameters → Start → Strategy → Op → ℕ
op_clocks m s by op = sum_by instr_clocks (instructions m s by op)

changed : (i : Instr) (n : ℕ) → instr_clocks i ≡ n → sum_by instr_clocks (enable ∷ i ∷ poll ∷ []) ≡ change_clocks n
changed i n is =
    let first = clocks_are enable in
    let last = clocks_are poll in
    let sum = sum_by-cons instr_clocks enable (i ∷ poll ∷ []) in
    let sum' = sum_by-cons instr_clocks i (poll ∷ []) in
    let sum'' = sum_by-cons instr_clocks poll [] in
    omega (arith, is, first, last, sum, sum', sum'')

pub erases_clocks : (m : Parameters) (s : Start) (by : Strategy) (b : Block) → op_clocks m s by (erases b) ≡ erase_clocks by b.start
erases_clocks m s by b =
    changed (erasing m by b) (head_clocks by b.start) (at_clocks by (what.Erase b.kind) _ _ 0 b.start [] ∙ none (head_clocks by b.start))
  where
    none : (n : ℕ) → n + (0 + 0) ≡ n
    none n = omega arith

pub writes_clocks : (m : Parameters) (s : Start) (by : Strategy) (p : Program) → op_clocks m s by (writes p) ≡ change_clocks (program_clocks m s by p.at (length p.bytes))
writes_clocks m s by p = changed (programming m s by p) _ (programming_clocks m s by p)

pub reads_clocks : (m : Parameters) (s : Start) (by : Strategy) (p : Program) → op_clocks m s by (reads p) ≡ read_clocks m s by p.at (length p.bytes)
reads_clocks m s by p = sum_by-cons instr_clocks (reading m s by p) [] ∙ nothing_more (instr_clocks (reading m s by p)) ∙ reading_clocks m s by p
  where
    nothing_more : (n : ℕ) → n + 0 ≡ n
    nothing_more n = omega arith
