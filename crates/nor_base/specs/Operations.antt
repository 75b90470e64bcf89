-- Operations on an array, and the instructions that do them (opcodes as in the instruction table; which of them are taken is
-- this project's).
use Rattle.std.specs.Prelude.{ℕ, Bool, false, ◌+◌, ◌-◌, ◌/◌, not, ◌&&◌, if◌then◌else◌, List, [], ◌∷◌, ◌++◌, map, flat_map, Option, Some, None, is_some, bit_and, slice_index}
use Rattle.std.specs.Option.{option_map_or}
use Rattle.nor_base.specs.declared.instruction.What.{What}
use Rattle.nor_base.specs.declared.instruction.What.TheVariants as what
use Rattle.nor_base.specs.declared.meaning.Start.{Start}
use Rattle.nor_base.specs.declared.meaning.Strategy.{Strategy}
use Rattle.nor_base.specs.declared.meaning.Strategy.TheVariants.{S1, S2, S3, S4, S5}
use Rattle.nor_base.specs.declared.meaning.Switch.{Switch}
use Rattle.nor_base.specs.declared.meaning.Switch.TheVariants.{Absent, Plain, Latched}
use Rattle.nor_base.specs.Parameters.{Parameters, erase_kind}
use Rattle.nor_base.specs.Instructions.{dedicated, quad_read_dummies}
use Rattle.nor_base.specs.Array.{each}
use Rattle.nor_base.specs.Blocks.{Block}
use Rattle.nor_base.specs.Effect.{erased}
use Rattle.nor_base.specs.Strategies.{is_far}
use Rattle.nor_base.specs.Programs.{Program, holds, target_bytes}
use Rattle.nor_base.specs.Units.{WorkUnit, pages}
use Rattle.nor_base.specs.Spelling.{Instr}

pub data Op : Type 0 where
  erases : Block → Op
  writes : Program → Op
  -- these bytes are to be read there
  reads : Program → Op

-- what an operation does to an array: FFh over a block; each byte AND what was there; nothing
unfoldable pub laid : Program → List ℕ → List ℕ
laid p array = each (λ a old. if holds a p then bit_and old (slice_index p.bytes (a - p.at)) else old) array

abbrev pub does : Op → List ℕ → List ℕ
does (erases b) array = erased b.start b.size array
does (writes p) array = laid p array
does (reads p) array = array

-- the reads of a unit: an erased block page by page, a page over its programs
abbrev pub unit_reads : Parameters → List ℕ → WorkUnit → Option Block → List Op
unit_reads m want u (Some b) = map (λ start. reads (target_bytes want start (start + m.page))) (pages m.page b.start (b.size / m.page))
unit_reads m want u None = map reads u.programs

abbrev pub unit_erases : Option Block → List Op
unit_erases (Some b) = erases b ∷ []
unit_erases None = []

-- the operations of a unit: its erase, its programs, and where the work is verified its reads
abbrev pub unit_ops : Parameters → Bool → List ℕ → WorkUnit → List Op
unit_ops m verify want u = unit_erases u.erase ++ (map writes u.programs ++ (if verify then unit_reads m want u u.erase else []))

-- an instruction of an opcode alone
abbrev pub bare : What → ℕ → Instr
bare is op = record { what = is; op = op; address = 0; width = 0; dummies = 0; bytes = [] }

abbrev pub enable : Instr
enable = bare what.Enable 0x06

abbrev pub disable : Instr
disable = bare what.Disable 0x04

-- a status read, until it says idle
abbrev pub poll : Instr
poll = record (bare what.Status 0x05) { bytes = 0 ∷ [] }

-- an address takes an opcode that has four address bytes in each mode
abbrev pub takes_dedicated : Strategy → ℕ → Bool
takes_dedicated S1 a = false
takes_dedicated S2 a = false
takes_dedicated S3 a = is_far a
takes_dedicated S4 a = false
takes_dedicated S5 a = false

-- the address bytes of the other opcodes
abbrev pub legacy_width : Strategy → ℕ
legacy_width S1 = 4
legacy_width S2 = 3
legacy_width S3 = 3
legacy_width S4 = 4
legacy_width S5 = 3

-- an instruction at an address: by its dedicated opcode, or by its legacy one
abbrev pub at_address : Strategy → What → ℕ → ℕ → ℕ → ℕ → List ℕ → Instr
at_address by is op op4 dummies a bytes = record {
  what = is;
  op = if takes_dedicated by a then op4 else op;
  address = a;
  width = if takes_dedicated by a then 4 else legacy_width by;
  dummies = dummies;
  bytes = bytes;
}

abbrev pub erasing : Parameters → Strategy → Block → Instr
erasing m by b =
    at_address by (what.Erase b.kind) (option_map_or (λ erase. erase.op) (erase_kind m b.kind) 0)
    (option_map_or (λ op4. op4) (dedicated m b.kind) 0) 0 b.start []

-- with the quad setting by 34h where the chip has it, else by 32h where it has that and the address takes legacy opcodes;
-- else on one lane
abbrev pub programming : Parameters → Start → Strategy → Program → Instr
programming m start by p =
    if start.quad && m.quad4 then record { what = what.QuadProgram; op = 0x34; address = p.at; width = 4; dummies = 0; bytes = p.bytes }
    else if start.quad && (m.quad3 && not (takes_dedicated by p.at)) then at_address by what.QuadProgram 0x32 0x34 0 p.at p.bytes
    else at_address by what.Program 0x02 0x12 0 p.at p.bytes

-- with the quad setting by 6Ch where the chip has it, else by the chip's own quad read where it has one and the address takes
-- legacy opcodes; else on one lane
abbrev pub reading : Parameters → Start → Strategy → Program → Instr
reading m start by p =
    if start.quad && m.quad_read4 then record { what = what.QuadRead; op = 0x6C; address = p.at; width = 4; dummies = quad_read_dummies m; bytes = p.bytes }
    else if start.quad && (is_some m.quad_read && not (takes_dedicated by p.at))
    then at_address by what.QuadRead (option_map_or (λ q. q.op) m.quad_read 0) 0x6C (quad_read_dummies m) p.at p.bytes
    else at_address by what.Read 0x03 0x13 0 p.at p.bytes

-- the instructions of an operation: an erase or a program comes after the write enable, and is waited for
abbrev pub instructions : Parameters → Start → Strategy → Op → List Instr
instructions m start by (erases b) = enable ∷ erasing m by b ∷ poll ∷ []
instructions m start by (writes p) = enable ∷ programming m start by p ∷ poll ∷ []
instructions m start by (reads p) = reading m start by p ∷ []

-- a change of the address mode: after a write enable where the chip asks for it, and then the latch, which it may keep, is cleared
abbrev pub switching_by : Switch → What → ℕ → List Instr
switching_by Absent is op = []
switching_by Plain is op = bare is op ∷ []
switching_by Latched is op = enable ∷ bare is op ∷ disable ∷ []

abbrev pub entering : Parameters → Strategy → List Instr
entering m S1 = []
entering m S2 = []
entering m S3 = []
entering m S4 = switching_by m.enter what.Enter 0xB7
entering m S5 = []

abbrev pub leaving : Parameters → Strategy → List Instr
leaving m S1 = []
leaving m S2 = []
leaving m S3 = []
leaving m S4 = switching_by m.leave what.Leave 0xE9
leaving m S5 = []

-- the instructions of the operations: where there is one, the mode that the strategy needs is entered first and left last
abbrev pub lowered : Parameters → Start → Strategy → List Op → List Instr
lowered m start by [] = []
lowered m start by (op ∷ ops) = entering m by ++ (flat_map (instructions m start by) (op ∷ ops) ++ leaving m by)
