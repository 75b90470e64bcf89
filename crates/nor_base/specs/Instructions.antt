-- The instruction table: which opcodes a chip of these parameters knows, how many address bytes and dummy clocks
-- follow, and what the data clocks are (W25Q256JV datasheet, "Instruction Set Table"; JESD216B for the erase kinds, the
-- 1-1-4 fast read and the four-byte address instructions).
use Rattle.std.specs.Prelude.{◌≡◌, ℕ, Bool, true, false, ◌&&◌, ◌==◌, if◌then◌else◌, List, [], ◌∷◌, ◌++◌, flat_map, Option, is_some, option_and_then, Contains, find}
use Rattle.std.specs.Option.{option_map_or}
use Rattle.nor_base.specs.declared.instruction.What.{What}
use Rattle.nor_base.specs.declared.instruction.What.TheVariants.{Enable, Disable, Status, Enter, Leave, Erase, Program, QuadProgram, Read, QuadRead}
use Rattle.nor_base.specs.declared.meaning.Switch.{Switch}
use Rattle.nor_base.specs.declared.meaning.Switch.TheVariants.{Absent}
use Rattle.nor_base.specs.Parameters.{Parameters, erase_kind, is_live}

-- what the clocks after address and dummies do
pub data Form : Type 0 where
  -- there are none
  nothing : Form
  -- bytes are sent on IO0, or on all four lanes
  sends : Form
  sends4 : Form
  -- bytes are sampled from IO1, or from all four lanes
  samples : Form
  samples4 : Form

abbrev pub form_of : What → Form
form_of Status = samples
form_of Program = sends
form_of QuadProgram = sends4
form_of Read = samples
form_of QuadRead = samples4
form_of other = nothing

-- a row of the instruction table
pub record Row : Type 0 where
  pub opcode : ℕ
  -- the chip knows the instruction
  pub offered : Bool
  pub what : What
  -- address bytes
  pub width : ℕ
  -- dummy clocks between address and data
  pub dummies : ℕ

abbrev pub row : ℕ → Bool → What → ℕ → Row
row opcode offered what width = record { opcode = opcode; offered = offered; what = what; width = width; dummies = 0 }

-- the address bytes of legacy opcodes, by the address mode
abbrev pub by_mode : Bool → ℕ
by_mode mode4 = if mode4 then 4 else 3

abbrev pub is_there : Switch → Bool
is_there Absent = false
is_there other = true

abbrev pub quad_read_dummies : Parameters → ℕ
quad_read_dummies m = option_map_or (λ q. q.dummies) m.quad_read 0

-- the instructions whose opcode is the same on every chip
abbrev pub common_rows : Parameters → Bool → List Row
common_rows m mode4 =
    row 0x06 true Enable 0
    ∷ row 0x04 true Disable 0
    ∷ row 0x05 true Status 0
    ∷ row 0xB7 (is_there m.enter) Enter 0
    ∷ row 0xE9 (is_there m.leave) Leave 0
    ∷ row 0x02 true Program (by_mode mode4)
    ∷ row 0x12 m.program4 Program 4
    ∷ row 0x32 m.quad3 QuadProgram (by_mode mode4)
    ∷ row 0x34 m.quad4 QuadProgram 4
    ∷ row 0x03 true Read (by_mode mode4)
    ∷ row 0x13 m.read4 Read 4
    ∷ record (row 0x6C (is_some m.quad_read && m.quad_read4) QuadRead 4) { dummies = quad_read_dummies m }
    ∷ []

-- the 1-1-4 fast read by the chip's own opcode
abbrev pub quad_read_row : Parameters → Bool → Row
quad_read_row m mode4 =
    record (row (option_map_or (λ q. q.op) m.quad_read 0) (is_some m.quad_read) QuadRead (by_mode mode4)) { dummies = quad_read_dummies m }

-- the opcode of an erase kind that takes four address bytes in each mode
abbrev pub dedicated : Parameters → ℕ → Option ℕ
dedicated m kind = option_and_then (λ erase. erase.op4) (erase_kind m kind)

-- a live kind's erase, by its legacy opcode and by its dedicated one
abbrev pub erase_rows : Parameters → Bool → ℕ → List Row
erase_rows m mode4 kind =
    row (option_map_or (λ erase. erase.op) (erase_kind m kind) 0) (is_live m kind) (Erase kind) (by_mode mode4)
    ∷ row (option_map_or (λ op4. op4) (dedicated m kind) 0) (is_live m kind && is_some (dedicated m kind)) (Erase kind) 4
    ∷ []

-- the instructions whose opcode is a chip's own
abbrev pub own_rows : Parameters → Bool → List Row
own_rows m mode4 = quad_read_row m mode4 ∷ flat_map (erase_rows m mode4) (1 ∷ 2 ∷ 3 ∷ 4 ∷ [])

-- the whole table, in an address mode
abbrev pub table : Parameters → Bool → List Row
table m mode4 = common_rows m mode4 ++ own_rows m mode4

-- a row of the table that the chip offers for an opcode
pub record IsRow (m : Parameters) (mode4 : Bool) (opcode : ℕ) (r : Row) : Type 0 where
  pub listed : Contains (table m mode4) r
  pub offered : r.offered ≡ true
  pub by_opcode : r.opcode ≡ opcode

-- the first such row
unfoldable pub row_of : Parameters → Bool → ℕ → Option Row
row_of m mode4 opcode = find (λ r. (opcode == r.opcode) && r.offered) (table m mode4)

-- the opcodes of the rows that are offered
abbrev pub offered_opcodes : List Row → List ℕ
offered_opcodes [] = []
offered_opcodes (r ∷ rows) = if r.offered then r.opcode ∷ offered_opcodes rows else offered_opcodes rows
