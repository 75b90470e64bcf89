-- The clocks of an instruction (W25Q256JV datasheet, "Standard SPI Instructions", "Quad Input Page Program" and "Fast Read Quad
-- Output": opcode and address on IO0, most significant bit and highest byte first; dummy clocks; then the data, on one lane or
-- on four, where each clock carries a nibble, the high one first).
use Rattle.std.specs.Prelude.{◌≡◌, ℕ, zero, suc, Bool, true, ◌+◌, ◌*◌, ◌/◌, ◌%◌, ◌^◌, ◌<◌, List, [], ◌∷◌, ◌++◌, length, flat_map, replicate, Some}
use Rattle.nor_base.specs.Array.{are_bytes}
use Rattle.nor_base.specs.Parameters.{Parameters}
use Rattle.nor_base.specs.Instructions.{Form, nothing, sends, sends4, samples, samples4, form_of, Row, row_of}
use Rattle.nor_base.specs.Spelling.{Instr, mode_after}

-- the symbol of bit k of a byte: `0` or `1`
abbrev pub bit_symbol : ℕ → ℕ → ℕ
bit_symbol byte k = 0x30 + (byte / 2 ^ k) % 2

-- the eight symbols that send a byte on one lane, bit 7 first
unfoldable pub bits : ℕ → List ℕ
bits byte =
    bit_symbol byte 7 ∷ bit_symbol byte 6 ∷ bit_symbol byte 5 ∷ bit_symbol byte 4
    ∷ bit_symbol byte 3 ∷ bit_symbol byte 2 ∷ bit_symbol byte 1 ∷ bit_symbol byte 0 ∷ []

-- the two symbols that send a byte on four lanes, the high nibble first: `a` is 0, `p` is 15
unfoldable pub nibbles : ℕ → List ℕ
nibbles byte = (0x61 + byte / 16 % 16) ∷ (0x61 + byte % 16) ∷ []

-- so many bytes of an address, the highest first
abbrev pub address_bytes : ℕ → ℕ → List ℕ
address_bytes zero address = []
address_bytes (suc n) address = (address / 2 ^ (8 * n)) % 256 ∷ address_bytes n address

-- the opcode and the address bytes
abbrev pub head_bytes : Instr → List ℕ
head_bytes i = i.op ∷ address_bytes i.width i.address

-- the data clocks: bytes sent, or as many sampled
abbrev pub body_clocks : Form → List ℕ → List ℕ
body_clocks nothing bytes = []
body_clocks sends bytes = flat_map bits bytes
body_clocks sends4 bytes = flat_map nibbles bytes
body_clocks samples bytes = replicate (8 * length bytes) 0x2E
body_clocks samples4 bytes = replicate (2 * length bytes) 0x3D

-- opcode, address, dummies, data
abbrev pub clocks_of : Instr → List ℕ
clocks_of i = flat_map bits (head_bytes i) ++ (replicate i.dummies 0x2D ++ body_clocks (form_of i.what) i.bytes)

-- the opcode has a row that says of the instruction what it says of itself
pub record HasRow (m : Parameters) (mode4 : Bool) (i : Instr) : Type 0 where
  pub r : Row
  pub found : row_of m mode4 i.op ≡ Some r
  pub its_what : r.what ≡ i.what
  pub its_width : r.width ≡ i.width
  pub its_dummies : r.dummies ≡ i.dummies

-- data clocks can carry the bytes
abbrev pub CanCarry : Form → List ℕ → Type 0
CanCarry nothing bytes = Unit {0}
CanCarry sends bytes = (0 < length bytes) × (are_bytes bytes ≡ true)
CanCarry sends4 bytes = (0 < length bytes) × (are_bytes bytes ≡ true)
CanCarry samples bytes = 0 < length bytes
CanCarry samples4 bytes = 0 < length bytes

-- the instruction fits its clocks
pub record IsSendable (i : Instr) : Type 0 where
  pub op : i.op < 256
  pub address : i.address < 2 ^ (8 * i.width)
  pub carried : CanCarry (form_of i.what) i.bytes

-- the chip has the instruction, and it fits its clocks
pub record CanBeSpelled (m : Parameters) (mode4 : Bool) (i : Instr) : Type 0 where
  pub row : HasRow m mode4 i
  pub fits : IsSendable i

-- so it is with each of some instructions, in the mode at its place
abbrev pub CanAllBeSpelled : Parameters → Bool → List Instr → Type 0
CanAllBeSpelled m mode4 [] = Unit {0}
CanAllBeSpelled m mode4 (i ∷ more) = CanBeSpelled m mode4 i × CanAllBeSpelled m (mode_after i.what mode4) more
