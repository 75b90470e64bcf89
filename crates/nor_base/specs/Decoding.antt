-- Which instruction the clocks of a transaction are (W25Q256JV datasheet, "Standard SPI Instructions" in mode 0,
-- "Quad Input Page Program" and "Fast Read Quad Output": opcode, address and single data
-- most significant bit first on IO0, single output on IO1; in quad data each clock carries four bits, IO3 the highest,
-- the high nibble first).
use Rattle.std.specs.Prelude.{ℕ, Bool, false, ◌+◌, ◌*◌, ◌/◌, ◌%◌, ◌^◌, ◌==◌, nat_le, nat_lt, ◌&&◌, if◌then◌else◌, List, [], ◌∷◌, length, take, drop, Option, None, option_map}
use Rattle.std.specs.List.{list_all}
use Rattle.std.specs.Option.{option_map_or}
use Rattle.nor_base.specs.declared.instruction.What.{What}
use Rattle.nor_base.specs.declared.instruction.What.TheVariants as what
use Rattle.nor_base.specs.Sample.{IO0, IO1, IO2, IO3, all_lanes, sample_at}
use Rattle.nor_base.specs.Parameters.{Parameters}
use Rattle.nor_base.specs.Instructions.{Form, nothing, sends, sends4, samples, samples4, form_of, Row, row_of}

-- the clock drives just the lanes of one mask and samples just those of the other
abbrev pub has_lanes : ℕ → ℕ → ℕ → Bool
has_lanes driven sampled symbol =
    option_map_or (λ sample. (sample.driven == driven) && (sample.sampled == sampled)) (sample_at symbol) false

-- a bit is sent on IO0; a nibble on all four lanes; a bit is sampled from IO1; a nibble from all four; none of these
unfoldable pub is_bit_sent : ℕ → Bool
is_bit_sent = has_lanes (IO0 + IO2 + IO3) 0

unfoldable pub is_nibble_sent : ℕ → Bool
is_nibble_sent = has_lanes all_lanes 0

unfoldable pub is_bit_sampled : ℕ → Bool
is_bit_sampled = has_lanes (IO2 + IO3) IO1

unfoldable pub is_nibble_sampled : ℕ → Bool
is_nibble_sampled = has_lanes 0 all_lanes

unfoldable pub is_idle : ℕ → Bool
is_idle = has_lanes 0 0

-- the lanes that a clock drives high, as a mask: the levels of all four as a number
abbrev pub nibble : ℕ → ℕ
nibble symbol = option_map_or (λ sample. sample.level) (sample_at symbol) 0

-- the level of IO0
unfoldable pub bit : ℕ → ℕ
bit symbol = nibble symbol % 2

-- the number that bits stand for, each by its weight, the first the highest
abbrev pub number : List ℕ → ℕ
number [] = 0
number (symbol ∷ symbols) = bit symbol * 2 ^ length symbols + number symbols

-- the bytes that bits stand for, eight clocks each
abbrev pub bytes_of_bits : List ℕ → List ℕ
bytes_of_bits (a ∷ b ∷ c ∷ d ∷ e ∷ f ∷ g ∷ h ∷ more) = number (a ∷ b ∷ c ∷ d ∷ e ∷ f ∷ g ∷ h ∷ []) ∷ bytes_of_bits more
bytes_of_bits fewer = []

-- the bytes that nibbles stand for, two clocks each
abbrev pub bytes_of_nibbles : List ℕ → List ℕ
bytes_of_nibbles (high ∷ low ∷ more) = (16 * nibble high + nibble low) ∷ bytes_of_nibbles more
bytes_of_nibbles fewer = []

-- groups of so many clocks, at least one
abbrev pub are_groups : ℕ → List ℕ → Bool
are_groups n clocks = nat_lt 0 (length clocks) && (length clocks % n == 0)

-- the data clocks are of a form
unfoldable pub is_data : Form → List ℕ → Bool
is_data nothing clocks = length clocks == 0
is_data sends clocks = are_groups 8 clocks && list_all is_bit_sent clocks
is_data sends4 clocks = are_groups 2 clocks && list_all is_nibble_sent clocks
is_data samples clocks = are_groups 8 clocks && list_all is_bit_sampled clocks
is_data samples4 clocks = are_groups 2 clocks && list_all is_nibble_sampled clocks

-- of the clocks after the opcode, those of the address, the dummies and the data
abbrev pub address_clocks : Row → List ℕ → List ℕ
address_clocks r rest = take (8 * r.width) rest

abbrev pub dummy_clocks : Row → List ℕ → List ℕ
dummy_clocks r rest = take r.dummies (drop (8 * r.width) rest)

abbrev pub data_clocks : Row → List ℕ → List ℕ
data_clocks r rest = drop r.dummies (drop (8 * r.width) rest)

-- the clocks after the opcode are just those of the row
unfoldable pub is_form : Row → List ℕ → Bool
is_form r rest =
    nat_le (8 * r.width + r.dummies) (length rest)
    && (list_all is_bit_sent (address_clocks r rest)
    && (list_all is_idle (dummy_clocks r rest)
    && is_data (form_of r.what) (data_clocks r rest)))

-- what a transaction is: an instruction, the address that it names (0 where it names none), and its data clocks
pub record Transaction : Type 0 where
  pub what : What
  pub address : ℕ
  pub body : List ℕ

-- a known opcode in another form than its row's: no address, no data
abbrev pub broken : Transaction
broken = record { what = what.Broken; address = 0; body = [] }

-- by its row and the clocks after the opcode
unfoldable pub by_row : List ℕ → Row → Transaction
by_row rest r =
    if is_form r rest then record { what = r.what; address = number (address_clocks r rest); body = data_clocks r rest }
    else broken

-- the first eight clocks are bits
unfoldable pub has_opcode : List ℕ → Bool
has_opcode clocks = nat_le 8 (length clocks) && list_all is_bit_sent (take 8 clocks)

abbrev pub opcode : List ℕ → ℕ
opcode clocks = number (take 8 clocks)

-- what the clocks are in an address mode; None where they have no opcode that the chip knows
unfoldable pub transaction : Parameters → Bool → List ℕ → Option Transaction
transaction m mode4 clocks =
    if has_opcode clocks then option_map (by_row (drop 8 clocks)) (row_of m mode4 (opcode clocks)) else None

-- the bytes that data clocks send
abbrev pub bytes_sent : Form → List ℕ → List ℕ
bytes_sent sends body = bytes_of_bits body
bytes_sent sends4 body = bytes_of_nibbles body
bytes_sent other body = []

-- how many bytes data clocks sample
abbrev pub bytes_asked : Form → List ℕ → ℕ
bytes_asked samples body = length body / 8
bytes_asked samples4 body = length body / 2
bytes_asked other body = 0

-- an instruction as the chip sees it
pub record Instruction : Type 0 where
  pub what : What
  pub address : ℕ
  -- the bytes sent, and the number of bytes sampled
  pub sent : List ℕ
  pub asked : ℕ

abbrev pub instruction : Transaction → Instruction
instruction t = record {
  what = t.what;
  address = t.address;
  sent = bytes_sent (form_of t.what) t.body;
  asked = bytes_asked (form_of t.what) t.body;
}

-- the instruction that the clocks are
unfoldable pub decode : Parameters → Bool → List ℕ → Option Instruction
decode m mode4 clocks = option_map instruction (transaction m mode4 clocks)
