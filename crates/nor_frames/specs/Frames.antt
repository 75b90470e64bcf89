-- The clocks of an instruction as it goes out.
use Rattle.std.specs.Prelude.{◌≡◌, ℕ, Bool, ◌*◌, List, [], ◌∷◌, ◌++◌, length, flat_map, replicate}
use Rattle.nor_base.specs.Parameters.{Parameters}
use Rattle.nor_base.specs.Spelling.{Instr, Spells}
use Rattle.nor_base.specs.Clocks.{bits, nibbles, address_bytes, HasRow, IsSendable}
use Rattle.nor_select.specs.Coded.{Load, plain, polled, sent, sent4, asked, asked4, Coded, coded}

-- the data clocks
abbrev pub load_clocks : Load → List ℕ
load_clocks plain = []
load_clocks (polled bytes) = replicate (8 * length bytes) 0x2E
load_clocks (sent bytes) = flat_map bits bytes
load_clocks (sent4 bytes) = flat_map nibbles bytes
load_clocks (asked bytes) = replicate (8 * length bytes) 0x2E
load_clocks (asked4 bytes) = replicate (2 * length bytes) 0x3D

-- how many they are
abbrev pub load_len : Load → ℕ
load_len plain = 0
load_len (polled bytes) = 8 * length bytes
load_len (sent bytes) = 8 * length bytes
load_len (sent4 bytes) = 2 * length bytes
load_len (asked bytes) = 8 * length bytes
load_len (asked4 bytes) = 2 * length bytes

-- opcode and address, the highest byte first
abbrev pub head_of : Coded → List ℕ
head_of i = i.op ∷ address_bytes i.width i.address

-- bytes on one lane, dummies, data
abbrev pub frame_by : List ℕ → ℕ → Load → List ℕ
frame_by head dummies load = flat_map bits head ++ (replicate dummies 0x2D ++ load_clocks load)

-- opcode, address, dummies, data
abbrev pub frame : Coded → List ℕ
frame i = frame_by (head_of i) i.dummies i.load

-- they spell the planned instruction that it codes, in each meaning and mode in which that is a row and fits its clocks
abbrev pub SpellsCoded : Coded → Type 0
SpellsCoded c = (m : Parameters) (mode4 : Bool) (i : Instr) → coded i ≡ c → HasRow m mode4 i → IsSendable i → Spells m mode4 i (frame c)
