-- Reads by an opcode that has four address bytes in either mode (W25Q256JV datasheet: Read Data with 4-Byte Address 13h).
use Rattle.std.specs.Prelude.{◌≡◌, ◌≤◌, ◌<◌, ℕ, ◌+◌, ◌^◌, true, List, [], ◌∷◌, ◌++◌, length}
use Rattle.std.specs.List.{AllByRecursion, concat}
use Rattle.nor_base.specs.declared.meaning.Start.{Start}
use Rattle.nor_base.specs.Clocks.{address_bytes}
use Rattle.nor_base.specs.Parameters.{Parameters}
use Rattle.nor_loop.specs.Log.{Operation}
use Rattle.nor_loop.specs.Laws.{IsReading}
use Rattle.nor_loop.specs.Reads.{Chunk}

-- the opcode and the address bytes of such a read
abbrev pub four_bytes : ℕ → List ℕ
four_bytes at = 0x13 ∷ address_bytes 4 at

-- the reads by it that gave these pieces, one after the other from an address on
abbrev pub fours_from : ℕ → List (List ℕ) → List Operation
fours_from at [] = []
fours_from at (piece ∷ pieces) = record { sent = four_bytes at; got = piece } ∷ fours_from (at + length piece) pieces

-- the log reads each address of a chunk once by it, and this is what came back
pub record ReadsByFour (c : Chunk) (log : List Operation) : Type 0 where
  pub pieces : List (List ℕ)
  pub filled : AllByRecursion (λ piece. 0 < length piece) pieces
  pub whole : concat pieces ≡ c.bytes
  pub those : log ≡ fours_from c.at pieces

-- of a chip that has the opcode such reads read the chunk
abbrev pub FourReadsRead : Type 0
FourReadsRead = (m : Parameters) (start : Start) (c : Chunk) (log : List Operation) → m.size ≤ 2 ^ 32 → m.read4 ≡ true
    → c.at + length c.bytes ≤ m.size → ReadsByFour c log → IsReading m start c log

-- two readings one after the other are one
abbrev pub BothRead : Type 0
BothRead = (m : Parameters) (start : Start) (c : Chunk) (first again : List Operation) → IsReading m start c first
    → IsReading m start c again → IsReading m start c (first ++ again)
