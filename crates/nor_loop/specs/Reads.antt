-- The operations that read a chip (W25Q256JV datasheet: Read Data 03h, Read Data with 4-Byte Address 13h).
use Rattle.std.specs.Prelude.{◌≡◌, ℕ, Bool, true, false, ◌+◌, ◌^◌, ◌<◌, nat_lt, if◌then◌else◌, List, [], ◌∷◌, ◌++◌, length}
use Rattle.std.specs.List.{AllByRecursion, concat}
use Rattle.nor_base.specs.declared.meaning.Switch.{Switch}
use Rattle.nor_base.specs.declared.meaning.Switch.TheVariants.{Absent, Plain, Latched}
use Rattle.nor_base.specs.Clocks.{address_bytes}
use Rattle.nor_base.specs.Parameters.{Parameters}
use Rattle.nor_loop.specs.Log.{Operation}

-- the opcode and the address bytes of a read of so many bytes: 03h with the address bytes of the chip's mode, so that a chip in the
-- other mode gives other bytes or none; 13h for what three address bytes don't reach
abbrev pub read_bytes : Bool → ℕ → ℕ → List ℕ
read_bytes true at len = 0x03 ∷ address_bytes 4 at
read_bytes false at len = if nat_lt (2 ^ 24) (at + len) then 0x13 ∷ address_bytes 4 at else 0x03 ∷ address_bytes 3 at

-- the reads that gave these pieces, one after the other from an address on
abbrev pub reads_from : Bool → ℕ → List (List ℕ) → List Operation
reads_from mode4 at [] = []
reads_from mode4 at (piece ∷ pieces) =
    record { sent = read_bytes mode4 at (length piece); got = piece } ∷ reads_from mode4 (at + length piece) pieces

-- bytes from an address on
pub record Chunk : Type 0 where
  pub at : ℕ
  pub bytes : List ℕ

abbrev pub chunk : ℕ → List ℕ → Chunk
chunk at bytes = record { at = at; bytes = bytes }

-- the log reads each address of a chunk once, from its first on, and this is what came back
pub record ReadsPart (mode4 : Bool) (c : Chunk) (log : List Operation) : Type 0 where
  pub pieces : List (List ℕ)
  pub filled : AllByRecursion (λ piece. 0 < length piece) pieces
  pub whole : concat pieces ≡ c.bytes
  pub those : log ≡ reads_from mode4 c.at pieces

-- so it reads the whole chip
abbrev pub ReadsAll : Bool → List ℕ → List Operation → Type 0
ReadsAll mode4 content log = ReadsPart mode4 (chunk 0 content) log

-- an opcode alone
abbrev pub bare : ℕ → Operation
bare op = record { sent = op ∷ []; got = [] }

-- how four-byte mode is entered or left: where the chip asks for a write enable one is sent before, and the latch is cleared after it
abbrev pub switch_ops : Switch → ℕ → List Operation
switch_ops Absent op = []
switch_ops Plain op = bare op ∷ []
switch_ops Latched op = bare 0x06 ∷ bare op ∷ bare 0x04 ∷ []

-- the log enters four-byte mode, reads each address of a chunk once by 03h, and leaves the mode
pub record EntersAndReads (m : Parameters) (c : Chunk) (log : List Operation) : Type 0 where
  pub pieces : List (List ℕ)
  pub filled : AllByRecursion (λ piece. 0 < length piece) pieces
  pub whole : concat pieces ≡ c.bytes
  pub those : log ≡ switch_ops m.enter 0xB7 ++ (reads_from true c.at pieces ++ switch_ops m.leave 0xE9)
