-- Reads of a chip, one after the other (W25Q256JV datasheet: Read Data 03h, Read Data with 4-Byte Address 13h; JESD216B: Read SFDP
-- 5Ah; the exchanges are the Serial Flasher Protocol's).
use Rattle.std.specs.Prelude.{◌≡◌, ◌<◌, ◌≤◌, ℕ, ◌+◌, ◌^◌, true, List, [], ◌∷◌, ◌++◌, length, Option, Err}
use Rattle.std.specs.List.{AllByRecursion, concat}
use Rattle.nor_base.specs.Device.{Ahead}
use Rattle.nor_base.specs.Wire.{Wire, wire}
use Rattle.nor_serprog.specs.declared.fault.Fault.{Fault}
use Rattle.nor_serprog.specs.Exchange.{Answers, Asks}
use Rattle.nor_serprog.specs.Protocol.{request}
use Rattle.nor_loop.specs.Four.{four_bytes}
use Rattle.nor_loop.specs.Log.{Operation, HasLogged}
use Rattle.nor_loop.specs.Reads.{chunk, read_bytes, Chunk}
use Rattle.nor_loop.specs.Tables.{table_bytes}
use Rattle.nor_reader.specs.declared.by.ReadBy.{ReadBy}
use Rattle.nor_reader.specs.declared.by.ReadBy.TheVariants.{Tables, Content, FourBytes, Entered}
use Rattle.nor_reader.specs.Switched.{enter_ops, leave_ops}

-- how a chip is read: by this instruction, no more than so many bytes in one read
pub record Reads : Type 0 where
  pub most : ℕ
  pub by : ReadBy

abbrev pub reads : ℕ → ReadBy → Reads
reads most by = record { most = most; by = by }

-- the bytes that are sent for a read of so many bytes from an address on
abbrev pub sent_by : ReadBy → ℕ → ℕ → List ℕ
sent_by Tables at len = table_bytes at
sent_by (Content mode4) at len = read_bytes mode4 at len
sent_by FourBytes at len = four_bytes at
sent_by (Entered enter leave) at len = read_bytes true at len

-- one read, and what it gave
abbrev pub read_op : ReadBy → ℕ → List ℕ → Operation
read_op by at piece = record { sent = sent_by by at (length piece); got = piece }

-- the reads that gave these pieces, one after the other from an address on
abbrev pub ops_from : ReadBy → ℕ → List (List ℕ) → List Operation
ops_from by at [] = []
ops_from by at (piece ∷ pieces) = read_op by at piece ∷ ops_from by (at + length piece) pieces

-- what one read gave: some bytes, and no more than that many
abbrev pub IsPiece : ℕ → List ℕ → Type 0
IsPiece most piece = (0 < length piece) × (length piece ≤ most)

-- the log reads each address of a chunk once, from its first on, in four-byte mode where that is the way, and this is what came back
pub record ReadsBy (r : Reads) (c : Chunk) (log : List Operation) : Type 0 where
  pub pieces : List (List ℕ)
  pub filled : AllByRecursion (IsPiece r.most) pieces
  pub whole : concat pieces ≡ c.bytes
  pub those : log ≡ enter_ops r.by ++ (ops_from r.by c.at pieces ++ leave_ops r.by)

-- a chunk was read: just these reads went out, and just its bytes came
pub record HasReadChunk (r : Reads) (before after : Wire) (c : Chunk) : Type 0 where
  pub pieces : List (List ℕ)
  pub filled : AllByRecursion (IsPiece r.most) pieces
  pub whole : concat pieces ≡ c.bytes
  pub wire : HasLogged before after (ops_from r.by c.at pieces)

-- bytes were read that follow those in front: just these reads went out, and just these bytes came
pub record HasReadOn (r : Reads) (before after : Wire) (front bytes : List ℕ) : Type 0 where
  pub pieces : List (List ℕ)
  pub filled : AllByRecursion (IsPiece r.most) pieces
  pub whole : front ++ concat pieces ≡ bytes
  pub wire : HasLogged before after (ops_from r.by (length front) pieces)

-- the exchange of one read ended so
abbrev pub StopsPiece : Reads → Wire → Wire → Chunk → Fault → Type 0
StopsPiece r before after got why =
    (length got.bytes < 2 ^ 24) × (length got.bytes ≤ r.most)
    × Asks before after (Err why) (request (sent_by r.by got.at (length got.bytes)) (length got.bytes))
    (Answers before.ahead after.ahead (Err why) got.bytes)

-- some of the bytes that follow those in front were read, and the exchange of the next read ended so
pub record StopsOn (r : Reads) (before after : Wire) (front : List ℕ) (why : Fault) : Type 0 where
  pub so_far : List ℕ
  pub held : Option (List ℕ)
  pub ahead : Ahead
  pub read : HasReadOn r before (wire held ahead) front so_far
  pub got : List ℕ
  pub stop : StopsPiece r (wire held ahead) after (chunk (length so_far) got) why
