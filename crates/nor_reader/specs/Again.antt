-- Bytes that were read are read again and compared (this project's).
use Rattle.std.specs.Prelude.{◌≡◌, ◌<◌, ◌≤◌, ℕ, ◌+◌, ◌^◌, List, [], ◌∷◌, length, slice_index, take, Option, Result, Ok, Err}
use Rattle.std.specs.List.{slice_range}
use Rattle.std.specs.Io.KnownBytes.{Appends}
use Rattle.nor_base.specs.Device.{Ahead}
use Rattle.nor_base.specs.Wire.{Wire, wire}
use Rattle.nor_reader.specs.declared.difference.Difference.{Difference}
use Rattle.nor_reader.specs.declared.difference.Mismatch.{Mismatch}
use Rattle.nor_reader.specs.declared.difference.Mismatch.TheVariants.{Exchange, Differs}
use Rattle.nor_serprog.specs.Exchange.{GivesOther}
use Rattle.nor_serprog.specs.Protocol.{request}
use Rattle.nor_loop.specs.Log.{HasLogged}
use Rattle.nor_loop.specs.Reads.{chunk, Chunk}
use Rattle.nor_reader.specs.Reads.{sent_by, read_op, HasReadChunk, Reads, StopsPiece}

-- the answer of one read came whole, and this is the first byte of it that is another than the one that was wanted
pub record FindsOther (r : Reads) (before after : Wire) (want : Chunk) (d : Difference) : Type 0 where
  pub short : length want.bytes < 2 ^ 24
  pub few : length want.bytes ≤ r.most
  pub out : Appends before.held after.held (request (sent_by r.by want.at (length want.bytes)) (length want.bytes))
  pub place : ℕ
  pub other : GivesOther before.ahead after.ahead want.bytes place d.chip
  pub address : d.address ≡ want.at + place
  pub wanted : d.want ≡ slice_index want.bytes place

-- such a read ended so
abbrev pub MissesPiece : Reads → Wire → Wire → Chunk → Mismatch → Type 0
MissesPiece r before after want (Exchange why) =
    (got : List ℕ) × (length got ≡ length want.bytes) × StopsPiece r before after (chunk want.at got) why
MissesPiece r before after want (Differs d) = FindsOther r before after want d

-- what such a read says
abbrev pub ReadsPiece : Reads → Wire → Wire → Result (Unit {0}) Mismatch → Chunk → Type 0
ReadsPiece r before after (Ok u) want = HasLogged before after (read_op r.by want.at want.bytes ∷ [])
ReadsPiece r before after (Err why) want = MissesPiece r before after want why

-- the first bytes of a chunk came again, and the next read ended so
pub record MissesOn (r : Reads) (before after : Wire) (c : Chunk) (why : Mismatch) : Type 0 where
  pub at : ℕ
  pub len : ℕ
  pub some : 0 < len
  pub within : at + len ≤ length c.bytes
  pub held : Option (List ℕ)
  pub ahead : Ahead
  pub alike : HasReadChunk r before (wire held ahead) (chunk c.at (take at c.bytes))
  pub stop : MissesPiece r (wire held ahead) after (chunk (c.at + at) (slice_range c.bytes at (at + len))) why

-- what reading a chunk again says
abbrev pub ReadsAgain : Reads → Wire → Wire → Result (Unit {0}) Mismatch → Chunk → Type 0
ReadsAgain r before after (Ok u) c = HasReadChunk r before after c
ReadsAgain r before after (Err why) c = MissesOn r before after c why
