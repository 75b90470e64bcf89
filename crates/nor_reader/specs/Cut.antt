-- Readings by pieces that are cut at known addresses (W25Q256JV datasheet: Read Data 03h, Read Data with 4-Byte Address 13h; the exchanges
-- are the Serial Flasher Protocol's).
use Rattle.std.specs.Prelude.{◌≡◌, ◌<◌, ℕ, min, List, [], ◌∷◌, ◌++◌, length, take, drop}
use Rattle.nor_base.specs.Wire.{Wire}
use Rattle.nor_loop.specs.Log.{Operation, HasLogged}
use Rattle.nor_loop.specs.Reads.{Chunk}
use Rattle.nor_reader.specs.Reads.{ops_from, Reads}
use Rattle.nor_reader.specs.Switched.{enter_ops, leave_ops}
use Rattle.nor_reader.specs.Twice.{IsEntered, IsFollowed, IsLeft, Twice}

-- bytes are cut into pieces: the first has so many bytes, each other one as many as a read asks for at most; what is left is the last
abbrev pub AreCut : ℕ → ℕ → List ℕ → List (List ℕ) → Type 0
AreCut first most bytes [] = bytes ≡ []
AreCut first most bytes (piece ∷ pieces) = (0 < length piece) × (piece ≡ take first bytes) × AreCut most most (drop first bytes) pieces

-- the log reads each address of a chunk once, from its first on, by pieces that are cut so, in four-byte mode where that is the way
pub record ReadsCut (first : ℕ) (r : Reads) (c : Chunk) (log : List Operation) : Type 0 where
  pub pieces : List (List ℕ)
  pub cut : AreCut first r.most c.bytes pieces
  pub those : log ≡ enter_ops r.by ++ (ops_from r.by c.at pieces ++ leave_ops r.by)

-- bytes were read by pieces that are cut so
pub record HasReadCut (first : ℕ) (r : Reads) (before after : Wire) (c : Chunk) : Type 0 where
  pub pieces : List (List ℕ)
  pub cut : AreCut first r.most c.bytes pieces
  pub wire : HasLogged before after (ops_from r.by c.at pieces)

-- and so they were read whole, in four-byte mode where that is the way
abbrev pub HasReadWholeCut : ℕ → Reads → Wire → Wire → Chunk → Type 0
HasReadWholeCut first r before after c = IsEntered r.by (IsFollowed (λ u v. HasReadCut first r u v c) (IsLeft r.by)) before after

-- by so many bytes further on a second reading is cut than the first
abbrev pub shift : ℕ
shift = 2

-- the exchanges were just two readings of a chunk, and both gave its bytes. The pieces of the second begin two bytes further
-- on, after the first two bytes
pub record ReadApart (t : Twice) (before after : Wire) (c : Chunk) : Type 0 where
  pub first : List Operation
  pub second : List Operation
  pub reads : ReadsCut t.first.most t.first c first
  pub rereads : ReadsCut (min shift t.again.most) t.again c second
  pub wire : HasLogged before after (first ++ second)
