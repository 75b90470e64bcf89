-- What the chip behind a device holds, compared with a content (this project's; the exchanges are the Serial Flasher Protocol's).
use Rattle.std.specs.Prelude.{◌≡◌, ◌⊎◌, ◌↔◌, ℕ, ◌+◌, ◌^◌, ◌<◌, ◌≤◌, List, [], ◌∷◌, length, flat_map, Option, Some, None, Result, Ok, Err}
use Rattle.std.specs.List.{slice_range}
use Rattle.nor_base.specs.Wire.{Wire}
use Rattle.nor_loop.specs.Log.{Operation, HasLogged}
use Rattle.nor_reader.specs.declared.by.ReadBy.{ReadBy}
use Rattle.nor_reader.specs.declared.difference.Mismatch.{Mismatch}
use Rattle.nor_reader.specs.Part.{ReadsPart, part_ops}
use Rattle.nor_loop.specs.Reads.{chunk, Chunk}
use Rattle.nor_serprog.specs.declared.limits.Limits.{Limits}
use Rattle.norprog_player.specs.declared.access.Access.{Access}
use Rattle.norprog_player.specs.Access.{way_at}

-- so many addresses from one on
pub record Range : Type 0 where
  pub start : ℕ
  pub len : ℕ

abbrev pub LiesIn : Range → ℕ → Type 0
LiesIn r a = (r.start ≤ a) × (a < r.start + r.len)

-- the address lies in one of the ranges
abbrev pub LiesInOne : List Range → ℕ → Type 0
LiesInOne [] a = ⊥
LiesInOne (r ∷ rs) a = LiesIn r a ⊎ LiesInOne rs a

-- it doesn't go over 2^24, up to where three address bytes reach
abbrev pub IsOneSidedPiece : ℕ → ℕ → Type 0
IsOneSidedPiece start len = (start + len ≤ 2 ^ 24) ⊎ (2 ^ 24 ≤ start)

abbrev pub IsOneSided : Range → Type 0
IsOneSided r = IsOneSidedPiece r.start r.len

-- none is empty, longer than so many addresses, or goes over 2^24, and they follow one another from one address on up to another
abbrev pub AreInOrder : ℕ → ℕ → ℕ → List Range → Type 0
AreInOrder most low high [] = low ≤ high
AreInOrder most low high (r ∷ rs) = (low ≤ r.start) × (0 < r.len) × (r.len ≤ most) × IsOneSided r × AreInOrder most (r.start + r.len) high rs

-- the bytes of a content in a range
abbrev pub chunk_in : List ℕ → Range → Chunk
chunk_in content r = chunk r.start (slice_range content r.start (r.start + r.len))

-- what reads bytes from an address on, in one way; nothing where there is none
abbrev pub ops_by : Option ReadBy → Chunk → List Operation
ops_by None part = []
ops_by (Some by) part = part_ops by part

abbrev pub range_ops : Access → List ℕ → Range → List Operation
range_ops access content r = ops_by (way_at access r.start) (chunk_in content r)

-- what of a chip is compared with a content: the bytes at these addresses, by these instructions, no more at once than the device gives
pub record Comparison : Type 1 where
  pub limits : Limits
  pub access : Access
  pub content : List ℕ
  pub Wanted : ℕ → Type 0

abbrev pub comparison : Limits → Access → List ℕ → (ℕ → Type 0) → Comparison
comparison limits access content Wanted = record { limits = limits; access = access; content = content; Wanted = Wanted }

-- the device was asked for just these ranges, one after the other, and gave just what the content has there
abbrev pub HasRead : Wire → Wire → Access → List ℕ → List Range → Type 0
HasRead before after access content ranges = HasLogged before after (flat_map (range_ops access content) ranges)

-- these ranges hold just the addresses below one that were to be compared, each no more than the device gives at once
pub record HasComparedTo (before after : Wire) (c : Comparison) (high : ℕ) : Type 0 where
  pub ranges : List Range
  pub in_order : AreInOrder c.limits.asked 0 high ranges
  pub just : (a : ℕ) → LiesInOne ranges a ↔ ((a < high) × c.Wanted a)
  pub read : HasRead before after c.access c.content ranges

-- of the whole content
abbrev pub HasCompared : Wire → Wire → Comparison → Type 0
HasCompared before after c = HasComparedTo before after c (length c.content)

-- what the read of bytes that are wanted says, in that way
abbrev pub ReadsAt : Option ReadBy → Chunk → Wire → Wire → Result (Unit {0}) Mismatch → Type 0
ReadsAt None want before after result = (result ≡ Ok tt) × (after ≡ before)
ReadsAt (Some by) want before after result = ReadsPart by want before after result

-- those before this range were compared, and its own read ended so
pub record StopsComparing (before after : Wire) (c : Comparison) (why : Mismatch) : Type 0 where
  pub last : Range
  pub some : 0 < last.len
  pub few : last.len ≤ c.limits.asked
  pub within : last.start + last.len ≤ length c.content
  pub sided : IsOneSided last
  pub wanted : (a : ℕ) → LiesIn last a → c.Wanted a
  pub between : Wire
  pub compared : HasComparedTo before between c last.start
  pub stop : ReadsAt (way_at c.access last.start) (chunk_in c.content last) between after (Err why)
