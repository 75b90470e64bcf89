-- Bytes of a chip that came twice alike (this project's).
use Rattle.std.specs.Prelude.{◌≡◌, ◌⊎◌, ℕ, List, ◌++◌, length, Option, Result, Ok, Err}
use Rattle.nor_base.specs.Device.{Ahead}
use Rattle.nor_base.specs.Wire.{Wire, wire}
use Rattle.nor_reader.specs.declared.difference.Difference.{Difference}
use Rattle.nor_reader.specs.declared.difference.Mismatch.{Mismatch}
use Rattle.nor_reader.specs.declared.difference.Mismatch.TheVariants.{Exchange, Differs}
use Rattle.nor_serprog.specs.declared.fault.Fault.{Fault}
use Rattle.nor_loop.specs.Log.{Operation, HasLogged}
use Rattle.nor_loop.specs.Reads.{Chunk}
use Rattle.nor_reader.specs.declared.by.ReadBy.{ReadBy}
use Rattle.nor_reader.specs.Switched.{enter_ops, leave_ops, StopsAmong}
use Rattle.nor_reader.specs.Reads.{reads, HasReadChunk, Reads, ReadsBy, StopsOn}
use Rattle.nor_reader.specs.Again.{MissesOn}

-- how a chunk is read the first time, and again
pub record Twice : Type 0 where
  pub first : Reads
  pub again : Reads

abbrev pub twice : ℕ → ReadBy → ReadBy → Twice
twice most by again = record { first = reads most by; again = reads most again }

-- the exchanges were just two readings of a chunk, and both gave its bytes
pub record ReadTwice (t : Twice) (before after : Wire) (c : Chunk) : Type 0 where
  pub first : List Operation
  pub second : List Operation
  pub reads : ReadsBy t.first c first
  pub rereads : ReadsBy t.again c second
  pub wire : HasLogged before after (first ++ second)

-- what happens between two moments of a device
abbrev pub Passage : Type 1
Passage = Wire → Wire → Type 0

-- four-byte mode was entered where that is the way, and then this happened
pub record IsEntered (by : ReadBy) (Then : Passage) (before after : Wire)
    : Type 0 where
  pub held : Option (List ℕ)
  pub ahead : Ahead
  pub entered : HasLogged before (wire held ahead) (enter_ops by)
  pub rest : Then (wire held ahead) after

-- one thing happened, and then another
pub record IsFollowed (First Then : Passage) (before after : Wire) : Type 0 where
  pub held : Option (List ℕ)
  pub ahead : Ahead
  pub first : First before (wire held ahead)
  pub rest : Then (wire held ahead) after

-- the mode was left again where it was entered; or the exchange of an operation that does so ended so
abbrev pub IsLeft : ReadBy → Passage
IsLeft by before after = HasLogged before after (leave_ops by)

abbrev pub StopsLeaving : ReadBy → Fault → Passage
StopsLeaving by why before after = StopsAmong before after (leave_ops by) why

-- all bytes came; a byte came otherwise
abbrev pub AllCame : Reads → Chunk → Passage
AllCame r c before after = HasReadChunk r before after c

abbrev pub OtherCame : Reads → Chunk → Difference → Passage
OtherCame r c d before after = MissesOn r before after c (Differs d)

-- bytes were read whole
abbrev pub HasReadWhole : Reads → Wire → Wire → Chunk → Type 0
HasReadWhole r before after c = IsEntered r.by (IsFollowed (AllCame r c) (IsLeft r.by)) before after

-- some of the bytes from an address on were read, and the exchange of the next read ended so
abbrev pub StopsAfter : Reads → Wire → Wire → ℕ → Fault → Type 0
StopsAfter r before after at why = (front : List ℕ) × (length front ≡ at) × StopsOn r before after front why

-- a first reading ended early: as the mode was entered, in a read, or as the mode was left
abbrev pub StopsFirst : Reads → Wire → Wire → Chunk → Fault → Type 0
StopsFirst r before after c why =
    StopsAmong before after (enter_ops r.by) why
    ⊎ (IsEntered r.by (λ u v. StopsAfter r u v c.at why) before after
    ⊎ IsEntered r.by (IsFollowed (AllCame r c) (StopsLeaving r.by why)) before after)

-- bytes didn't come again: an exchange ended early, as the mode was entered, in a read, or as the mode was left; or a byte came
-- otherwise, and the mode was left
abbrev pub MissesWhole : Reads → Wire → Wire → Chunk → Mismatch → Type 0
MissesWhole r before after c (Exchange why) =
    StopsAmong before after (enter_ops r.by) why
    ⊎ (IsEntered r.by (λ u v. MissesOn r u v c (Exchange why)) before after
    ⊎ (IsEntered r.by (IsFollowed (AllCame r c) (StopsLeaving r.by why)) before after
    ⊎ ((d : Difference)
    × IsEntered r.by (IsFollowed (OtherCame r c d) (StopsLeaving r.by why)) before after)))
MissesWhole r before after c (Differs d) =
    IsEntered r.by (IsFollowed (OtherCame r c d) (IsLeft r.by)) before after

-- what a second reading says
abbrev pub ReadsWhole : Reads → Wire → Wire → Result (Unit {0}) Mismatch → Chunk → Type 0
ReadsWhole r before after (Ok u) c = HasReadWhole r before after c
ReadsWhole r before after (Err why) c = MissesWhole r before after c why

-- bytes were read whole, and then not found so again
pub record MissesAgain (t : Twice) (before after : Wire) (c : Chunk) (why : Mismatch) : Type 0 where
  pub held : Option (List ℕ)
  pub ahead : Ahead
  pub read : HasReadWhole t.first before (wire held ahead) c
  pub missed : MissesWhole t.again (wire held ahead) after c why

-- why they didn't come twice alike: an exchange of the first reading ended early, or the second reading ended so
abbrev pub StopsTwice : Twice → Wire → Wire → Chunk → Mismatch → Type 0
StopsTwice t before after c (Exchange why) = StopsFirst t.first before after c why ⊎ MissesAgain t before after c (Exchange why)
StopsTwice t before after c (Differs d) = MissesAgain t before after c (Differs d)
