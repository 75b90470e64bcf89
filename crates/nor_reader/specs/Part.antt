-- A part of what a chip holds is read and compared (this project's; the instructions are the W25Q256JV datasheet's).
use Rattle.std.specs.Prelude.{List, [], ◌∷◌, ◌++◌, length, Result, Ok, Err}
use Rattle.nor_base.specs.Wire.{Wire}
use Rattle.nor_loop.specs.Log.{Operation, HasLogged}
use Rattle.nor_serprog.specs.declared.fault.Fault.{Fault}
use Rattle.nor_reader.specs.declared.by.ReadBy.{ReadBy}
use Rattle.nor_reader.specs.declared.difference.Difference.{Difference}
use Rattle.nor_reader.specs.declared.difference.Mismatch.{Mismatch}
use Rattle.nor_reader.specs.declared.difference.Mismatch.TheVariants.{Exchange, Differs}
use Rattle.nor_reader.specs.Again.{MissesPiece}
use Rattle.nor_loop.specs.Reads.{Chunk}
use Rattle.nor_reader.specs.Reads.{read_op, reads}
use Rattle.nor_reader.specs.Switched.{StopsAmong, enter_ops, leave_ops}
use Rattle.nor_reader.specs.Twice.{IsEntered, IsFollowed, IsLeft, Passage, StopsLeaving}

-- the operations that read a part, in four-byte mode where that is the way
abbrev pub part_ops : ReadBy → Chunk → List Operation
part_ops by part = enter_ops by ++ (read_op by part.at part.bytes ∷ leave_ops by)

-- its bytes came; the read ended so
abbrev pub PartCame : ReadBy → Chunk → Passage
PartCame by part before after = HasLogged before after (read_op by part.at part.bytes ∷ [])

abbrev pub PartMissed : ReadBy → Chunk → Mismatch → Passage
PartMissed by part why before after = MissesPiece (reads (length part.bytes) by) before after part why

-- what the read of a part says
pub data ReadsPart (by : ReadBy) (part : Chunk) (before after : Wire) : Result (Unit {0}) Mismatch → Type 0 where
  -- just these operations were done, and gave its bytes
  AllCame : HasLogged before after (part_ops by part) → ReadsPart by part before after (Ok tt)
  -- another byte came, and the mode was left
  Differed : (d : Difference) → IsEntered by (IsFollowed (PartMissed by part (Differs d)) (IsLeft by)) before after
      → ReadsPart by part before after (Err (Differs d))
  -- an exchange ended early: as the mode was entered, in the read, or as the mode was left after its bytes or others
  NotEntered : (why : Fault) → StopsAmong before after (enter_ops by) why → ReadsPart by part before after (Err (Exchange why))
  NotRead : (why : Fault) → IsEntered by (PartMissed by part (Exchange why)) before after
      → ReadsPart by part before after (Err (Exchange why))
  NotLeft : (why : Fault) → IsEntered by (IsFollowed (PartCame by part) (StopsLeaving by why)) before after
      → ReadsPart by part before after (Err (Exchange why))
  NotLeftOther : (d : Difference) (why : Fault) → IsEntered by (IsFollowed (PartMissed by part (Differs d)) (StopsLeaving by why)) before after
      → ReadsPart by part before after (Err (Exchange why))
