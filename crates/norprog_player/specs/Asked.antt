-- What the chip behind a device is asked before the steps (this project's).
use Rattle.std.specs.Prelude.{◌≡◌, ◌⊎◌, ℕ, Bool, true, false, Option, Some, None, Result, Ok, Err}
use Rattle.nor_base.specs.declared.meaning.Part.TheVariants.{Generic, W25q256jv}
use Rattle.nor_reader.specs.declared.difference.Mismatch.{Mismatch}
use Rattle.nor_reader.specs.declared.own.AddressRegister.{AddressRegister}
use Rattle.nor_reader.specs.Own.{is_moved, opcode_of, register_of}
use Rattle.nor_reader.specs.Status.{ReadsRegister, ReadsStatus, suits}
use Rattle.nor_reader.specs.Known.{Compares as ComparesTables}
use Rattle.nor_base.specs.Wire.{Wire}
use Rattle.nor_serprog.specs.declared.fault.Fault.{Fault}
use Rattle.nor_serprog.specs.declared.fault.Reason.{Reason}
use Rattle.nor_serprog.specs.declared.fault.Reason.TheVariants as reason
use Rattle.nor_serprog.specs.declared.limits.Limits.{Limits}
use Rattle.norprog_player.specs.declared.ending.Unlike.{Unlike}
use Rattle.norprog_player.specs.declared.ending.Unlike.TheVariants as unlike
use Rattle.norprog_player.specs.Compared.{Comparison}
use Rattle.norprog_player.specs.Expected.{Expectation}
use Rattle.norprog_player.specs.Likeness.{ComparesWhole}

-- what a chip is asked: whether it is the expected one, by a device of these limits, with the most status reads of one poll
pub record Inquiry : Type 0 where
  pub x : Expectation
  pub limits : Limits
  pub turns : ℕ

abbrev pub inquiry : Expectation → Limits → ℕ → Inquiry
inquiry x limits turns = record { x = x; limits = limits; turns = turns }

-- it was asked for its status until it said idle, so often at most, and then for its other status registers, where they are known
abbrev pub AsksStatus : Inquiry → Wire → Wire → Result ℕ Reason → Type 0
AsksStatus q before after result = ReadsStatus q.x.part before after result q.turns

-- its SFDP bytes were read and compared with those that it has to have
abbrev pub AsksTables : Inquiry → Wire → Wire → Result (Unit {0}) Mismatch → Type 0
AsksTables q before after result = ComparesTables before after result q.limits q.x.tables

-- it is idle and takes the steps, by its status
pub record IsSuited (q : Inquiry) (before after : Wire) : Type 0 where
  pub status : ℕ
  pub asked : AsksStatus q before after (Ok status)
  pub suited : suits q.x.part q.x.start status ≡ true

-- and its tables are those that it has to have
pub record HasTables (q : Inquiry) (before after : Wire) : Type 0 where
  pub between : Wire
  pub suited : IsSuited q before between
  pub tables : AsksTables q between after (Ok tt)

-- it was asked for the value of a register
abbrev pub AsksRegister : AddressRegister → Wire → Wire → Result ℕ Fault → Type 0
AsksRegister register before after result = ReadsRegister before after result (opcode_of register)

-- the register that its tables name as the one that moves all addresses was read, and moves none; where they name none nothing was asked
abbrev pub IsUnmoved : Option AddressRegister → Wire → Wire → Type 0
IsUnmoved None before after = after ≡ before
IsUnmoved (Some register) before after = (value : ℕ) × AsksRegister register before after (Ok value) × (is_moved register value ≡ false)

-- it moves some, or the exchange of its read ended early
abbrev pub StopsMoved : Option AddressRegister → Wire → Wire → Unlike → Type 0
StopsMoved named before after (unlike.Moved value) =
    (register : AddressRegister) × (named ≡ Some register) × AsksRegister register before after (Ok value) × (is_moved register value ≡ true)
StopsMoved named before after (unlike.Asking why) =
    (register : AddressRegister) × (named ≡ Some register) × AsksRegister register before after (Err why)
StopsMoved named before after other = ⊥

-- its tables are those, and no register moves its addresses
pub record IsIdentified (q : Inquiry) (before after : Wire) : Type 0 where
  pub between : Wire
  pub known : HasTables q before between
  pub unmoved : IsUnmoved (register_of q.x.tables) between after

-- and it holds what it is to hold at these addresses
pub record IsKnownChip (q : Inquiry) (c : Comparison) (before after : Wire) : Type 0 where
  pub between : Wire
  pub identified : IsIdentified q before between
  pub like : ComparesWhole between after c (Ok tt)

-- what comes before the steps: nothing where the chip is trusted
abbrev pub BeginsWith : Bool → Inquiry → Comparison → Wire → Wire → Type 0
BeginsWith true q c before after = after ≡ before
BeginsWith false q c before after = IsKnownChip q c before after

-- its tables are those, and the reading of that register ended so
pub record StopsAtRegister (q : Inquiry) (before after : Wire) (why : Unlike) : Type 0 where
  pub between : Wire
  pub known : HasTables q before between
  pub stops : StopsMoved (register_of q.x.tables) between after why

-- why it isn't known to be idle, to take the steps, to have these tables and to move no address
abbrev pub StopsAsking : Inquiry → Wire → Wire → Unlike → Type 0
StopsAsking q before after unlike.Busy = AsksStatus q before after (Err reason.Busy)
StopsAsking q before after (unlike.Asking why) =
    AsksStatus q before after (Err (reason.Exchange why)) ⊎ StopsAtRegister q before after (unlike.Asking why)
StopsAsking q before after (unlike.Status status) =
    (q.x.part ≡ Generic) × AsksStatus q before after (Ok status) × (suits q.x.part q.x.start status ≡ false)
StopsAsking q before after (unlike.Registers status) =
    (q.x.part ≡ W25q256jv) × AsksStatus q before after (Ok status) × (suits q.x.part q.x.start status ≡ false)
StopsAsking q before after (unlike.Tables why) = (between : Wire) × IsSuited q before between × AsksTables q between after (Err why)
StopsAsking q before after (unlike.Moved value) = StopsAtRegister q before after (unlike.Moved value)
StopsAsking q before after (unlike.Content why) = ⊥

-- why it isn't known to be the chip that is expected
abbrev pub IsUnknown : Inquiry → Comparison → Wire → Wire → Unlike → Type 0
IsUnknown q c before after (unlike.Content why) = (between : Wire) × IsIdentified q before between × ComparesWhole between after c (Err why)
IsUnknown q c before after other = StopsAsking q before after other
