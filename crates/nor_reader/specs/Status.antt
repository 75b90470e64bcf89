-- What a chip's status registers say (W25Q256JV datasheet, Read Status Register-1 05h, -2 35h, -3 15h: the opcode goes out, one byte
-- comes in; the exchanges are the Serial Flasher Protocol's).
use Rattle.std.specs.Prelude.{◌≡◌, ◌⊎◌, ◌<◌, ◌%◌, ◌+◌, ◌*◌, ◌==◌, ◌&&◌, ◌||◌, not, ℕ, Bool, true, is_none, List, [], ◌∷◌, ◌++◌, length, Option, Some, Result, Ok, Err}
use Rattle.std.specs.List.{list_any}
use Rattle.std.proofs.Math.Bool.{beq}
use Rattle.nor_base.specs.Device.{Ahead, one_more}
use Rattle.nor_base.specs.declared.meaning.Part.{Part}
use Rattle.nor_base.specs.declared.meaning.Part.TheVariants.{Generic, W25q256jv}
use Rattle.nor_base.specs.declared.meaning.Start.{Start}
use Rattle.nor_sfdp.specs.Bits.{is_set}
use Rattle.nor_job.specs.Status.{status_fault}
use Rattle.nor_base.specs.Wire.{Wire, wire}
use Rattle.nor_serprog.specs.declared.fault.Fault.{Fault}
use Rattle.nor_serprog.specs.declared.fault.Fault.TheVariants as fault
use Rattle.nor_serprog.specs.declared.fault.Reason.{Reason}
use Rattle.nor_serprog.specs.declared.fault.Reason.TheVariants as reason
use Rattle.nor_serprog.specs.Protocol.{request, answer}
use Rattle.nor_serprog.specs.Exchange.{Talked, Answers, Asks}
use Rattle.nor_serprog.specs.Follow.{HasRead, StaysBusy, are_busy}

-- the operation of a register read
abbrev pub register_request : ℕ → List ℕ
register_request opcode = request (opcode ∷ []) 1

-- the register was read, and this byte came
abbrev pub HasReadRegister : Wire → Wire → ℕ → ℕ → Type 0
HasReadRegister before after opcode byte =
    Talked before after (register_request opcode) (answer (byte ∷ []))

-- the exchange of its read ended so
pub record StopsRegister (before after : Wire) (opcode : ℕ) (why : Fault) : Type 0
  where
    pub got : List ℕ
    pub one : length got ≡ 1
    pub stop : Asks before after (Err why) (register_request opcode)
        (Answers before.ahead after.ahead (Err why) got)

-- what a register read says
abbrev pub ReadsRegister : Wire → Wire → Result ℕ Fault → ℕ → Type 0
ReadsRegister before after (Ok byte) opcode =
    HasReadRegister before after opcode byte
ReadsRegister before after (Err why) opcode =
    StopsRegister before after opcode why

-- a status ends the wait for an idle chip: its busy bit is 0, or it is FFh, which an open line gives
abbrev pub ends_wait : ℕ → Bool
ends_wait status = (status % 2 == 0) || (status == 0xFF)

-- the status was read until it did, which was within so many turns, and this was the last one
pub record HasSettled (before after : Wire) (status turns : ℕ) : Type 0 where
  pub busy : List ℕ
  pub within : length busy < turns
  pub each : are_busy busy ≡ true
  pub last : ends_wait status ≡ true
  pub read : HasRead before after (busy ++ status ∷ [])

-- some turns said busy, and the exchange of the next one ended so
pub record StopsAtFirst (before after : Wire) (turns : ℕ) (why : Fault) : Type 0
  where
    pub busy : List ℕ
    pub within : length busy < turns
    pub each : are_busy busy ≡ true
    pub held : Option (List ℕ)
    pub ahead : Ahead
    pub read : HasRead before (wire held ahead) busy
    pub stop : StopsRegister (wire held ahead) after 0x05 why

-- what a wait for an idle status says
abbrev pub Settles : Wire → Wire → Result ℕ Reason → ℕ → Type 0
Settles before after (Ok status) turns =
    HasSettled before after status turns
Settles before after (Err reason.Busy) turns = StaysBusy before after
    turns
Settles before after (Err (reason.Exchange why)) turns =
    StopsAtFirst before after turns why
Settles before after (Err (reason.Differs place byte)) turns = ⊥
Settles before after (Err reason.Carried) turns = ⊥

-- the last status of a wait is S7 to S0; after it 35h gives S15 to S8, and then 15h S23 to S16
pub record HasReadAll (before after : Wire) (status turns : ℕ) : Type 0 where
  pub first : ℕ
  pub second : ℕ
  pub third : ℕ
  pub held_first : Option (List ℕ)
  pub held_second : Option (List ℕ)
  pub ahead_first : Ahead
  pub ahead_second : Ahead
  pub settled : HasSettled before (wire held_first ahead_first) first turns
  pub middle : HasReadRegister (wire held_first ahead_first) (wire held_second ahead_second) 0x35 second
  pub high : HasReadRegister (wire held_second ahead_second) after 0x15 third
  pub first_small : first < 256
  pub second_small : second < 256
  pub third_small : third < 256
  pub value : status ≡ first + 256 * second + 65536 * third

-- the chip was idle, and the exchange of 35h ended so
pub record StopsAtSecond (before after : Wire) (turns : ℕ) (why : Fault) : Type 0
  where
    pub first : ℕ
    pub held : Option (List ℕ)
    pub ahead : Ahead
    pub settled : HasSettled before (wire held ahead) first turns
    pub stop : StopsRegister (wire held ahead) after 0x35 why

-- it was, 35h was read, and the exchange of 15h ended so
pub record StopsAtThird (before after : Wire) (turns : ℕ) (why : Fault) : Type 0
  where
    pub first : ℕ
    pub second : ℕ
    pub held_first : Option (List ℕ)
    pub held_second : Option (List ℕ)
    pub ahead_first : Ahead
    pub ahead_second : Ahead
    pub settled : HasSettled before (wire held_first ahead_first) first turns
    pub middle : HasReadRegister (wire held_first ahead_first) (wire held_second ahead_second) 0x35 second
    pub stop : StopsRegister (wire held_second ahead_second) after 0x15 why

-- what the status bits of a part say: of one of which nothing is known, S7 to S0; else S23 to S0, whose reading also ends early where
-- a later register's does
abbrev pub ReadsStatus : Part → Wire → Wire → Result ℕ Reason → ℕ → Type 0
ReadsStatus Generic before after result turns =
    Settles before after result turns
ReadsStatus W25q256jv before after (Ok status) turns =
    HasReadAll before after status turns
ReadsStatus W25q256jv before after (Err (reason.Exchange why)) turns =
    StopsAtFirst before after turns why
    ⊎ (StopsAtSecond before after turns why
    ⊎ StopsAtThird before after turns why)
ReadsStatus W25q256jv before after (Err other) turns =
    Settles before after (Err other) turns

-- the reader's count of failures rises by one exactly where the reason is Read, the writer's where it is Write
abbrev pub CountsReason : {T : Type 0} → Fault → ℕ → ℕ → Result T Reason → Type 0
CountsReason device before after (Ok x) = after ≡ before
CountsReason fault.Read before after (Err (reason.Exchange fault.Read)) = after ≡ one_more before
CountsReason fault.Write before after (Err (reason.Exchange fault.Write)) = after ≡ one_more before
CountsReason device before after (Err other) = after ≡ before

-- of S7 to S0: the write enable latch (S1) is set, or some bit of block protection (S2 to S5)
abbrev pub is_closed : ℕ → Bool
is_closed status = list_any (is_set status) (1 ∷ 2 ∷ 3 ∷ 4 ∷ 5 ∷ [])

-- of S23 to S0: BUSY (S0), WEL (S1) or SUS (S15) is set, or some bit of block protection (S2 to S5, S14, S18)
abbrev pub is_faulty : ℕ → Bool
is_faulty status = list_any (is_set status) (0 ∷ 1 ∷ 15 ∷ 2 ∷ 3 ∷ 4 ∷ 5 ∷ 14 ∷ 18 ∷ [])

-- its address mode (ADS, S16) and its quad setting (QE, S9) are those of a start
abbrev pub starts_so : Start → ℕ → Bool
starts_so start status = beq (is_set status 16) start.mode4 && beq (is_set status 9) start.quad

-- a chip of this status is as a job that starts so wants it
abbrev pub suits : Part → Start → ℕ → Bool
suits Generic start status = not (is_closed status)
suits W25q256jv start status = is_none (status_fault (Some status)) && starts_so start status
