-- What a device did in one operation, or in a wait (this project's).
use Rattle.std.specs.Prelude.{◌≡◌, ◌≤◌, ◌<◌, ◌⊎◌, ◌%◌, ◌==◌, ◌+◌, ℕ, zero, suc, min, Bool, true, false, List, [], ◌∷◌, ◌++◌, length, flat_map, Option, Result, Ok, Err}
use Rattle.std.specs.List.{list_all}
use Rattle.std.specs.Io.KnownBytes.{Appends}
use Rattle.nor_base.specs.Device.{Ahead, Gives, one_more}
use Rattle.nor_base.specs.Wire.{Wire, wire}
use Rattle.nor_serprog.specs.declared.fault.Fault.{Fault}
use Rattle.nor_serprog.specs.declared.fault.Fault.TheVariants as fault
use Rattle.nor_serprog.specs.declared.fault.Reason.{Reason}
use Rattle.nor_serprog.specs.declared.fault.Reason.TheVariants as reason
use Rattle.nor_serprog.specs.declared.limits.Limits.{Limits}
use Rattle.nor_serprog.specs.Protocol.{request, answer}
use Rattle.nor_serprog.specs.Exchange.{Talked, Answers, GivesOther, Asks}
use Rattle.nor_serprog.specs.Carried.{IsOperation, IsNoOperation}

-- the operation of a status read: 05h goes out, one byte comes in
abbrev pub status_request : List ℕ
status_request = request (0x05 ∷ []) 1

-- a status was read again and again, and these came
abbrev pub HasRead : Wire → Wire → List ℕ → Type 0
HasRead before after statuses =
    Talked before after (flat_map (λ status. status_request) statuses)
    (flat_map (λ status. answer (status ∷ [])) statuses)

-- so many status reads
abbrev pub status_requests : ℕ → List ℕ
status_requests zero = []
status_requests (suc n) = status_request ++ status_requests n

-- bit 0 of each status, the busy bit, is 1; it is 0
abbrev pub are_busy : List ℕ → Bool
are_busy statuses = list_all (λ status. status % 2 == 1) statuses

abbrev pub are_idle : List ℕ → Bool
are_idle statuses = list_all (λ status. status % 2 == 0) statuses

-- most bytes of the requests that go out in one write (this project's)
abbrev pub most_bytes : ℕ
most_bytes = 1024

-- most bytes of requests that go out before an answer is taken: so many, and no more than the device takes before it answers
abbrev pub most_ahead : Limits → ℕ
most_ahead limits = min limits.ahead most_bytes

-- most status reads that go out at once (this project's)
abbrev pub most_reads : ℕ
most_reads = 4

-- so many status reads may go out at once: at most four, and more than one only where their requests have no more bytes than go out
-- before an answer is taken
pub record MayGoAtOnce (limits : Limits) (reads : ℕ) : Type 0 where
  pub few : reads ≤ most_reads
  pub fit : 1 < reads → length (status_requests reads) ≤ most_ahead limits

-- the status was read until it said idle, which it did within so many turns; reads that had been sent ahead then said so too
pub record HasWaited (before after : Wire) (turns : ℕ) : Type 0 where
  pub busy : List ℕ
  pub idle : List ℕ
  pub some : 0 < length idle
  pub within : length (busy ++ idle) ≤ turns
  pub each : are_busy busy ≡ true
  pub last : are_idle idle ≡ true
  pub read : HasRead before after (busy ++ idle)

-- so many turns all said busy
pub record StaysBusy (before after : Wire) (turns : ℕ) : Type 0 where
  pub busy : List ℕ
  pub all : length busy ≡ turns
  pub each : are_busy busy ≡ true
  pub read : HasRead before after busy

-- some turns said busy and then idle, and the next one busy again; it and more reads had been sent, which may go out at once
pub record IsBusyAgain (before after : Wire) (limits : Limits) (turns : ℕ) : Type 0
  where
    pub busy : List ℕ
    pub idle : List ℕ
    pub again : ℕ
    pub more : ℕ
    pub some : 0 < more
    pub at_once : MayGoAtOnce limits more
    pub within : length (busy ++ idle) + more ≤ turns
    pub each : are_busy busy ≡ true
    pub then_idle : are_idle idle ≡ true
    pub odd : again % 2 ≡ 1
    pub held : Option (List ℕ)
    pub ahead : Ahead
    pub read : HasRead before (wire held ahead) (busy ++ idle)
    pub sent : Appends held after.held (status_requests more)
    pub back : Gives ahead (answer (again ∷ [])) after.ahead

-- some turns said busy and then perhaps idle, and the next one's exchange ended so; it and more reads had been sent, which may go out
-- at once
pub record StopsWaiting (before after : Wire) (limits : Limits) (turns : ℕ) (why : Fault) : Type 0 where
  pub busy : List ℕ
  pub idle : List ℕ
  pub more : ℕ
  pub some : 0 < more
  pub at_once : MayGoAtOnce limits more
  pub within : length (busy ++ idle) + more ≤ turns
  pub each : are_busy busy ≡ true
  pub then_idle : are_idle idle ≡ true
  pub held : Option (List ℕ)
  pub ahead : Ahead
  pub got : List ℕ
  pub one : length got ≡ 1
  pub read : HasRead before (wire held ahead) (busy ++ idle)
  pub stop : Asks (wire held ahead) after (Err why) (status_requests more) (Answers ahead after.ahead (Err why) got)

-- what a wait says
abbrev pub Waits : Wire → Wire → Result (Unit {0}) Reason → Limits → ℕ → Type 0
Waits before after (Ok u) limits turns = HasWaited before after turns
Waits before after (Err reason.Busy) limits turns =
    StaysBusy before after turns
    ⊎ IsBusyAgain before after limits turns
Waits before after (Err (reason.Exchange why)) limits turns =
    StopsWaiting before after limits turns why
Waits before after (Err (reason.Differs place byte)) limits turns = ⊥
Waits before after (Err reason.Carried) limits turns = ⊥

-- what comes back for statuses
abbrev pub told : List ℕ → List ℕ
told statuses = flat_map (λ status. answer (status ∷ [])) statuses

-- so many statuses came that all said busy
pub record AllBusy (before after : Ahead) (count : ℕ) : Type 0 where
  pub busy : List ℕ
  pub all : length busy ≡ count
  pub each : are_busy busy ≡ true
  pub gives : Gives before (told busy) after

-- or busy first, and at last idle
pub record LastIdle (before after : Ahead) (count : ℕ) : Type 0 where
  pub busy : List ℕ
  pub idle : List ℕ
  pub some : 0 < length idle
  pub all : length (busy ++ idle) ≡ count
  pub each : are_busy busy ≡ true
  pub last : are_idle idle ≡ true
  pub gives : Gives before (told (busy ++ idle)) after

-- or some said busy and then perhaps idle, and of the next one this is said
pub record StopsTaking (before after : Ahead) (count : ℕ) (Next : Ahead → Type 0) : Type 0 where
  pub busy : List ℕ
  pub idle : List ℕ
  pub within : length (busy ++ idle) < count
  pub each : are_busy busy ≡ true
  pub then_idle : are_idle idle ≡ true
  pub between : Ahead
  pub gives : Gives before (told (busy ++ idle)) between
  pub next : Next between

-- the answers to so many status reads were taken: whether the last said idle
abbrev pub TakesStatuses : Ahead → Ahead → Result Bool Reason → ℕ → Type 0
TakesStatuses before after (Ok true) count = LastIdle before after count
TakesStatuses before after (Ok false) count = AllBusy before after count
TakesStatuses before after (Err reason.Busy) count =
    StopsTaking before after count (λ between. (again : ℕ) × (again % 2 ≡ 1) × Gives between (answer (again ∷ [])) after)
TakesStatuses before after (Err (reason.Exchange why)) count =
    StopsTaking before after count (λ between. (got : List ℕ) × (length got ≡ 1) × Answers between after (Err why) got)
TakesStatuses before after (Err (reason.Differs place byte)) count = ⊥
TakesStatuses before after (Err reason.Carried) count = ⊥

-- the device did the operation of these clocks, and gave these bytes
pub record HasOperated (before after : Wire) (limits : Limits) (clocks want : List ℕ) : Type 0 where
  pub sent : List ℕ
  pub spelled : IsOperation limits clocks sent (length want)
  pub talked : Talked before after (request sent (length want)) (answer want)

-- the exchange of that operation ended so
pub record StopsOperating (before after : Wire) (limits : Limits) (clocks want : List ℕ) (why : Fault) : Type 0 where
  pub sent : List ℕ
  pub spelled : IsOperation limits clocks sent (length want)
  pub got : List ℕ
  pub as_many : length got ≡ length want
  pub stop : Asks before after (Err why) (request sent (length want))
      (Answers before.ahead after.ahead (Err why) got)

-- the device did the operation of these clocks, and of as many bytes as were to come this is the first that is another
pub record DiffersOperating (before after : Wire) (limits : Limits) (clocks want : List ℕ) (place byte : ℕ) : Type 0 where
  pub sent : List ℕ
  pub spelled : IsOperation limits clocks sent (length want)
  pub put : Appends before.held after.held (request sent (length want))
  pub gives : GivesOther before.ahead after.ahead want place byte

-- no device can do these clocks, and nothing was asked of it
pub record IsNotCarried (before after : Wire) (limits : Limits) (clocks : List ℕ)
    : Type 0 where
  pub none : IsNoOperation limits clocks
  pub held : after.held ≡ before.held
  pub ahead : after.ahead ≡ before.ahead

-- what one operation says
abbrev pub Operates : Wire → Wire → Result (Unit {0}) Reason → Limits → List ℕ → List ℕ → Type 0
Operates before after (Ok u) limits clocks want = HasOperated before after limits clocks want
Operates before after (Err reason.Busy) limits clocks want = ⊥
Operates before after (Err (reason.Exchange why)) limits clocks want =
    StopsOperating before after limits clocks want why
Operates before after (Err (reason.Differs place byte)) limits clocks want =
    DiffersOperating before after limits clocks want place byte
Operates before after (Err reason.Carried) limits clocks want =
    IsNotCarried before after limits clocks

-- the reader's count of failures rises by one exactly where the reason is Read, the writer's where it is Write
abbrev pub CountsReason : {T : Type 0} → Fault → ℕ → ℕ → Result T Reason → Type 0
CountsReason device before after (Ok u) = after ≡ before
CountsReason device before after (Err reason.Busy) = after ≡ before
CountsReason device before after (Err reason.Carried) = after ≡ before
CountsReason device before after (Err (reason.Differs place byte)) = after ≡ before
CountsReason fault.Read before after (Err (reason.Exchange fault.Read)) = after ≡ one_more before
CountsReason fault.Write before after (Err (reason.Exchange fault.Write)) = after ≡ one_more before
CountsReason device before after (Err (reason.Exchange why)) = after ≡ before
