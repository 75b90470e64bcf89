-- The handshake with a serprog device (flashrom's Serial Flasher Protocol Specification, version 1: S_CMD_SYNCNOP 10h, Q_IFACE 01h,
-- Q_CMDMAP 02h, S_BUSTYPE 12h, Q_SERBUF 04h, Q_WRNMAXLEN 08h, Q_RDNMAXLEN 11h, S_PIN_STATE 15h, O_SPIOP 13h).
use Rattle.std.specs.Prelude.{◌≡◌, ◌≢◌, ◌≤◌, ◌<◌, ℕ, Bool, true, false, ◌+◌, ◌-◌, ◌*◌, ◌/◌, ◌%◌, ◌^◌, ◌==◌, not, ◌&&◌, ◌||◌, if◌then◌else◌, List, [], ◌∷◌, ◌++◌, length, take, replicate, flat_map, slice_index, Option, Some, None, IfSome, Result, Ok, Err}
use Rattle.std.specs.Io.KnownBytes.{Appends}
use Rattle.nor_base.specs.Device.{Ahead, Gives, IsAtEnd, Cuts, one_more}
use Rattle.nor_base.specs.Wire.{Wire, wire}
use Rattle.nor_serprog.specs.declared.fault.Fault.{Fault}
use Rattle.nor_serprog.specs.declared.fault.Fault.TheVariants as fault
use Rattle.nor_serprog.specs.declared.fault.Command.{Command}
use Rattle.nor_serprog.specs.declared.fault.Command.TheVariants as command
use Rattle.nor_serprog.specs.declared.fault.GreetFault.{GreetFault}
use Rattle.nor_serprog.specs.declared.fault.GreetFault.TheVariants as refused
use Rattle.nor_serprog.specs.declared.limits.Limits.{Limits}
use Rattle.nor_serprog.specs.Protocol.{ACK, NAK, answer}
use Rattle.nor_serprog.specs.Exchange.{Talked, Answers, Asks}

-- the bytes of a command: 12h chooses the SPI bus (bit 3), 15h has the pins driven
abbrev pub command_bytes : Command → List ℕ
command_bytes command.SyncNop = 0x10 ∷ []
command_bytes command.QueryInterface = 0x01 ∷ []
command_bytes command.QueryCommands = 0x02 ∷ []
command_bytes command.SetBus = 0x12 ∷ 0x08 ∷ []
command_bytes command.QueryBuffer = 0x04 ∷ []
command_bytes command.QueryWriteMax = 0x08 ∷ []
command_bytes command.QueryReadMax = 0x11 ∷ []
command_bytes command.SetPins = 0x15 ∷ 0x01 ∷ []

-- 15h has the pins driven no more
abbrev pub release_bytes : List ℕ
release_bytes = 0x15 ∷ 0x00 ∷ []

-- what a device says of itself, and how often it was asked for the first word
pub record Greeting : Type 0 where
  pub tries : ℕ
  -- what it gave before that word, and after it for tries that were answered late
  pub noise : List ℕ
  pub late : List ℕ
  -- its interface's version, the commands that it offers, how many bytes it takes before it answers, or NAK, and the most bytes that an
  -- operation sends and gives
  pub version : List ℕ
  pub commands : List ℕ
  pub buffer : Option (List ℕ)
  pub sends : List ℕ
  pub gives : List ℕ

-- command n is offered: bit n of the bytes, the lowest bit of each the first
abbrev pub offers : List ℕ → ℕ → Bool
offers commands n = slice_index commands (n / 8) / 2 ^ (n % 8) % 2 == 1

abbrev pub where_offered : List ℕ → ℕ → List ℕ → List ℕ
where_offered commands n bytes = if offers commands n then bytes else []

-- an exchange: what was put and given
pub record Exchange : Type 0 where
  pub put : List ℕ
  pub given : List ℕ

-- a command that is left out where it isn't offered
abbrev pub exchange_if : Bool → List ℕ → List ℕ → Exchange
exchange_if offered put given = if offered then record { put = put; given = given } else record { put = []; given = [] }

-- what a device answers that tells something, or NAK
abbrev pub told_or_nak : Option (List ℕ) → List ℕ
told_or_nak None = NAK ∷ []
told_or_nak (Some told) = answer told

-- those of a handshake, in their order
abbrev pub exchanges : Greeting → List Exchange
exchanges g =
    record { put = replicate g.tries 0x10; given = g.noise ++ (NAK ∷ ACK ∷ g.late) }
    ∷ record { put = command_bytes command.QueryInterface; given = answer g.version }
    ∷ record { put = command_bytes command.QueryCommands; given = answer g.commands }
    ∷ record { put = command_bytes command.SetBus; given = answer [] }
    ∷ exchange_if (offers g.commands 0x04) (command_bytes command.QueryBuffer) (told_or_nak g.buffer)
    ∷ exchange_if (offers g.commands 0x08) (command_bytes command.QueryWriteMax) (answer g.sends)
    ∷ exchange_if (offers g.commands 0x11) (command_bytes command.QueryReadMax) (answer g.gives)
    ∷ exchange_if (offers g.commands 0x15) (command_bytes command.SetPins) (answer [])
    ∷ []

-- how many of them come before a command
abbrev pub place : Command → ℕ
place command.SyncNop = 0
place command.QueryInterface = 1
place command.QueryCommands = 2
place command.SetBus = 3
place command.QueryBuffer = 4
place command.QueryWriteMax = 5
place command.QueryReadMax = 6
place command.SetPins = 7

abbrev pub HasExchanged : Wire → Wire → List Exchange → Type 0
HasExchanged before after done =
    Talked before after (flat_map (λ x. x.put) done) (flat_map (λ x. x.given) done)

-- version 1
abbrev pub first_version : List ℕ
first_version = 0x01 ∷ 0x00 ∷ []

-- what a command's place asks of the words before it
abbrev pub Reaches : Greeting → Command → Type 0
Reaches g command.SyncNop = Unit {0}
Reaches g command.QueryInterface = Unit {0}
Reaches g command.QueryCommands = g.version ≡ first_version
Reaches g command.SetBus = (g.version ≡ first_version) × (offers g.commands 0x13 ≡ true)
Reaches g command.QueryBuffer = (g.version ≡ first_version) × (offers g.commands 0x13 ≡ true) × (offers g.commands 0x04 ≡ true)
Reaches g command.QueryWriteMax = (g.version ≡ first_version) × (offers g.commands 0x13 ≡ true) × (offers g.commands 0x08 ≡ true)
Reaches g command.QueryReadMax = (g.version ≡ first_version) × (offers g.commands 0x13 ≡ true) × (offers g.commands 0x11 ≡ true)
Reaches g command.SetPins = (g.version ≡ first_version) × (offers g.commands 0x13 ≡ true) × (offers g.commands 0x15 ≡ true)

-- at most so many tries at the first word, and at most so many bytes before it
abbrev pub most_tries : ℕ
most_tries = 2

abbrev pub most_noise : ℕ
most_noise = 4096

-- the first word, and whether it stands in some bytes
abbrev pub is_word : ℕ → ℕ → Bool
is_word first second = (first == NAK) && (second == ACK)

abbrev pub has_word : List ℕ → Bool
has_word [] = false
has_word (first ∷ []) = false
has_word (first ∷ second ∷ more) = is_word first second || has_word (second ∷ more)

-- the first word came after some tries, no sooner, and then no more than late answers of the tries before the last can be
pub record IsWord (tries : ℕ) (noise late : List ℕ) : Type 0 where
  pub some : 0 < tries
  pub few : tries ≤ most_tries
  pub first : has_word (noise ++ NAK ∷ []) ≡ false
  pub rest : length late ≤ 2 * (tries - 1)

-- a number told by three bytes, the lowest first
abbrev pub number_told : List ℕ → ℕ
number_told told = slice_index told 0 + 256 * slice_index told 1 + 65536 * slice_index told 2

-- the most bytes of an operation: what is told, where that is offered; 0 tells 2^24, of which a request has room for one less
abbrev pub most : Bool → List ℕ → ℕ
most offered told = if offered && not (number_told told == 0) then number_told told else 2 ^ 24 - 1

-- how many bytes a device takes before it answers: what two bytes tell, the lower first, where that is offered; else none
abbrev pub ahead_told : Bool → Option (List ℕ) → ℕ
ahead_told true (Some told) = slice_index told 0 + 256 * slice_index told 1
ahead_told offered other = 0

-- the device speaks version 1 and does SPI operations, these are its limits, and it drives the chip's pins or doesn't
pub record Greets (before after : Wire) (limits : Limits) : Type 0 where
  pub greeting : Greeting
  pub word : IsWord greeting.tries greeting.noise greeting.late
  pub talked : HasExchanged before after (exchanges greeting)
  pub version : greeting.version ≡ first_version
  pub operation : offers greeting.commands 0x13 ≡ true
  pub commands : length greeting.commands ≡ 32
  pub buffer : IfSome greeting.buffer (λ told. length told ≡ 2)
  pub sends : length greeting.sends ≡ 3
  pub gives : length greeting.gives ≡ 3
  pub sent : limits.sent ≡ most (offers greeting.commands 0x08) greeting.sends
  pub asked : limits.asked ≡ most (offers greeting.commands 0x11) greeting.gives
  pub ahead : limits.ahead ≡ ahead_told (offers greeting.commands 0x04) greeting.buffer
  pub pins : limits.pins ≡ offers greeting.commands 0x15

-- how many bytes come after ACK
abbrev pub answer_length : Command → ℕ
answer_length command.SyncNop = 0
answer_length command.QueryInterface = 2
answer_length command.QueryCommands = 32
answer_length command.SetBus = 0
answer_length command.QueryBuffer = 2
answer_length command.QueryWriteMax = 3
answer_length command.QueryReadMax = 3
answer_length command.SetPins = 0

-- the exchanges before a command were done, and its own ended so
pub record StopsAt (old new : Wire) (at : Command) (why : Fault) : Type 0 where
  pub greeting : Greeting
  pub held : Option (List ℕ)
  pub ahead : Ahead
  pub got : List ℕ
  pub word : IsWord greeting.tries greeting.noise greeting.late
  pub reaches : Reaches greeting at
  pub room : length got ≡ answer_length at
  pub before : HasExchanged old (wire held ahead) (take (place at) (exchanges greeting))
  pub stop : Asks (wire held ahead) new (Err why) (command_bytes at) (Answers ahead new.ahead (Err why) got)

-- the exchanges before a command were done, and what they told is no device for us
pub record IsUnfit (old new : Wire) (at : Command) (Told : Greeting → Type 0) : Type 0 where
  pub greeting : Greeting
  pub word : IsWord greeting.tries greeting.noise greeting.late
  pub before : HasExchanged old new (take (place at) (exchanges greeting))
  pub told : Told greeting

-- so many tries went out, and no first word came
pub record HasNoWord (before after : Wire) (tries : ℕ) (given : List ℕ) : Type 0
  where
    pub few : tries ≤ most_tries
    pub none : has_word given ≡ false
    pub talked : Talked before after (replicate tries 0x10) given

-- why: the writer failed in a try; silence after the last one; too many bytes without that word; the reader failed
abbrev pub StopsWord : Wire → Wire → Fault → Type 0
StopsWord before after fault.Write =
    (tries : ℕ) × (given : List ℕ) × (tries < most_tries) × HasNoWord before after tries given
StopsWord before after fault.Silent =
    (given : List ℕ) × IsAtEnd after.ahead × HasNoWord before after most_tries given
StopsWord before after fault.Differs =
    (tries : ℕ) × (given : List ℕ) × (length given + tries ≡ most_noise + 1) × HasNoWord before after
    tries given
StopsWord before after fault.Read =
    (tries : ℕ) × (given : List ℕ) × (tries ≤ most_tries) × Talked before after (replicate tries 0x10)
    given
StopsWord before after fault.Nak = ⊥

-- the first word was asked for, and came
pub record HasBegun (before after : Wire) : Type 0 where
  pub tries : ℕ
  pub noise : List ℕ
  pub late : List ℕ
  pub word : IsWord tries noise late
  pub talked : Talked before after (replicate tries 0x10) (noise ++ (NAK ∷ ACK ∷ late))

abbrev pub Begins : Wire → Wire → Result (Unit {0}) Fault → Type 0
Begins before after (Ok u) = HasBegun before after
Begins before after (Err why) = StopsWord before after why

-- the next byte was taken, if one came before the end
abbrev pub Hears : Ahead → Ahead → Result (Option ℕ) Fault → Type 0
Hears before after (Ok (Some byte)) = Gives before (byte ∷ []) after
Hears before after (Ok None) = Gives before [] after × IsAtEnd after
Hears before after (Err fault.Read) = Gives before [] after
Hears before after (Err other) = ⊥

-- some more bytes came, no more than so many; of those that came before the reader failed there may be fewer
abbrev pub HearsLate : Ahead → Ahead → Result (Unit {0}) Fault → ℕ → Type 0
HearsLate before after (Ok u) room = (late : List ℕ) × (length late ≤ room) × Gives before late after
HearsLate before after (Err fault.Read) room = (late : List ℕ) × (length late ≤ room) × Gives before late after
HearsLate before after (Err other) room = ⊥

-- a try went out, or the writer failed
abbrev pub Tries : Option (List ℕ) → Option (List ℕ) → Result (Unit {0}) Fault → Type 0
Tries before after (Ok u) = Appends before after (0x10 ∷ [])
Tries before after (Err fault.Write) = Cuts before after (0x10 ∷ [])
Tries before after (Err other) = ⊥

-- the same as a part of the handshake
abbrev pub BeginsGreeting : Wire → Wire → Result (Unit {0}) GreetFault → Type 0
BeginsGreeting before after (Ok u) = HasBegun before after
BeginsGreeting before after (Err (refused.Command command.SyncNop why)) =
    StopsWord before after why
BeginsGreeting before after (Err other) = ⊥

-- it was found after so many tries
pub record HasFound (before after : Wire) (tries : ℕ) : Type 0 where
  pub noise : List ℕ
  pub word : IsWord tries noise []
  pub talked : Talked before after (replicate tries 0x10) (noise ++ (NAK ∷ ACK ∷ []))

abbrev pub Finds : Wire → Wire → Result ℕ Fault → Type 0
Finds before after (Ok tries) = HasFound before after tries
Finds before after (Err why) = StopsWord before after why

-- a command of the handshake was done, and gave these bytes; or its exchange ended so
abbrev pub Tells : Wire → Wire → Result (Unit {0}) GreetFault → Command → List ℕ → Type 0
Tells before after (Ok u) at got =
    Talked before after (command_bytes at) (answer got)
Tells before after (Err (refused.Command place why)) at got =
    (place ≡ at) × Asks before after (Err why) (command_bytes at)
    (Answers before.ahead after.ahead (Err why) got)
Tells before after (Err other) at got = ⊥

-- or it was left out, since it isn't offered
abbrev pub TellsIf : Bool → Wire → Wire → Result (Unit {0}) GreetFault → Command → List ℕ → Type 0
TellsIf offered before after (Ok u) at got =
    let done = exchange_if offered (command_bytes at) (answer got) in Talked before after done.put
    done.given
TellsIf offered before after (Err other) at got =
    (offered ≡ true) × Tells before after (Err other) at got

-- so was 04h, of which NAK is an answer too
abbrev pub TellsAhead : Bool → Wire → Wire → Result ℕ GreetFault → Type 0
TellsAhead offered before after (Ok ahead) =
    (buffer : Option (List ℕ)) × IfSome buffer (λ told. length told ≡ 2) × (ahead ≡ ahead_told offered buffer)
    × (let done = exchange_if offered (command_bytes command.QueryBuffer) (told_or_nak buffer) in Talked before after done.put done.given)
TellsAhead offered before after (Err other) =
    (offered ≡ true) × (other ≢ refused.Command command.QueryBuffer fault.Nak)
    × ((got : List ℕ) × (length got ≡ 2) × Tells before after (Err other) command.QueryBuffer got)

-- what an answer of a handshake says
abbrev pub Greeted : Wire → Wire → Result Limits GreetFault → Type 0
Greeted before after (Ok limits) = Greets before after limits
Greeted before after (Err (refused.Command command.SyncNop why)) =
    StopsWord before after why
Greeted before after (Err (refused.Command command.QueryBuffer fault.Nak)) = ⊥
Greeted before after (Err (refused.Command at why)) = StopsAt before after at why
Greeted before after (Err refused.Version) =
    IsUnfit before after command.QueryCommands
    (λ g. (length g.version ≡ 2) × (g.version ≢ first_version))
Greeted before after (Err refused.NoOperation) =
    IsUnfit before after command.SetBus
    (λ g. (g.version ≡ first_version) × (length g.commands ≡ 32) × (offers g.commands 0x13 ≡ false))

-- a device that speaks version 1 and does SPI operations told which commands it offers
pub record HasLearnt (old new : Wire) (commands : List ℕ) : Type 0 where
  pub tries : ℕ
  pub noise : List ℕ
  pub late : List ℕ
  pub word : IsWord tries noise late
  pub operation : offers commands 0x13 ≡ true
  pub room : length commands ≡ 32
  pub before : HasExchanged old new (take (place command.SetBus) (exchanges (record {
    tries = tries;
    noise = noise;
    late = late;
    version = first_version;
    commands = commands;
    buffer = None;
    sends = [];
    gives = [];
  })))

abbrev pub Learns : Wire → Wire → Result (List ℕ) GreetFault → Type 0
Learns before after (Ok commands) = HasLearnt before after commands
Learns before after (Err why) = Greeted before after (Err why)

-- the reader's count of failures rises by one exactly where a command's fault is Read, the writer's where it is Write
abbrev pub CountsGreetReads : {T : Type 0} → ℕ → ℕ → Result T GreetFault → Type 0
CountsGreetReads before after (Err (refused.Command at fault.Read)) = after ≡ one_more before
CountsGreetReads before after other = after ≡ before

abbrev pub CountsGreetWrites : {T : Type 0} → ℕ → ℕ → Result T GreetFault → Type 0
CountsGreetWrites before after (Err (refused.Command at fault.Write)) = after ≡ one_more before
CountsGreetWrites before after other = after ≡ before
