-- The test of the line to a serprog device: whether each byte reaches it as it was sent (this project's; the commands are those of
-- flashrom's Serial Flasher Protocol Specification, version 1: O_SPIOP 13h, NOP 00h, S_CMD_SYNCNOP 10h).
use Rattle.std.specs.Prelude.{◌≡◌, ◌<◌, ℕ, Bool, true, ◌+◌, ◌-◌, ◌*◌, ◌&&◌, if◌then◌else◌, nat_lt, nat_le, List, [], ◌∷◌, ◌++◌, length, map, take, drop, replicate, Option, Result, Ok, Err}
use Rattle.std.specs.List.{list_all, concat, range_with_len}
use Rattle.nor_base.specs.Device.{Ahead}
use Rattle.nor_base.specs.Wire.{Wire, wire}
use Rattle.nor_serprog.specs.declared.fault.Fault.{Fault}
use Rattle.nor_serprog.specs.declared.limits.Limits.{Limits}
use Rattle.nor_serprog.specs.Protocol.{ACK, NAK, request, answer}
use Rattle.nor_serprog.specs.Exchange.{Asks, Misses}
use Rattle.nor_serprog.specs.Greeting.{Exchange, HasExchanged}

-- each byte value once, in rising order
unfoldable pub all_values : List ℕ
all_values = range_with_len 0 256

-- a command that is answered by ACK alone
abbrev pub acknowledged : List ℕ → Exchange
acknowledged command = record { put = command; given = answer [] }

-- an operation that sends a status read (05h), bytes that the chip ignores meanwhile, and asks for no byte
abbrev pub ignored : List ℕ → Exchange
ignored bytes = acknowledged (request (0x05 ∷ bytes) 0)

-- a piece is sent in one operation: it isn't empty, and there is room for 05h before it
abbrev pub is_piece : ℕ → List ℕ → Bool
is_piece sent piece = nat_lt 0 (length piece) && nat_lt (length piece) sent

-- all values in pieces, for a device that sends so many bytes in an operation; no piece more than needed. Where 05h alone has room there
-- is none
pub record ArePieces (sent : ℕ) (pieces : List (List ℕ)) : Type 0 where
  pub whole : concat pieces ≡ (if nat_lt 1 sent then all_values else [])
  pub each : list_all (is_piece sent) pieces ≡ true
  pub fewest : length pieces * (sent - 1) < 256 + (sent - 1)

abbrev pub values_test : List (List ℕ) → List Exchange
values_test pieces = map ignored pieces

-- an operation that sends 05h and then zeros, so many bytes in all, where the device sends so many
unfoldable pub zeros_if : ℕ → ℕ → List Exchange
zeros_if sent count = if nat_le count sent then ignored (replicate (count - 1) 0x00) ∷ [] else []

-- of 13, 97 and 128 bytes, which are 0Dh, 61h and 80h: where CR becomes LF, lower case upper case, or a byte has seven bits, a request
-- would tell 0Ah, 41h and 00h, and what is left of the zeros would be NOPs
abbrev pub lengths_test : ℕ → List Exchange
lengths_test sent = zeros_if sent 0x0D ++ (zeros_if sent 0x61 ++ zeros_if sent 0x80)

-- NOP, and then the word, which NAK and ACK alone answer
abbrev pub end_test : List Exchange
end_test = acknowledged (0x00 ∷ []) ∷ record { put = 0x10 ∷ []; given = NAK ∷ ACK ∷ [] } ∷ []

-- the whole test
abbrev pub line_test : List (List ℕ) → Limits → List Exchange
line_test pieces limits = values_test pieces ++ (lengths_test limits.sent ++ end_test)

-- each exchange of the test was done
pub record HasTested (before after : Wire) (limits : Limits) : Type 0 where
  pub pieces : List (List ℕ)
  pub are : ArePieces limits.sent pieces
  pub talked : HasExchanged before after (line_test pieces limits)

-- the first of some exchanges ended so
abbrev pub Breaks : Wire → Wire → Fault → List Exchange → Type 0
Breaks before after why [] = ⊥
Breaks before after why (x ∷ more) = Asks before after (Err why) x.put
    (Misses before.ahead after.ahead why x.given)

-- so many of some exchanges were done, and the next one ended so
pub record StopsIn (old new : Wire) (why : Fault) (exchanges : List Exchange)
    : Type 0 where
  pub at : ℕ
  pub held : Option (List ℕ)
  pub ahead : Ahead
  pub before : HasExchanged old (wire held ahead) (take at exchanges)
  pub stop : Breaks (wire held ahead) new why (drop at exchanges)

-- an exchange of the test ended so
pub record StopsTest (before after : Wire) (limits : Limits) (why : Fault)
    : Type 0 where
  pub pieces : List (List ℕ)
  pub are : ArePieces limits.sent pieces
  pub stops : StopsIn before after why (line_test pieces limits)

-- what a test says
abbrev pub TestsLine : Wire → Wire → Result (Unit {0}) Fault → Limits → Type 0
TestsLine before after (Ok u) limits = HasTested before after limits
TestsLine before after (Err why) limits = StopsTest before after
    limits why

-- what a part of it says, of these exchanges
abbrev pub Exchanges : Wire → Wire → Result (Unit {0}) Fault → List Exchange → Type 0
Exchanges before after (Ok u) exchanges = HasExchanged before after
    exchanges
Exchanges before after (Err why) exchanges = StopsIn before after
    why exchanges

-- the values were sent in pieces
abbrev pub SendsValues : Wire → Wire → Result (Unit {0}) Fault → ℕ → Type 0
SendsValues before after result sent =
    (pieces : List (List ℕ)) × ArePieces sent pieces × Exchanges before after result
    (values_test pieces)
