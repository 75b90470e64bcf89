-- Four-byte address mode, entered and left (W25Q256JV datasheet: Enter B7h and Exit E9h, Write Enable 06h and Write Disable 04h; the
-- exchanges are the Serial Flasher Protocol's).
use Rattle.std.specs.Prelude.{◌≡◌, ℕ, List, ◌∷◌, ◌++◌, length, Option, Result, Ok, Err}
use Rattle.nor_base.specs.declared.meaning.Switch.{Switch}
use Rattle.nor_base.specs.declared.meaning.Switch.TheVariants.{Absent}
use Rattle.nor_base.specs.Device.{Ahead}
use Rattle.nor_base.specs.Wire.{Wire, wire}
use Rattle.nor_serprog.specs.declared.fault.Fault.{Fault}
use Rattle.nor_serprog.specs.Exchange.{Answers, Asks}
use Rattle.nor_serprog.specs.Protocol.{request}
use Rattle.nor_loop.specs.Log.{Operation, HasLogged}
use Rattle.nor_loop.specs.Reads.{switch_ops}
use Rattle.nor_reader.specs.declared.by.ReadBy.{ReadBy}
use Rattle.nor_reader.specs.declared.by.ReadBy.TheVariants.{Entered}

-- how it is entered for a reading
abbrev pub enter_of : ReadBy → Switch
enter_of (Entered enter leave) = enter
enter_of other = Absent

-- and left after it
abbrev pub leave_of : ReadBy → Switch
leave_of (Entered enter leave) = leave
leave_of other = Absent

-- the operations that do so; none where it isn't entered
abbrev pub enter_ops : ReadBy → List Operation
enter_ops by = switch_ops (enter_of by) 0xB7

abbrev pub leave_ops : ReadBy → List Operation
leave_ops by = switch_ops (leave_of by) 0xE9

-- of these operations some were done, and the exchange of the next one ended so
pub record StopsAmong (before after : Wire) (ops : List Operation) (why : Fault)
    : Type 0 where
  pub front : List Operation
  pub last : Operation
  pub rest : List Operation
  pub those : ops ≡ front ++ last ∷ rest
  pub held : Option (List ℕ)
  pub ahead : Ahead
  pub done : HasLogged before (wire held ahead) front
  pub stop : Asks (wire held ahead) after (Err why) (request last.sent (length last.got)) (Answers ahead after.ahead (Err why) last.got)

-- what such operations say
abbrev pub Operates : Wire → Wire → Result (Unit {0}) Fault → List Operation → Type 0
Operates before after (Ok u) ops = HasLogged before after ops
Operates before after (Err why) ops = StopsAmong before after ops why
