-- What is known of a chip's address modes, and how the one that was said is made (JESD216B, basic table: DWORD 1, bits 18:17, and DWORD 16;
-- W25Q256JV datasheet: Enter 4-Byte Address Mode B7h, Exit E9h, ADS).
use Rattle.std.specs.Prelude.{◌≡◌, ℕ, ◌/◌, ◌%◌, ◌==◌, not, ◌||◌, Bool, true, false, if◌then◌else◌, List, [], Result, Ok, Err}
use Rattle.std.proofs.Math.Bool.{beq}
use Rattle.nor_base.specs.declared.meaning.Part.{Part}
use Rattle.nor_base.specs.declared.meaning.Part.TheVariants.{Generic, W25q256jv}
use Rattle.nor_base.specs.declared.meaning.Switch.{Switch}
use Rattle.nor_base.specs.declared.meaning.Switch.TheVariants.{Absent}
use Rattle.nor_base.specs.declared.meaning.Width.{Width}
use Rattle.nor_base.specs.declared.meaning.Width.TheVariants.{Three}
use Rattle.nor_base.specs.Instructions.{is_there}
use Rattle.nor_base.specs.Parameters.{Parameters}
use Rattle.nor_loop.specs.Log.{Operation, HasLogged}
use Rattle.nor_loop.specs.Reads.{switch_ops}
use Rattle.nor_reader.specs.Switched.{StopsAmong}
use Rattle.nor_reader.specs.Telling.{opcode_to}
use Rattle.nor_serprog.specs.declared.fault.Fault.{Fault}
use Rattle.nor_sfdp.specs.declared.fault.SfdpFault.{SfdpFault}
use Rattle.nor_sfdp.specs.Reading.{meaning_of}
use Rattle.nor_base.specs.Wire.{Wire}
use Rattle.norprog_read.specs.declared.asked.Ask.{Ask}
use Rattle.norprog_read.specs.declared.asked.Known.{Known}
use Rattle.norprog_read.specs.declared.asked.Known.TheVariants.{Sheet, Uniform}
use Rattle.norprog_read.specs.declared.mode.Modes.{Modes}
use Rattle.norprog_read.specs.declared.fault.Unlike.TheVariants as unlike
use Rattle.norprog_read.specs.declared.fault.Unread.{Unread}
use Rattle.norprog_read.specs.declared.fault.Unread.TheVariants.{Unlike}
use Rattle.norprog_read.specs.Asked.{AsksStatus, StopsStatus}
use Rattle.norprog_read.specs.Way.{has_both}

-- a chip of this width takes three address bytes in any case
abbrev pub has_three : Width → Bool
has_three Three = true
has_three other = false

-- the tables of a chip of a size say that three is its only mode, and how another is entered and left; where they aren't accepted nothing is
-- known of that
abbrev pub own_modes : Result Parameters SfdpFault → Modes
own_modes (Ok m) = record { one = has_three m.width; enter = m.enter; leave = m.leave }
own_modes (Err why) = record { one = false; enter = Absent; leave = Absent }

-- a meaning says that a mode is the only one, and how another is entered and left
abbrev pub said_modes : Parameters → Modes
said_modes m = record { one = not (has_both m.width); enter = m.enter; leave = m.leave }

-- a sheet that says three address bytes leaves the modes to the tables
abbrev pub sheet_modes : Result Parameters SfdpFault → Parameters → Modes
sheet_modes own m = if has_three m.width then own_modes own else said_modes m

-- what is known of a chip's modes: by its meaning or, of a chip of a size, by the tables that came
abbrev pub modes_of : Known → List ℕ → Parameters → Modes
modes_of (Uniform size) tables m = own_modes (meaning_of tables [] Generic)
modes_of (Sheet text) tables m = sheet_modes (meaning_of tables [] Generic) m
modes_of other tables m = said_modes m

-- how a chip whose content is wanted gets into the mode that is said
abbrev pub switch_to : Bool → Bool → Modes → Switch
switch_to wanted said modes = if wanted then (if said then modes.enter else modes.leave) else Absent

-- its operations
abbrev pub mode_ops : Bool → Bool → Modes → List Operation
mode_ops wanted said modes = switch_ops (switch_to wanted said modes) (opcode_to said)

-- the status of a part that is known to have it shows the mode, by S16 (ADS)
abbrev pub shows_mode : Part → Bool
shows_mode Generic = false
shows_mode W25q256jv = true

-- and says another one
abbrev pub is_otherwise : Part → Bool → ℕ → Bool
is_otherwise Generic mode4 status = false
is_otherwise W25q256jv mode4 status = not (beq (status / 65536 % 2 == 1) mode4)

-- the mode is sure: the chip's power was just switched on, it has only that one, its status shows it, or it was made so
abbrev pub is_sure : Ask → Bool → Modes → Bool
is_sure ask said modes = ask.fresh || (modes.one || (shows_mode ask.part || is_there (switch_to ask.content said modes)))

-- these operations were done
abbrev pub HasDone : Wire → Wire → List Operation → Type 0
HasDone before after ops = HasLogged before after ops

-- the mode that was said is made by these operations, from one status to the next: they were sent to a part of which nothing is known; a
-- status that shows the mode shows that one, and nothing was sent; or it showed the other one, they were sent, and the next status shows it
pub data MakesMode (before after : Wire) (ask : Ask) (ops : List Operation) (first : ℕ) : ℕ → Type 0 where
  Sent : shows_mode ask.part ≡ false → HasDone before after ops → MakesMode before after ask ops first first
  Shown : shows_mode ask.part ≡ true → is_otherwise ask.part ask.mode4 first ≡ false → after ≡ before → MakesMode before after ask ops first first
  Made : (between : Wire) (next : ℕ) → HasDone before between ops → AsksStatus between after ask (Ok next)
      → is_otherwise ask.part ask.mode4 next ≡ false → MakesMode before after ask ops first next

-- it isn't: the exchange of one of them ended early, or then the status didn't come, or it shows the other mode
pub data StopsMode (before after : Wire) (ask : Ask) (ops : List Operation) : Unread → Type 0 where
  Unsent : (why : Fault) → StopsAmong before after ops why
      → StopsMode before after ask ops (Unlike (unlike.Asking why))
  Unasked : (between : Wire) (why : Unread) → HasDone before between ops → StopsStatus between after ask why
      → StopsMode before after ask ops why
  Otherwise : (between : Wire) (next : ℕ) → HasDone before between ops → AsksStatus between after ask (Ok next)
      → is_otherwise ask.part ask.mode4 next ≡ true → StopsMode before after ask ops (Unlike (unlike.Mode next))
