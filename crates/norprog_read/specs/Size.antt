-- What a chip says of its size, and whether a register of it moves all addresses (JESD216B, basic table: DWORD 2, and DWORD 16, bits 26 and
-- 27; JEDEC: Read Identification 9Fh, whose third byte is usually the power of two that the size is).
use Rattle.std.specs.Prelude.{◌≡◌, ℕ, ◌==◌, ◌^◌, nat_le, ◌&&◌, Bool, true, false, if◌then◌else◌, List, [], ◌∷◌, Option, Some, None, Result, Ok, Err}
use Rattle.nor_base.specs.Parameters.{Parameters}
use Rattle.nor_reader.specs.declared.own.AddressRegister.{AddressRegister}
use Rattle.nor_reader.specs.Own.{is_moved, opcode_of, register_of}
use Rattle.nor_reader.specs.Status.{ReadsRegister}
use Rattle.nor_serprog.specs.declared.fault.Fault.{Fault}
use Rattle.nor_sfdp.specs.declared.fault.SfdpFault.{SfdpFault}
use Rattle.nor_sfdp.specs.Reading.{density_of}
use Rattle.nor_base.specs.Wire.{Wire}
use Rattle.norprog_read.specs.declared.asked.Ask.{Ask}
use Rattle.norprog_read.specs.declared.asked.Known.{Known}
use Rattle.norprog_read.specs.declared.asked.Known.TheVariants.{Sheet, Uniform}
use Rattle.norprog_read.specs.declared.fault.Unlike.TheVariants as unlike
use Rattle.norprog_read.specs.declared.fault.Unread.{Unread}
use Rattle.norprog_read.specs.declared.fault.Unread.TheVariants.{Unlike}

-- a size that isn't another one
abbrev pub unless : ℕ → ℕ → Option ℕ
unless size own = if own == size then None else Some own

abbrev pub size_unless : ℕ → Result ℕ SfdpFault → Option ℕ
size_unless size (Ok own) = unless size own
size_unless size (Err why) = None

-- the size that is said of a chip of this meaning, itself or in its sheet
abbrev pub said_size : Known → Parameters → Option ℕ
said_size (Uniform size) m = Some size
said_size (Sheet text) m = Some m.size
said_size other m = None

-- the size that the tables of such a chip say, where it is another one and none is allowed
abbrev pub size_told : Option ℕ → Bool → List ℕ → Option ℕ
size_told (Some size) false tables = size_unless size (density_of tables)
size_told said any tables = None

abbrev pub other_size : Ask → Parameters → List ℕ → Option ℕ
other_size ask m tables = size_told (said_size ask.known m) ask.any_size tables

abbrev pub TellsSize : Option ℕ → Unread → Type 0
TellsSize (Some size) why = why ≡ Unlike (unlike.Size size)
TellsSize None why = ⊥

-- the bytes that are usual for the third byte of an identification: from 64 KiB to 64 MiB
abbrev pub size_by : ℕ → Option ℕ
size_by exponent = if nat_le 0x10 exponent && nat_le exponent 0x1A then Some (2 ^ exponent) else None

abbrev pub noted : ℕ → Option ℕ → Option ℕ
noted size (Some own) = unless size own
noted size None = None

-- the size that an identification says, where the size was said and is another one
abbrev pub noted_size : Option ℕ → List ℕ → Option ℕ
noted_size (Some size) (maker ∷ high ∷ exponent ∷ []) = noted size (size_by exponent)
noted_size (Some size) other = None
noted_size None id = None

-- the register that moves all addresses of a chip whose content is wanted, where its tables name one
abbrev pub asked_register : Bool → List ℕ → Option AddressRegister
asked_register wanted tables = if wanted then register_of tables else None

-- it was read
abbrev pub AsksRegister : Wire → Wire → AddressRegister → Result ℕ Fault → Type 0
AsksRegister before after register result = ReadsRegister before after result (opcode_of register)

-- no register was asked for; or it was read, and moves none
pub data IsUnmoved (before after : Wire) : Option AddressRegister → Type 0 where
  Unasked : after ≡ before → IsUnmoved before after None
  Unmoved : (register : AddressRegister) (value : ℕ) → AsksRegister before after register (Ok value) → is_moved register value ≡ false
      → IsUnmoved before after (Some register)

-- its exchange ended early, or it moves some
pub data StopsMoved (before after : Wire) (asked : Option AddressRegister) : Unread → Type 0 where
  Lost : (register : AddressRegister) (why : Fault) → asked ≡ Some register → AsksRegister before after register (Err why)
      → StopsMoved before after asked (Unlike (unlike.Asking why))
  Moved : (register : AddressRegister) (value : ℕ) → asked ≡ Some register → AsksRegister before after register (Ok value)
      → is_moved register value ≡ true → StopsMoved before after asked (Unlike (unlike.Moved value))
