-- The lines of a chip that was read, and of one that wasn't (this project's).
use Rattle.std.specs.Prelude.{ℕ, Bool, true, false, List, [], ◌++◌, length, codes, decimal, Option, Some, None}
use Rattle.nor_base.specs.Script.{hex_pair}
use Rattle.nor_script.specs.Hexadecimal.{hex_number}
use Rattle.norprog.specs.ChipText.{meaning_text}
use Rattle.norprog_device.specs.Line.{fault_word}
use Rattle.norprog_device.specs.Shown.{digits_line, other_line, registers, status_line}
use Rattle.norprog_read.specs.declared.fault.Unlike.{Unlike}
use Rattle.nor_sfdp.specs.declared.fault.SfdpFault.{SfdpFault}
use Rattle.nor_sfdp.specs.declared.fault.SfdpFault.TheVariants as sfdp
use Rattle.norprog_read.specs.declared.fault.Unlike.TheVariants.{Busy, Asking, Mode, At, Tables, NoTables, Size, Moved, Id, Repeats, Line, Unreadable, Hidden}
use Rattle.norprog_read.specs.declared.asked.Reading.{Reading}

-- how many bytes came twice alike, where they were wanted
abbrev pub content_line : Bool → List ℕ → List ℕ
content_line true content = codes "read " ++ (decimal (length content) ++ codes " twice alike\n")
content_line false content = []

-- the size that its identification says, where that is to be noted
abbrev pub note_line : Option ℕ → List ℕ
note_line (Some size) = codes "note: the identification says " ++ (decimal size ++ codes " bytes\n")
note_line None = []

-- the lines of a chip that was read
abbrev pub reading_text : Reading → List ℕ
reading_text r =
    digits_line (codes "id ") r.id
    ++ (note_line r.note ++ (status_line (codes "status ") r.part r.status ++ (meaning_text r.meaning ++ content_line r.whole r.content.items)))

-- the number of a cause for which SFDP bytes aren't accepted
abbrev pub fault_number : SfdpFault → ℕ
fault_number sfdp.Signature = 1
fault_number sfdp.Truncated = 2
fault_number sfdp.NoBasic = 3
fault_number sfdp.Major = 4
fault_number sfdp.ShortTable = 5
fault_number sfdp.Density = 6
fault_number sfdp.AddressBytes = 7
fault_number sfdp.PageSize = 8
fault_number sfdp.EraseSize = 9
fault_number sfdp.MapForm = 10
fault_number sfdp.ConfigBits = 11
fault_number sfdp.NoMap = 12
fault_number sfdp.MapSize = 13
fault_number sfdp.Opcode = 14

-- what the chip says that it is, and why it has no tables
abbrev pub no_tables_lines : List ℕ → SfdpFault → List ℕ
no_tables_lines id fault = digits_line (codes "id ") id ++ (codes "no tables: " ++ (decimal (fault_number fault) ++ codes "\n"))

-- why the chip isn't read
abbrev pub unlike_line : Unlike → List ℕ
unlike_line Busy = codes "unlike busy\n"
unlike_line (Asking why) = codes "unlike " ++ (fault_word why ++ codes "\n")
unlike_line (Mode status) = digits_line (codes "unlike status ") (registers status)
unlike_line (At address) = codes "unlike at " ++ (hex_number address ++ codes "\n")
unlike_line (Tables d) = other_line (codes "unlike tables at ") (codes " file ") d
unlike_line (NoTables id fault) = no_tables_lines id fault
unlike_line (Size size) = codes "unlike size: the chip's tables say " ++ (decimal size ++ codes " bytes\n")
unlike_line (Moved value) = codes "unlike register " ++ (hex_pair value ++ codes "\n")
unlike_line (Id id) = digits_line (codes "unlike id ") id
unlike_line Repeats = codes "unlike repeats\n"
unlike_line Line = codes "unlike line\n"
unlike_line Unreadable = codes "unreadable\n"
unlike_line Hidden = codes "unreadable: what the chip holds doesn't show its address mode\n"
