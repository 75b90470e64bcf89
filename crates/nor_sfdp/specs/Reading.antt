-- What SFDP bytes, configuration bits and the part together say of a chip, or the first fault in the order of looking.
use Rattle.std.specs.Prelude.{ℕ, ◌==◌, ◌&&◌, not, Bool, true, false, List, Option, Some, None, is_some, Result, Ok, Err, if◌then◌else◌}
use Rattle.std.specs.List.{list_any}
use Rattle.nor_base.specs.declared.meaning.Part.{Part}
use Rattle.nor_base.specs.declared.meaning.Part.TheVariants.{Generic, W25q256jv}
use Rattle.nor_base.specs.declared.meaning.Width.{Width}
use Rattle.nor_base.specs.declared.meaning.Erase.{Erase}
use Rattle.nor_base.specs.declared.meaning.Region.{Region}
use Rattle.nor_base.specs.declared.meaning.QuadRead.{QuadRead}
use Rattle.nor_base.specs.Parameters.{Parameters}
use Rattle.nor_base.specs.Accepted.{are_distinct}
use Rattle.nor_sfdp.specs.declared.fault.SfdpFault.{SfdpFault}
use Rattle.nor_sfdp.specs.declared.fault.SfdpFault.TheVariants.{NoBasic, Opcode}
use Rattle.nor_sfdp.specs.declared.basic.Page.{Page}
use Rattle.nor_sfdp.specs.declared.tables.Tables.{Tables}
use Rattle.nor_sfdp.specs.Bits.{dword_count, word, word_in, is_set}
use Rattle.nor_sfdp.specs.Tables.{◌>>=◌, table_of, tables_of}
use Rattle.nor_sfdp.specs.Basic.{size_of, width_of, page_of, switch_of, quad_read_of}
use Rattle.nor_sfdp.specs.Kinds.{kinds_of}
use Rattle.nor_sfdp.specs.SectorMap.{regions_of}
use Rattle.nor_sfdp.specs.Opcodes.{taken_opcodes}

-- no part is named
abbrev pub is_generic : Part → Bool
is_generic Generic = true
is_generic W25q256jv = false

-- own: a quad read whose opcode is taken counts as absent
abbrev pub free_read : List ℕ → Option QuadRead → Option QuadRead
free_read taken None = None
free_read taken (Some read) = if list_any (λ other. read.op == other) taken then None else Some read

-- what the basic table says of the chip as a whole
pub record Basic : Type 0 where
  pub size : ℕ
  pub width : Width
  pub page : Page

abbrev pub basic : ℕ → Width → Page → Basic
basic size width page = record { size = size; width = width; page = page }

-- the parameters, once all that can be refused is read
abbrev pub parameters_by : Tables → Part → Basic → List (Option Erase) → List Region → Parameters
parameters_by tables part chip kinds regions =
    let dword16 = word tables.basic 16 in
    let offered = word_in tables.four_byte 1 in
    let read = free_read (taken_opcodes kinds regions) (quad_read_of (word tables.basic 1) (word tables.basic 3)) in
    record {
      size = chip.size;
      page = chip.page.size;
      open_page = chip.page.open_page;
      width = chip.width;
      erases = kinds;
      regions = regions;
      -- FF00h DWORD 16 bits 24 and 25: B7h alone, 06h and then B7h; bits 14 and 15: E9h alone, 06h and then E9h
      enter = switch_of chip.width (is_set dword16 24) (is_set dword16 25);
      leave = switch_of chip.width (is_set dword16 14) (is_set dword16 15);
      quad_read = read;
      -- FF84h DWORD 1 bits 0, 4, 6 and 7: 13h, 6Ch, 12h and 34h
      read4 = is_set offered 0;
      quad_read4 = is_some read && is_set offered 4;
      program4 = is_set offered 6;
      quad4 = is_set offered 7;
      -- W25Q256JV datasheet, "Quad Input Page Program (32h)"
      quad3 = not (is_generic part);
      erased_only = false;
    }

-- the same, where no opcode stands twice
unfoldable pub completed : Tables → Part → Basic → List (Option Erase) → List Region → Result Parameters SfdpFault
completed tables part chip kinds regions =
    if are_distinct (taken_opcodes kinds regions) then Ok (parameters_by tables part chip kinds regions) else Err Opcode

unfoldable pub meaning_of : List ℕ → List ℕ → Part → Result Parameters SfdpFault
meaning_of bytes config part = do
  tables ← tables_of bytes
  size ← size_of (word tables.basic 2)
  width ← width_of (word tables.basic 1) (word tables.basic 16)
  page ← page_of (dword_count tables.basic) (word tables.basic 1) (word tables.basic 11)
  kinds ← kinds_of page.size (word tables.basic 8) (word tables.basic 9) (word_in tables.four_byte 1) (word_in tables.four_byte 2)
  regions ← regions_of tables.sectors config size
  completed tables part (basic size width page) kinds regions

-- the size by DWORD 2 of the basic table that was found, if one was
abbrev pub density_where_there : Option (List ℕ) → Result ℕ SfdpFault
density_where_there None = Err NoBasic
density_where_there (Some table) = size_of (word table 2)

-- of SFDP bytes, whatever else they say
unfoldable pub density_of : List ℕ → Result ℕ SfdpFault
density_of bytes = table_of bytes 0xFF00 >>= density_where_there
