-- The basic flash parameter table FF00h (JESD216B, 6.4), DWORD by DWORD.
use Rattle.std.specs.Prelude.{ℕ, ◌+◌, ◌/◌, ◌%◌, ◌^◌, ◌==◌, ◌||◌, not, nat_lt, Bool, true, false, Option, Some, None, Result, Ok, Err, if◌then◌else◌}
use Rattle.nor_base.specs.declared.meaning.Width.{Width}
use Rattle.nor_base.specs.declared.meaning.Width.TheVariants.{Three, Both, Four}
use Rattle.nor_base.specs.declared.meaning.Switch.{Switch}
use Rattle.nor_base.specs.declared.meaning.Switch.TheVariants.{Absent, Plain, Latched}
use Rattle.nor_base.specs.declared.meaning.QuadRead.{QuadRead}
use Rattle.nor_sfdp.specs.declared.fault.SfdpFault.{SfdpFault}
use Rattle.nor_sfdp.specs.declared.fault.SfdpFault.TheVariants.{Density, AddressBytes, PageSize}
use Rattle.nor_sfdp.specs.declared.basic.Page.{Page}
use Rattle.nor_sfdp.specs.Bits.{bits, is_set}

-- a density in bits: a whole number of bytes, not 0, a multiple of 4096 bytes, at most 256 MiB
abbrev pub size_in_bytes : ℕ → Result ℕ SfdpFault
size_in_bytes density =
    if not (density % 8 == 0) || (density / 8 == 0) || not (density / 8 % 4096 == 0) || nat_lt (2 ^ 28) (density / 8) then Err Density
    else Ok (density / 8)

-- DWORD 2, Flash Memory Density. Bit 31 clear: bits 30:0 are the density in bits, minus one; set: it is 2^N, N in bits 30:0,
-- over 256 MiB where N is past 31
unfoldable pub size_of : ℕ → Result ℕ SfdpFault
size_of dword2 =
    if not (is_set dword2 31) then size_in_bytes (bits dword2 30 0 + 1)
    else if nat_lt 31 (bits dword2 30 0) then Err Density
    else size_in_bytes (2 ^ bits dword2 30 0)

-- DWORD 1 bits 18:17, Address Bytes: 00 three, 01 three or four, 10 four, 11 reserved. DWORD 16 bit 30: always four
unfoldable pub width_of : ℕ → ℕ → Result Width SfdpFault
width_of dword1 dword16 =
    if bits dword1 18 17 == 3 then Err AddressBytes
    else (if (bits dword1 18 17 == 2) || is_set dword16 30 then Ok Four
    else (if bits dword1 18 17 == 1 then Ok Both else Ok Three))

-- DWORD 11 bits 7:4, Page Size: 2^N bytes, from 16 to 4096. A table of fewer than 16 DWORDs has DWORD 1 bit 2, Write
-- Granularity: where it is set, the page is 64 bytes or larger
unfoldable pub page_of : ℕ → ℕ → ℕ → Result Page SfdpFault
page_of dwords dword1 dword11 =
    if nat_lt dwords 16 then (if is_set dword1 2 then Ok (record { size = 64; open_page = true }) else Err PageSize)
    else (if nat_lt (bits dword11 7 4) 4 || nat_lt 12 (bits dword11 7 4) then Err PageSize
    else Ok (record { size = 2 ^ bits dword11 7 4; open_page = false }))

-- DWORD 16, Enter and Exit 4-Byte Addressing: by the opcode alone, or after a write enable. DWORD 1 bits 18:17 have to
-- say three or four address bytes, and DWORD 16 bit 30 must not say always four
unfoldable pub switch_of : Width → Bool → Bool → Switch
switch_of Both plain latched = if plain then Plain else (if latched then Latched else Absent)
switch_of other plain latched = Absent

-- DWORD 1 bit 22, Supports (1-1-4) Fast Read, and DWORD 3, of it: bits 20:16 wait states, 23:21 mode clocks, 31:24
-- instruction
abbrev pub quad_read_of : ℕ → ℕ → Option QuadRead
quad_read_of dword1 dword3 =
    if is_set dword1 22 then Some (record { op = bits dword3 31 24; dummies = bits dword3 20 16 + bits dword3 23 21 }) else None
