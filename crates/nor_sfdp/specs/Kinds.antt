-- Erase kinds (JESD216B, 6.4.11 and 6.4.12: FF00h DWORDs 8 and 9; 6.6: FF84h DWORDs 1 and 2).
use Rattle.std.specs.Prelude.{ℕ, ◌+◌, ◌-◌, ◌*◌, ◌^◌, ◌==◌, ◌||◌, nat_lt, ◌<◌, ◌≤◌, Option, Some, None, IfSome, List, [], ◌∷◌, Result, Ok, Err, if◌then◌else◌}
use Rattle.nor_base.specs.declared.meaning.Erase.{Erase}
use Rattle.nor_base.specs.Accepted.{IsPowerOfTwo}
use Rattle.nor_sfdp.specs.declared.fault.SfdpFault.{SfdpFault}
use Rattle.nor_sfdp.specs.declared.fault.SfdpFault.TheVariants.{EraseSize}
use Rattle.nor_sfdp.specs.Bits.{bits, is_set}
use Rattle.nor_sfdp.specs.Tables.{◌>>=◌}

-- FF84h DWORD 1 bits 9 to 12, Support for Erase Type 1 to 4 with 4-byte addresses; DWORD 2: their instructions, Erase
-- Type 1 in the lowest byte
unfoldable pub dedicated_of : ℕ → ℕ → ℕ → Option ℕ
dedicated_of offered opcodes kind = if is_set offered (8 + kind) then Some (bits opcodes (8 * kind - 1) (8 * kind - 8)) else None

-- Erase Type Size N (2^N bytes; 0: there is no such kind) and Instruction; own: from 256 bytes to 16 MiB, and whole pages
unfoldable pub kind_of : ℕ → ℕ → ℕ → Option ℕ → Result (Option Erase) SfdpFault
kind_of page exponent op op4 =
    if exponent == 0 then Ok None
    else (if nat_lt exponent 8 || nat_lt 24 exponent || nat_lt (2 ^ exponent) page then Err EraseSize
    else Ok (Some (record { size = 2 ^ exponent; op = op; op4 = op4 })))

-- DWORD 8: bits 7:0 size and 15:8 instruction of Erase Type 1, 23:16 and 31:24 of Erase Type 2; DWORD 9: of 3 and 4
unfoldable pub kinds_of : ℕ → ℕ → ℕ → ℕ → ℕ → Result (List (Option Erase)) SfdpFault
kinds_of page dword8 dword9 offered opcodes = do
  kind1 ← kind_of page (bits dword8 7 0) (bits dword8 15 8) (dedicated_of offered opcodes 1)
  kind2 ← kind_of page (bits dword8 23 16) (bits dword8 31 24) (dedicated_of offered opcodes 2)
  kind3 ← kind_of page (bits dword9 7 0) (bits dword9 15 8) (dedicated_of offered opcodes 3)
  kind4 ← kind_of page (bits dword9 23 16) (bits dword9 31 24) (dedicated_of offered opcodes 4)
  Ok (kind1 ∷ kind2 ∷ kind3 ∷ kind4 ∷ [])

-- what holds of a slot that was read on a chip of a page
pub record IsKindOf (page : ℕ) (erase : Erase) : Type 0 where
  pub size : IsPowerOfTwo 8 24 erase.size
  pub whole_pages : page ≤ erase.size
  pub op : erase.op < 256
  pub op4 : IfSome erase.op4 (λ opcode. opcode < 256)

abbrev pub IsKind : ℕ → Option Erase → Type 0
IsKind page slot = IfSome slot (IsKindOf page)
