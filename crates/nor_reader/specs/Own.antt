-- The register that holds a chip's address bits from A24 on while its instructions take three address bytes (JESD216B, basic table,
-- DWORD 16, Enter 4-Byte Addressing).
use Rattle.std.specs.Prelude.{ℕ, ◌==◌, not, Bool, List, Option, Some, None, option_and_then, Result, Ok, Err, if◌then◌else◌}
use Rattle.nor_sfdp.specs.declared.fault.SfdpFault.{SfdpFault}
use Rattle.nor_sfdp.specs.Bits.{bits, dword_at, is_set}
use Rattle.nor_sfdp.specs.Tables.{table_of}
use Rattle.nor_reader.specs.declared.own.AddressRegister.{AddressRegister}
use Rattle.nor_reader.specs.declared.own.AddressRegister.TheVariants.{Extended, Bank}

-- the register that DWORD 16 names: bit 26, an extended address register; bit 27, a bank register. Own: the first where both are set
abbrev pub named_by : ℕ → Option AddressRegister
named_by dword16 = if is_set dword16 26 then Some Extended else (if is_set dword16 27 then Some Bank else None)

-- the one of a basic table; none where the table has no DWORD 16
abbrev pub register_in : List ℕ → Option AddressRegister
register_in basic = option_and_then named_by (dword_at basic 16)

-- the one of the table that was found, if one was
abbrev pub register_where_there : Result (Option (List ℕ)) SfdpFault → Option AddressRegister
register_where_there (Ok (Some basic)) = register_in basic
register_where_there (Ok None) = None
register_where_there (Err fault) = None

-- the one that SFDP bytes name
abbrev pub register_of : List ℕ → Option AddressRegister
register_of tables = register_where_there (table_of tables 0xFF00)

-- the instruction that reads it: C8h an extended address register, 16h a bank register
abbrev pub opcode_of : AddressRegister → ℕ
opcode_of Extended = 0xC8
opcode_of Bank = 0x16

-- some address bit of its value is 1: bits 7:0 of an extended address register, A31 to A24; bits 6:0 of a bank register, A30 to A24, whose
-- bit 7 is the address mode
abbrev pub is_moved : AddressRegister → ℕ → Bool
is_moved Extended value = not (bits value 7 0 == 0)
is_moved Bank value = not (bits value 6 0 == 0)
