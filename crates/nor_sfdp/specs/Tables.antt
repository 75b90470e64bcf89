-- The tables that are read.
use Rattle.std.specs.Prelude.{ℕ, ◌+◌, ◌*◌, ◌||◌, nat_lt, false, List, length, take, drop, Option, Some, None, Result, Ok, Err, if◌then◌else◌}
use Rattle.std.specs.Option.{option_map_or}
use Rattle.nor_sfdp.specs.declared.fault.SfdpFault.{SfdpFault}
use Rattle.nor_sfdp.specs.declared.fault.SfdpFault.TheVariants.{Truncated, NoBasic, ShortTable}
use Rattle.nor_sfdp.specs.declared.header.Header.{Header}
use Rattle.nor_sfdp.specs.declared.tables.Tables.{Tables}
use Rattle.nor_sfdp.specs.Headers.{header_count_of, headers_of, newest}

infixl 10 ◌>>=◌
abbrev pub ◌>>=◌ : {A B : Type 0} → Result A SfdpFault → (A → Result B SfdpFault) → Result B SfdpFault
(Ok x) >>= f = f x
(Err fault) >>= f = Err fault

-- the bytes of a header's table
unfoldable pub cut_of : List ℕ → Header → Result (List ℕ) SfdpFault
cut_of bytes header =
    if nat_lt (length bytes) (header.address + 4 * header.dwords) then Err Truncated
    else Ok (take (4 * header.dwords) (drop header.address bytes))

unfoldable pub cut_where_there : List ℕ → Option Header → Result (Option (List ℕ)) SfdpFault
cut_where_there bytes None = Ok None
cut_where_there bytes (Some header) = cut_of bytes header >>= λ table. Ok (Some table)

-- the table of an ID
unfoldable pub table_of : List ℕ → ℕ → Result (Option (List ℕ)) SfdpFault
table_of bytes id = do
  count ← header_count_of bytes
  cut_where_there bytes (newest id (headers_of bytes count))

-- the tables that a header is there for: FF00h has to be, with nine DWORDs, and FF84h needs two
abbrev pub tables_by : List ℕ → Option Header → Option Header → Option Header → Result Tables SfdpFault
tables_by bytes None sectors four_byte = Err NoBasic
tables_by bytes (Some basic) sectors four_byte =
    if nat_lt basic.dwords 9 || option_map_or (λ header. nat_lt header.dwords 2) four_byte false then Err ShortTable
    else (cut_of bytes basic >>= λ basic_table. cut_where_there bytes sectors >>= λ sectors_table. cut_where_there bytes four_byte >>= λ four_byte_table.
    Ok (record { basic = basic_table; sectors = sectors_table; four_byte = four_byte_table }))

unfoldable pub tables_of : List ℕ → Result Tables SfdpFault
tables_of bytes = do
  count ← header_count_of bytes
  tables_by bytes (newest 0xFF00 (headers_of bytes count)) (newest 0xFF81 (headers_of bytes count)) (newest 0xFF84 (headers_of bytes count))
