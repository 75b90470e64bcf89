-- A chip's SFDP tables (JESD216B: the header with its signature, the parameter headers).
use Rattle.std.specs.Prelude.{◌≡◌, ℕ, ◌+◌, ◌*◌, ◌^◌, min, take, List, [], length, codes, Result, Ok, Err}
use Rattle.nor_base.specs.Device.{one_more}
use Rattle.nor_base.specs.Wire.{Wire}
use Rattle.nor_reader.specs.Known.{header_count, greatest, ends}
use Rattle.nor_reader.specs.declared.by.ReadBy.TheVariants.{Tables}
use Rattle.nor_reader.specs.declared.tables.TablesFault.{TablesFault}
use Rattle.nor_reader.specs.declared.tables.TablesFault.TheVariants.{Memory, NoSignature, Unread}
use Rattle.nor_serprog.specs.declared.fault.Fault.{Fault}
use Rattle.nor_serprog.specs.declared.fault.Fault.TheVariants as fault
use Rattle.nor_reader.specs.declared.difference.Mismatch.TheVariants.{Exchange}
use Rattle.nor_loop.specs.Reads.{chunk}
use Rattle.nor_reader.specs.Reads.{reads, HasReadOn, Reads, StopsOn}
use Rattle.nor_reader.specs.Twice.{twice, ReadTwice, StopsTwice}

-- the header begins with the signature
abbrev pub HasSignature : List ℕ → Type 0
HasSignature bytes = take 4 bytes ≡ codes "SFDP"

-- where the parameter headers end, after the header
abbrev pub headers_end : List ℕ → ℕ
headers_end bytes = 8 + 8 * header_count bytes

-- where the headers or the last table that one of them points at end, within what three address bytes reach
abbrev pub tables_size : List ℕ → ℕ
tables_size headers = min (2 ^ 24) (greatest (ends headers))

-- tables as far as their own headers reach
pub record AreTables (bytes : List ℕ) : Type 0 where
  pub signed : HasSignature bytes
  pub far : length bytes ≡ tables_size (take (headers_end bytes) bytes)

-- they are read by 5Ah, no more than so many bytes in one read
abbrev pub table_reads : ℕ → Reads
table_reads most = reads most Tables

-- they came twice alike, as far as their own headers reach
pub record HasReadTables (most : ℕ) (before after : Wire) (bytes : List ℕ) : Type 0 where
  pub are : AreTables bytes
  pub twice : ReadTwice (twice most Tables Tables) before after (chunk 0 bytes)

-- why they aren't read: there is no signature in the header, which was read once; or they didn't come twice alike; or memory ran out
-- after a part of them
abbrev pub StopsTables : ℕ → Wire → Wire → TablesFault → Type 0
StopsTables most before after NoSignature =
    (bytes : List ℕ) × (length bytes ≡ 8) × (HasSignature bytes → ⊥) × HasReadOn (table_reads most) before after [] bytes
StopsTables most before after (Unread why) =
    (bytes : List ℕ) × StopsTwice (twice most Tables Tables) before after (chunk 0 bytes) why
StopsTables most before after Memory =
    (bytes : List ℕ) × HasReadOn (table_reads most) before after [] bytes

-- reading on after some bytes of them stopped: memory ran out, and nothing was sent; or the exchange of a read ended so
abbrev pub StopsGrowth : ℕ → Wire → Wire → List ℕ → TablesFault → Type 0
StopsGrowth most before after front Memory = (after.held ≡ before.held) × (after.ahead ≡ before.ahead)
StopsGrowth most before after front (Unread (Exchange why)) = StopsOn (table_reads most) before after front why
StopsGrowth most before after front other = ⊥

-- the reader's count of failures rises by one exactly where the exchange ended in Read, the writer's where it ended in Write
abbrev pub CountsTables : {T : Type 0} → Fault → ℕ → ℕ → Result T TablesFault → Type 0
CountsTables device before after (Ok x) = after ≡ before
CountsTables fault.Read before after (Err (Unread (Exchange fault.Read))) = after ≡ one_more before
CountsTables fault.Write before after (Err (Unread (Exchange fault.Write))) = after ≡ one_more before
CountsTables device before after (Err other) = after ≡ before
