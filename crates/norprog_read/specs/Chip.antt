-- What the chip behind a device said and gave (this project's).
use Rattle.std.specs.Prelude.{◌≡◌, ⊤, ℕ, min, Bool, true, false, List, [], ◌++◌, length, take, Option, None, Some, IfSome, Ok}
use Rattle.nor_base.specs.declared.meaning.Start.{Start}
use Rattle.nor_base.specs.Chip.{begins4}
use Rattle.nor_base.specs.Parameters.{Parameters}
use Rattle.nor_job.specs.Chip.{HasChip}
use Rattle.nor_job.specs.Status.{start_of}
use Rattle.nor_job.specs.Task.{Task, Origin, Sfdp, Uniform as of_size, Sheet as of_sheet}
use Rattle.nor_loop.specs.Log.{Operation}
use Rattle.nor_reader.specs.Known.{tables_reach}
use Rattle.nor_reader.specs.declared.tables.TablesFault.{TablesFault}
use Rattle.nor_reader.specs.declared.tables.TablesFault.TheVariants.{NoSignature}
use Rattle.nor_reader.specs.Tables.{HasReadTables, StopsTables}
use Rattle.nor_base.specs.Wire.{Wire}
use Rattle.norprog_read.specs.declared.asked.Ask.{Ask}
use Rattle.norprog_read.specs.declared.asked.Known.{Known}
use Rattle.norprog_read.specs.declared.asked.Known.TheVariants.{Sheet, Tables, Uniform}
use Rattle.norprog_read.specs.declared.asked.Reading.{Reading}
use Rattle.norprog_read.specs.declared.asked.Span.{Span}
use Rattle.norprog_read.specs.Asked.{AsksId, AsksStatus, IsDriven, IsExpected}
use Rattle.norprog_read.specs.Came.{ShowsLine}
use Rattle.norprog_read.specs.Content.{HoldsPart}
use Rattle.norprog_read.specs.End.{past, Past, SeesEnd}
use Rattle.norprog_read.specs.Modes.{is_sure, mode_ops, modes_of, MakesMode}
use Rattle.norprog_read.specs.Size.{asked_register, noted_size, other_size, said_size, IsUnmoved}
use Rattle.norprog_read.specs.Span.{part_in, IsPart}
use Rattle.norprog_read.specs.Way.{past_by, way, Way}

-- where its meaning comes from: the tables that came, its size, or its sheet
abbrev pub task_chip : Known → List ℕ → List ℕ → Origin
task_chip (Uniform size) bits tables = of_size size
task_chip (Sheet text) bits tables = of_sheet text.now
task_chip other bits tables = Sfdp tables bits

-- a task of that chip, with nothing to be done
abbrev pub chip_task : Ask → List ℕ → Task
chip_task ask tables = record {
  hex = [];
  image = None;
  layout = None;
  regions = [];
  chip = task_chip ask.known ask.bits.now tables;
  part = ask.part;
  status = None;
  mode4 = ask.mode4;
  quad = false;
  base = 0;
  verify = false;
  erased_only = ask.erased_only;
  page = ask.page;
}

-- a chip may have no tables: it is known by its size or by its sheet
abbrev pub lacks_tables : Known → Bool
lacks_tables (Uniform size) = true
lacks_tables (Sheet text) = true
lacks_tables other = false

-- tables aren't read since there is no signature
abbrev pub is_unsigned : TablesFault → Bool
is_unsigned NoSignature = true
is_unsigned other = false

-- it is known by a file of tables, which has these bytes
abbrev pub IsFile : Known → List ℕ → Type 0
IsFile (Tables bytes) file = bytes.now ≡ file
IsFile other file = ⊥

-- how it begins
abbrev pub start_by : Ask → Start
start_by ask = start_of (chip_task ask [])

-- what puts a chip of these tables and this meaning into the mode that was said
abbrev pub ops_by : Ask → List ℕ → Parameters → List Operation
ops_by ask tables m = mode_ops ask.content (begins4 m (start_by ask)) (modes_of ask.known tables m)

-- how its content is read then, by reads of no more than so many bytes
abbrev pub way_by : ℕ → Ask → List ℕ → Parameters → Span → Way
way_by most ask tables m part = way most m (start_by ask) (is_sure ask (begins4 m (start_by ask)) (modes_of ask.known tables m)) part

-- and how past its end, where it has this content
abbrev pub past_end : ℕ → Ask → Parameters → List ℕ → Past
past_end most ask m content = past most (past_by m (start_by ask)) content

-- its tables came twice alike, by reads of no more than so many bytes; a chip of a size or a sheet may
-- have none
pub data GivesTables (most : ℕ) (before after : Wire) (by : Known) : List ℕ → Type 0 where
  Come : (tables : List ℕ) → HasReadTables most before after tables
      → GivesTables most before after by tables
  Unsigned : lacks_tables by ≡ true → StopsTables most before after NoSignature
      → GivesTables most before after by []

-- a part of its content came twice alike, in this way, where it was wanted
abbrev pub GivesContent : Way → Wire → Wire → Bool → List ℕ → Type 0
GivesContent w before after true content = HoldsPart w before after content
GivesContent w before after false content = (content ≡ []) × (after ≡ before)

-- as far as the tables of a chip and of a file go, the file's as far as its headers reach
abbrev pub both_go : List ℕ → List ℕ → ℕ
both_go chip file = min (length chip) (tables_reach file)

-- the file that it is known by: of tables, or of its sheet
abbrev pub file_of : Known → Option (List ℕ)
file_of (Tables file) = Some file.now
file_of (Sheet text) = Some text.now
file_of other = None

-- such a file, where one is given, has a meaning itself
abbrev pub HasMeaning : Ask → Type 0
HasMeaning ask = IfSome (file_of ask.known) (λ file. (m : Parameters) × HasChip (chip_task ask file) m)

-- and the chip's are alike with it, as far as both go
abbrev pub AreAlike : Known → List ℕ → Type 0
AreAlike (Tables file) tables = take (both_go tables file.now) tables ≡ take (both_go tables file.now) file.now
AreAlike other tables = ⊤

-- in this order, and nothing else was sent: its status until it was idle, its identification, its tables, what puts it into the mode that was
-- said, the register that moves addresses where they name one, the part of its content that is asked for, what comes past its end or half a
-- chip away, and its identification again, which was the same, that of a chip, and the one that is expected; each read of tables and content
-- was of no more than so many bytes; its meaning is that of the tables that came, of its size, or of its sheet; where the content was wanted,
-- and the terminal isn't said to hand on each byte as it comes, what came shows that it changed nothing of tables and content
pub record HasReadChip (most : ℕ) (before after : Wire) (ask : Ask) (r : Reading) : Type 0 where
  pub part : r.part ≡ ask.part
  pub wanted : r.whole ≡ ask.content
  -- the wire after each but the last of these
  pub asked : Wire
  pub identified : Wire
  pub known : Wire
  pub made : Wire
  pub ready : Wire
  pub held : Wire
  pub ended : Wire
  pub first : ℕ
  pub idle : AsksStatus before asked ask (Ok first)
  pub id : AsksId asked identified (Ok r.id)
  pub note : r.note ≡ noted_size (said_size ask.known r.meaning) r.id
  pub driven : IsDriven r.id
  pub expected : IsExpected ask.expect_id r.id
  pub tables : GivesTables most identified known ask.known r.tables.items
  pub file : HasMeaning ask
  pub alike : AreAlike ask.known r.tables.items
  pub means : HasChip (chip_task ask r.tables.items) r.meaning
  pub sized : other_size ask r.meaning r.tables.items ≡ None
  pub mode : MakesMode known made ask (ops_by ask r.tables.items r.meaning) first r.status
  pub unmoved : IsUnmoved made ready (asked_register ask.content r.tables.items)
  pub asked_for : IsPart ask r.meaning r.span
  pub content : GivesContent (way_by most ask r.tables.items r.meaning r.span) ready held ask.content r.content.items
  pub end : SeesEnd held ended (past_end most ask r.meaning r.content.items) ask r.span
  pub again : AsksId ended after (Ok r.id)
  pub shown : ShowsLine ask r.id (r.tables.items ++ part_in r.span r.content.items)
