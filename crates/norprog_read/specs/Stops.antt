-- Why a chip isn't read (this project's).
use Rattle.std.specs.Prelude.{◌≡◌, ◌≢◌, ◌<◌, ◌&&◌, ℕ, true, false, List, ◌++◌, take, slice_index, Some, Ok}
use Rattle.nor_base.specs.Parameters.{Parameters}
use Rattle.nor_job.specs.declared.fault.BuildFault.TheVariants.{Memory, Sfdp}
use Rattle.nor_job.specs.Chip.{HasChip}
use Rattle.nor_reader.specs.declared.difference.Difference.{Difference}
use Rattle.nor_reader.specs.declared.difference.Mismatch.{Mismatch}
use Rattle.nor_reader.specs.declared.difference.Mismatch.TheVariants.{Exchange, Differs}
use Rattle.nor_reader.specs.declared.tables.TablesFault.{TablesFault}
use Rattle.nor_reader.specs.declared.tables.TablesFault.TheVariants as tables
use Rattle.nor_reader.specs.Tables.{HasReadTables, StopsTables}
use Rattle.nor_reader.specs.Twice.{ReadTwice, StopsTwice}
use Rattle.nor_serprog.specs.declared.fault.Fault.{Fault}
use Rattle.nor_sfdp.specs.declared.fault.SfdpFault.TheVariants.{Signature}
use Rattle.norprog_common.specs.Setup.{RefusesChipOf}
use Rattle.norprog_common.specs.declared.faults.Refusal.{Refusal}
use Rattle.norprog_common.specs.declared.faults.Refusal.TheVariants.{Build}
use Rattle.nor_base.specs.Wire.{Wire}
use Rattle.norprog_read.specs.declared.asked.Ask.{Ask}
use Rattle.norprog_read.specs.declared.asked.Known.{Known}
use Rattle.norprog_read.specs.declared.asked.Span.{Span}
use Rattle.norprog_read.specs.declared.asked.Known.TheVariants.{Sheet, Uniform}
use Rattle.norprog_read.specs.declared.fault.Unlike.TheVariants as unlike
use Rattle.norprog_read.specs.declared.fault.Unread.{Unread}
use Rattle.norprog_read.specs.declared.fault.Unread.TheVariants.{Refused, Unlike}
use Rattle.norprog_read.specs.Asked.{AsksId, AsksStatus, IsDriven, IsExpected, StopsId, StopsStatus}
use Rattle.norprog_read.specs.Came.{HidesLine}
use Rattle.norprog_read.specs.Chip.{both_go, chip_task, lacks_tables, is_unsigned, ops_by, past_end, way_by, file_of, AreAlike, IsFile, GivesContent, GivesTables}
use Rattle.norprog_read.specs.End.{SeesEnd, StopsEnd}
use Rattle.norprog_read.specs.Modes.{MakesMode, StopsMode}
use Rattle.norprog_read.specs.Size.{asked_register, other_size, IsUnmoved, StopsMoved, TellsSize}
use Rattle.norprog_read.specs.Span.{came, part_in, IsPart}
use Rattle.norprog_read.specs.Way.{is_readable, twice_of, IsShown, Way}

-- a file of tables or a sheet has no meaning
pub data RefusesFile (ask : Ask) : Unread → Type 0 where
  Meaningless : (file : List ℕ) (why : Refusal) → file_of ask.known ≡ Some file → RefusesChipOf (chip_task ask file) why → RefusesFile ask (Refused why)

-- how it is told that the bytes that came from a chip of this identification aren't accepted as its tables; a size or a sheet that isn't is
-- the person's
abbrev pub told_of : Known → List ℕ → Refusal → Unread
told_of (Uniform size) id why = Refused why
told_of (Sheet text) id why = Refused why
told_of other id (Build (Sfdp fault)) = Unlike (unlike.NoTables id fault)
told_of other id why = Refused why

-- and that they weren't read
abbrev pub stop_of : List ℕ → TablesFault → Unread
stop_of id tables.NoSignature = Unlike (unlike.NoTables id Signature)
stop_of id tables.Memory = Refused (Build Memory)
stop_of id (tables.Unread (Exchange why)) = Unlike (unlike.Asking why)
stop_of id (tables.Unread (Differs d)) = Unlike (unlike.At d.address)

-- at this address the bytes of a chip and of a file differ first, as far as both go
pub record IsOther (chip file : List ℕ) (d : Difference) : Type 0 where
  pub within : d.address < both_go chip file
  pub alike : take d.address chip ≡ take d.address file
  pub chip_is : d.chip ≡ slice_index chip d.address
  pub file_is : d.want ≡ slice_index file d.address
  pub other : d.chip ≢ d.want

abbrev pub DiffersFrom : List ℕ → List ℕ → Unread → Type 0
DiffersFrom chip file (Unlike (unlike.Tables d)) = IsOther chip file d
DiffersFrom chip file other = ⊥

-- its tables have no signature, didn't come twice alike, or aren't as the file's; each read of them is of no more than so many bytes. A chip
-- of a size or a sheet may have none
pub data StopsAsked (most : ℕ) (before after : Wire) (by : Known) (id : List ℕ) : Unread → Type 0 where
  Uncome : (fault : TablesFault) (why : Unread) → StopsTables most before after fault → why ≡ stop_of id fault
      → lacks_tables by && is_unsigned fault ≡ false → StopsAsked most before after by id why
  Other : (file chip : List ℕ) (why : Unread) → IsFile by file → HasReadTables most before after chip
      → DiffersFrom chip file why → StopsAsked most before after by id why

-- the two readings stopped so
abbrev pub ReadsUnlike : Way → Wire → Wire → List ℕ → Mismatch → Type 0
ReadsUnlike w before after content why = StopsTwice (twice_of w) before after (came w.part content) why

-- the content can't be read whole, didn't come twice alike, or doesn't show the mode, which isn't sure
pub data StopsContent (w : Way) (before after : Wire) : Unread → Type 0 where
  Unreadable : is_readable w.m w.start ≡ false → after ≡ before → StopsContent w before after (Unlike unlike.Unreadable)
  NoMemory : after ≡ before → StopsContent w before after (Refused (Build Memory))
  Lost : (content : List ℕ) (why : Fault) → ReadsUnlike w before after content (Exchange why)
      → StopsContent w before after (Unlike (unlike.Asking why))
  Other : (content : List ℕ) (d : Difference) → ReadsUnlike w before after content (Differs d)
      → StopsContent w before after (Unlike (unlike.At d.address))
  Hidden : (content : List ℕ) → w.sure ≡ false
      → ReadTwice (twice_of w) before after (came w.part content)
      → (IsShown w content → ⊥) → StopsContent w before after (Unlike unlike.Hidden)

-- the status came, of an idle chip; then the identification, of a line that a chip drives, which was the one that is expected
pub record IsIdentified (before after : Wire) (ask : Ask) : Type 0 where
  pub status : ℕ
  pub id : List ℕ
  pub asked : Wire
  pub idle : AsksStatus before asked ask (Ok status)
  pub read : AsksId asked after (Ok id)
  pub driven : IsDriven id
  pub expected : IsExpected ask.expect_id id

-- then the tables, which are as the file's
pub record IsKnown (most : ℕ) (before after : Wire) (ask : Ask) : Type 0 where
  pub chip : List ℕ
  pub between : Wire
  pub identified : IsIdentified before between ask
  pub read : GivesTables most between after ask.known chip
  pub alike : AreAlike ask.known chip

-- they mean this, and then it was put into the mode that was said
pub record IsMade (most : ℕ) (before after : Wire) (ask : Ask) : Type 0 where
  pub m : Parameters
  pub next : ℕ
  pub between : Wire
  pub known : IsKnown most before between ask
  pub means : HasChip (chip_task ask known.chip) m
  pub mode : MakesMode between after ask (ops_by ask known.chip m) known.identified.status next

-- then no register moves its addresses
pub record IsReady (most : ℕ) (before after : Wire) (ask : Ask) : Type 0 where
  pub between : Wire
  pub made : IsMade most before between ask
  pub unmoved : IsUnmoved between after (asked_register ask.content made.known.chip)

-- then the content, where it was wanted
pub record IsHeld (most : ℕ) (before after : Wire) (ask : Ask) : Type 0 where
  pub part : Span
  pub content : List ℕ
  pub between : Wire
  pub ready : IsReady most before between ask
  pub asked_for : IsPart ask ready.made.m part
  pub read : GivesContent (way_by most ask ready.made.known.chip ready.made.m part) between after ask.content content

-- then what it gave past its end, or half a chip away, showed how large it is
pub record IsEnded (most : ℕ) (before after : Wire) (ask : Ask) : Type 0 where
  pub between : Wire
  pub all : IsHeld most before between ask
  pub end : SeesEnd between after (past_end most ask all.ready.made.m all.content) ask all.part

-- where it stopped, in the order in which the chip is asked: at the file, before anything was sent; at the status; at the identification, which
-- didn't come or isn't the one that is expected; at the tables; at what they mean; at the size that they say; as the mode was made; at the
-- register that moves addresses; at the content; where that repeats itself, past its end, or half a chip away; at the second identification, which didn't come or
-- is another; or after all came, which doesn't show that the terminal changed nothing of what was read
pub data StopsChip (most : ℕ) (before after : Wire) (ask : Ask) : Unread → Type 0 where
  AtFile : (why : Unread) → after ≡ before → RefusesFile ask why → StopsChip most before after ask why
  AtStatus : (why : Unread) → StopsStatus before after ask why → StopsChip most before after ask why
  AtId : (between : Wire) (status : ℕ) (why : Unread) → AsksStatus before between ask (Ok status) → StopsId between after why
      → StopsChip most before after ask why
  Unexpected : (between : Wire) (status : ℕ) (id : List ℕ) → AsksStatus before between ask (Ok status) → AsksId between after (Ok id)
      → (IsExpected ask.expect_id id → ⊥) → StopsChip most before after ask (Unlike (unlike.Id id))
  AtTables : (between : Wire) (identified : IsIdentified before between ask) (why : Unread)
      → StopsAsked most between after ask.known identified.id why → StopsChip most before after ask why
  AtMeaning : (known : IsKnown most before after ask) (why : Unread) (refusal : Refusal)
      → RefusesChipOf (chip_task ask known.chip) refusal → why ≡ told_of ask.known known.identified.id refusal
      → StopsChip most before after ask why
  AtSize : (known : IsKnown most before after ask) (m : Parameters) (why : Unread) → HasChip (chip_task ask known.chip) m
      → TellsSize (other_size ask m known.chip) why
      → StopsChip most before after ask why
  AtMode : (between : Wire) (known : IsKnown most before between ask) (m : Parameters) (why : Unread) → HasChip (chip_task ask known.chip) m
      → StopsMode between after ask (ops_by ask known.chip m) why → StopsChip most before after ask why
  AtRegister : (between : Wire) (made : IsMade most before between ask) (why : Unread)
      → StopsMoved between after (asked_register ask.content made.known.chip) why → StopsChip most before after ask why
  AtContent : (between : Wire) (ready : IsReady most before between ask) (part : Span) (why : Unread) → ask.content ≡ true
      → IsPart ask ready.made.m part → StopsContent (way_by most ask ready.made.known.chip ready.made.m part) between after why
      → StopsChip most before after ask why
  AtPast : (between : Wire) (all : IsHeld most before between ask) (why : Unread)
      → StopsEnd between after (past_end most ask all.ready.made.m all.content) ask all.part why → StopsChip most before after ask why
  AtEnd : (between : Wire) → IsEnded most before between ask → (why : Unread) → StopsId between after why → StopsChip most before after ask why
  OtherId : (between : Wire) (ended : IsEnded most before between ask) (other : List ℕ) → AsksId between after (Ok other)
      → other ≢ ended.all.ready.made.known.identified.id → StopsChip most before after ask (Unlike (unlike.Id other))
  AtLine : (between : Wire) (ended : IsEnded most before between ask) → AsksId between after (Ok ended.all.ready.made.known.identified.id)
      → HidesLine ask ended.all.ready.made.known.identified.id (ended.all.ready.made.known.chip ++ part_in ended.all.part ended.all.content)
      → StopsChip most before after ask (Unlike unlike.Line)
