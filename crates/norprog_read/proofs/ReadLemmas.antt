-- What was read, and from which reading it follows.
use Rattle.std.proofs.Common.{◌≡◌, ℕ, Bool, true, false, not, ◌&&◌, List, ◌++◌, length, take, drop, Option, Some, None, Result, Ok, Err, IfOk, IfErr, ◌∙◌, ap, refl, sym, subst}
use Rattle.std.proofs.Math.Seq.{take-append_seam}
use Rattle.nor_serprog.specs.declared.limits.Limits.{Limits}
use Rattle.nor_job.specs.declared.fault.BuildFault.TheVariants as fault
use Rattle.nor_job.specs.Task.{Task}
use Rattle.nor_loop.specs.Log.{Operation}
use Rattle.nor_reader.specs.declared.difference.Mismatch.TheVariants as mismatch
use Rattle.nor_reader.specs.declared.own.AddressRegister.{AddressRegister}
use Rattle.nor_reader.specs.declared.tables.TablesFault.{TablesFault}
use Rattle.nor_reader.specs.declared.tables.TablesFault.TheVariants.{Memory, NoSignature, Unread as Unread_}
use Rattle.nor_reader.specs.AtOnce.{at_once}
use Rattle.norprog_common.specs.Setup.{RefusesChipOf}
use Rattle.norprog_common.specs.declared.faults.Refusal.{Refusal}
use Rattle.norprog_common.specs.declared.faults.Refusal.TheVariants.{Build}
use Rattle.norprog_read.specs.declared.asked.Ask.{Ask}
use Rattle.norprog_read.specs.declared.asked.Known.{Known}
use Rattle.norprog_read.specs.declared.asked.Known.TheVariants as known
use Rattle.norprog_read.specs.declared.asked.Reading.{Reading}
use Rattle.norprog_read.specs.declared.asked.Span.{Span}
use Rattle.norprog_read.specs.declared.fault.Unread.{Unread}
use Rattle.norprog_read.specs.declared.fault.Unread.TheVariants.{Refused, Device, Unlike}
use Rattle.norprog_device.specs.declared.fault.DeviceFault.TheVariants.{Greet, Line}
use Rattle.norprog_device.specs.Blame.{is_cut}
use Rattle.norprog_device.specs.Opened.{LetsGo}
use Rattle.nor_base.specs.Wire.{Wire}
use Rattle.norprog_read.specs.Asked as asked
use Rattle.norprog_read.specs.Asked.{StopsId, StopsStatus}
use Rattle.norprog_read.specs.Blame.{fault_in}
use Rattle.norprog_read.specs.Chip.{chip_task}
use Rattle.norprog_read.specs.End as end
use Rattle.norprog_read.specs.End.{Past, StopsEnd}
use Rattle.norprog_read.specs.Modes as modes
use Rattle.norprog_read.specs.Modes.{StopsMode}
use Rattle.norprog_read.specs.Size as size
use Rattle.norprog_read.specs.Size.{asked_register, other_size, StopsMoved, TellsSize}
use Rattle.norprog_read.specs.Stops as stops
use Rattle.norprog_read.specs.Stops.{stop_of, told_of, DiffersFrom, StopsAsked, StopsChip, StopsContent}
use Rattle.norprog_read.specs.Opened.{HasGreeted, HasReadOpened, HasReadTested, HasTested, StopsOpened, StopsTested}
use Rattle.norprog_read.specs.Way.{Way}

-- a vector whose slice was written whole
pub written : (new old : List ℕ) (n : ℕ) → n ≡ length new → take n (new ++ drop (length new) old) ≡ new
written new old n long = ap (λ k. take k (new ++ drop (length new) old)) long ∙ take-append_seam new (drop (length new) old)

-- nothing is taken from what holds as well
as_well : (b : Bool) → b && true ≡ b
as_well true = refl
as_well false = refl

-- the pins are let go, by a test of the same result
freed : (v w : Wire) (pins frees : Bool) → pins ≡ frees → LetsGo v w pins → LetsGo v w frees
freed v w pins frees is goes = subst (LetsGo v w) is goes

-- a chip was read after the handshake, and then the pins were let go
pub opened_by : (t u v w : Wire) (limits : Limits) (ask : Ask) (r : Result Reading Unread) (pins : Bool) → HasGreeted t u limits
    → IfOk r (λ reading. HasReadTested u v limits ask reading) → pins ≡ (limits.pins && not (is_cut (fault_in r)))
    → LetsGo v w pins → IfOk r (λ reading. HasReadOpened t w ask reading)
opened_by t u v w limits ask (Ok reading) pins greeted read is goes = record {
  begun = u;
  limits = limits;
  greeted = greeted;
  ended = v;
  read = read;
  released = freed v w pins limits.pins (is ∙ as_well limits.pins) goes;
}
opened_by t u v w limits ask (Err why) pins greeted read is goes = tt

-- or it stopped
pub stops_by : (t u v w : Wire) (limits : Limits) (ask : Ask) (r : Result Reading Unread) (pins : Bool) → HasGreeted t u limits
    → IfErr r (StopsTested u v limits ask) → pins ≡ (limits.pins && not (is_cut (fault_in r)))
    → LetsGo v w pins → IfErr r (StopsOpened t w ask)
stops_by t u v w limits ask (Ok reading) pins greeted stops is goes = tt
stops_by t u v w limits ask (Err (Device (Greet why))) pins greeted stops is goes = absurd stops
stops_by t u v w limits ask (Err (Device (Line why))) pins greeted stops is goes =
    record { begun = u; limits = limits; greeted = greeted; ended = v; stops = stops; released = freed v w pins _ is goes }
stops_by t u v w limits ask (Err (Refused why)) pins greeted stops is goes =
    record { begun = u; limits = limits; greeted = greeted; ended = v; stops = stops; released = freed v w pins _ is goes }
stops_by t u v w limits ask (Err (Unlike why)) pins greeted stops is goes =
    record { begun = u; limits = limits; greeted = greeted; ended = v; stops = stops; released = freed v w pins _ is goes }

-- a chip that is asked never stops at the device, nor because an output can't be written
abbrev pub IsOfChip : Unread → Type 0
IsOfChip (Device why) = ⊥
IsOfChip (Refused (Build fault.Write)) = ⊥
IsOfChip other = Unit {0}

of_meaning : (t : Task) (why : Refusal) → RefusesChipOf t why → IsOfChip (Refused why)
of_meaning t (Build fault.Write) refused = refused
of_meaning t other refused = tt

of_told : (by : Known) (id : List ℕ) (why : Refusal) → IsOfChip (Refused why) → IsOfChip (told_of by id why)
of_told (known.Uniform size) id why is = is
of_told (known.Sheet text) id why is = is
of_told known.Own id (Build (fault.Sfdp why)) is = tt
of_told known.Own id why is = is
of_told (known.Tables file) id (Build (fault.Sfdp why)) is = tt
of_told (known.Tables file) id why is = is

of_stop : (id : List ℕ) (why : TablesFault) → IsOfChip (stop_of id why)
of_stop id NoSignature = tt
of_stop id Memory = tt
of_stop id (Unread_ (mismatch.Exchange why)) = tt
of_stop id (Unread_ (mismatch.Differs d)) = tt

of_other : (chip file : List ℕ) (why : Unread) → DiffersFrom chip file why → IsOfChip why
of_other chip file (Unlike why) differs = tt
of_other chip file (Device why) differs = differs
of_other chip file (Refused why) differs = absurd differs

of_status : (v w : Wire) (ask : Ask) (why : Unread) → StopsStatus v w ask why → IsOfChip why
of_status v w ask why (asked.Busy p) = tt
of_status v w ask why (asked.Lost fault p) = tt

of_id : (v w : Wire) (why : Unread) → StopsId v w why → IsOfChip why
of_id v w why (asked.Unsaid fault p) = tt
of_id v w why (asked.Undriven id p undriven) = tt

of_tables : (most : ℕ) (v w : Wire) (by : Known) (id : List ℕ) (why : Unread) → StopsAsked most v w by id why → IsOfChip why
of_tables most v w by id why (stops.Uncome fault of p is none) = subst IsOfChip (sym is) (of_stop id fault)
of_tables most v w by id why (stops.Other file chip of is read differs) = of_other chip file of differs

of_mode : (v w : Wire) (ask : Ask) (ops : List Operation) (why : Unread) → StopsMode v w ask ops why → IsOfChip why
of_mode v w ask ops why (modes.Unsent fault p) = tt
of_mode v w ask ops why (modes.Unasked between of done p) = of_status between w ask of p
of_mode v w ask ops why (modes.Otherwise between next done read other) = tt

of_size : (told : Option ℕ) (why : Unread) → TellsSize told why → IsOfChip why
of_size (Some size) why is = subst IsOfChip (sym is) tt
of_size None why is = absurd is

of_moved : (v w : Wire) (asked : Option AddressRegister) (why : Unread) → StopsMoved v w asked why → IsOfChip why
of_moved v w asked why (size.Lost register fault is p) = tt
of_moved v w asked why (size.Moved register value is read away) = tt

of_content : (how : Way) (v w : Wire) (why : Unread) → StopsContent how v w why → IsOfChip why
of_content how v w why (stops.Unreadable un none) = tt
of_content how v w why (stops.NoMemory none) = tt
of_content how v w why (stops.Lost content fault p) = tt
of_content how v w why (stops.Other content d p) = tt
of_content how v w why (stops.Hidden content unsure twice hides) = tt

of_end : (v w : Wire) (past : Past) (ask : Ask) (part : Span) (why : Unread) → StopsEnd v w past ask part why → IsOfChip why
of_end v w past ask part why (end.Alike all none many repeats) = tt
of_end v w past ask part why (end.Lost fault all sized p) = tt
of_end v w past ask part why (end.Other d all sized p) = tt
of_end v w past ask part why (end.Twice c near many away p) = tt
of_end v w past ask part why (end.LostThere c fault near many away p) = tt

pub of_chip : (most : ℕ) (v w : Wire) (ask : Ask) (why : Unread) → StopsChip most v w ask why → IsOfChip why
of_chip most v w ask why (stops.AtFile of none (stops.Meaningless file refusal is refused)) = of_meaning (chip_task ask file) refusal refused
of_chip most v w ask why (stops.AtStatus of p) = of_status v w ask of p
of_chip most v w ask why (stops.AtId u status of idle p) = of_id u w of p
of_chip most v w ask why (stops.Unexpected u status id idle p other) = tt
of_chip most v w ask why (stops.AtTables u said of p) = of_tables most u w ask.known said.id of p
of_chip most v w ask why (stops.AtMeaning is of refusal refused told) =
    subst IsOfChip (sym told) (of_told ask.known is.identified.id refusal (of_meaning (chip_task ask is.chip) refusal refused))
of_chip most v w ask why (stops.AtSize is m of means told) = of_size (other_size ask m is.chip) of told
of_chip most v w ask why (stops.AtMode u is m of means p) = of_mode u w ask _ of p
of_chip most v w ask why (stops.AtRegister u is of p) = of_moved u w (asked_register ask.content is.known.chip) of p
of_chip most v w ask why (stops.AtContent u is part of wanted asked p) = of_content _ u w of p
of_chip most v w ask why (stops.AtPast u is of p) = of_end u w _ ask is.part of p
of_chip most v w ask why (stops.AtEnd u is of p) = of_id u w of p
of_chip most v w ask why (stops.OtherId u is other p differs) = tt
of_chip most v w ask why (stops.AtLine u is p hides) = tt

-- the line was tested, and then that stopped
pub tested_stops : (u v w : Wire) (limits : Limits) (ask : Ask) (r : Result Reading Unread) → HasTested u v limits
    → IfErr r (StopsChip (at_once limits) v w ask) → IfErr r (StopsTested u w limits ask)
tested_stops u v w limits ask (Ok reading) tested stops = tt
tested_stops u v w limits ask (Err (Device why)) tested stops = absurd (of_chip (at_once limits) v w ask (Device why) stops)
tested_stops u v w limits ask (Err (Refused why)) tested stops = record { between = v; tested = tested; stops = stops }
tested_stops u v w limits ask (Err (Unlike why)) tested stops = record { between = v; tested = tested; stops = stops }
