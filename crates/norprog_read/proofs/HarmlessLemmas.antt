-- What a reading of a chip sends changes nothing of what the chip holds.
use Rattle.std.proofs.Common.{◌≡◌, ℕ, Bool, true, false, List, [], ◌∷◌, Option, Result, Ok, Err, IfOk, IfErr, refl}
use Rattle.std.specs.Prelude.{MatchResult}
use Rattle.nor_base.specs.Chip.{begins4}
use Rattle.nor_reader.specs.declared.difference.Mismatch.TheVariants.{Exchange, Differs}
use Rattle.nor_reader.specs.declared.own.AddressRegister.{AddressRegister}
use Rattle.nor_reader.specs.declared.own.AddressRegister.TheVariants.{Extended, Bank}
use Rattle.nor_reader.specs.Own.{opcode_of}
use Rattle.nor_reader.specs.Harmless.{is_harmless}
use Rattle.nor_reader.specs.Telling.{opcode_to}
use Rattle.nor_reader.proofs.HarmlessLemmas.{id_sends, id_sent, past_sends, past_sent, register_sends, register_sent, status_sends, status_sent, switched_sends, switched_sent, tables_none, tables_sends, tables_sent, twice_sends, twice_sent}
use Rattle.nor_serprog.specs.declared.fault.Reason.TheVariants as reason
use Rattle.nor_base.specs.Wire.{Wire}
use Rattle.norprog_read.specs.declared.asked.Ask.{Ask}
use Rattle.norprog_read.specs.declared.asked.Known.{Known}
use Rattle.norprog_read.specs.declared.asked.Reading.{Reading}
use Rattle.norprog_read.specs.declared.fault.Unread.{Unread}
use Rattle.norprog_read.specs.declared.mode.Modes.{Modes}
use Rattle.norprog_read.specs.Asked as asked
use Rattle.norprog_read.specs.Asked.{AsksId, AsksStatus, StopsId, StopsStatus}
use Rattle.norprog_read.specs.End as end
use Rattle.norprog_read.specs.End.{few, GivesPast, Past, SeesEnd, StopsEnd}
use Rattle.norprog_read.specs.Chip.{start_by, Come, GivesContent, GivesTables, HasReadChip, Unsigned}
use Rattle.norprog_read.specs.Modes as modes
use Rattle.norprog_read.specs.Modes.{mode_ops, modes_of, switch_to, HasDone, MakesMode, StopsMode}
use Rattle.norprog_read.specs.Size as size
use Rattle.norprog_read.specs.Size.{AsksRegister, IsUnmoved, StopsMoved}
use Rattle.norprog_read.specs.Stops as stops
use Rattle.norprog_read.specs.Stops.{IsEnded, IsHeld, IsIdentified, IsKnown, IsMade, IsReady, StopsAsked, StopsChip, StopsContent}
use Rattle.norprog_read.specs.declared.asked.Span.{Span}
use Rattle.norprog_read.specs.Span.{came as came_of}
use Rattle.norprog_read.specs.Way.{twice_of, Way}
use Rattle.norprog_read.proofs.ChipLemmas as came
use Rattle.norprog_read.proofs.SentLemmas.{again_sends, again_sent, both, differs_sent, stays, then_, whole, Sends, Sent}

status_read : (u v : Wire) (ask : Ask) (status : ℕ) → AsksStatus u v ask (Ok status) → Sent u v
status_read u v ask status p = status_sent ask.part u.held v.held u.ahead v.ahead status ask.turns p

id_read : (u v : Wire) (id : List ℕ) → AsksId u v (Ok id) → Sent u v
id_read u v id p = id_sent u.held v.held u.ahead v.ahead id p

gives_tables : (most : ℕ) (u v : Wire) (by : Known) (chip : List ℕ) → GivesTables most u v by chip → Sent u v
gives_tables most u v by chip (Come tables read) = tables_sent most u.held v.held u.ahead v.ahead tables read
gives_tables most u v by chip (Unsigned of none) = tables_none most u.held v.held u.ahead v.ahead none

gives_content : (how : Way) (u v : Wire) (wanted : Bool) (content : List ℕ) → GivesContent how u v wanted content → Sent u v
gives_content how u v true content p =
    twice_sent (twice_of how) u.held v.held u.ahead v.ahead (came_of how.part content) p.twice
gives_content how u v false content p = stays u v p.1

gives_past : (u v : Wire) (p : Past) (any : Bool) → GivesPast u v p any → Sent u v
gives_past u v p false gives = past_sent p.reads u.held v.held u.ahead v.ahead p.content gives
gives_past u v p true gives = stays u v gives

sees_end : (u v : Wire) (p : Past) (ask : Ask) (part : Span) → SeesEnd u v p ask part → Sent u v
sees_end u v p ask part (end.Whole all once past) = gives_past u v p ask.any_size past
sees_end u v p ask part (end.MayBeTwice near may none) = stays u v none
sees_end u v p ask part (end.Blank near blank none) = stays u v none
sees_end u v p ask part (end.Elsewhere near c away d is) = differs_sent (few p.reads) u v c d is

stops_end : (u v : Wire) (p : Past) (ask : Ask) (part : Span) (why : Unread) → StopsEnd u v p ask part why → Sends u v
stops_end u v p ask part why (end.Alike all none many repeats) = whole u v (stays u v none)
stops_end u v p ask part why (end.Lost fault all sized is) = past_sends p.reads u.held v.held u.ahead v.ahead p.content (Exchange fault) is
stops_end u v p ask part why (end.Other d all sized is) = past_sends p.reads u.held v.held u.ahead v.ahead p.content (Differs d) is
stops_end u v p ask part why (end.Twice c near many away is) = whole u v (again_sent (few p.reads) u v c is)
stops_end u v p ask part why (end.LostThere c fault near many away is) = again_sends (few p.reads) u v c fault is

-- the mode is made by operations that change nothing
to_harmless : (said : Bool) → is_harmless (opcode_to said ∷ []) ≡ true
to_harmless true = refl
to_harmless false = refl

switched : (u v : Wire) (wanted said : Bool) (known : Modes) → HasDone u v (mode_ops wanted said known) → Sent u v
switched u v wanted said known done =
    switched_sent u.held v.held u.ahead v.ahead (switch_to wanted said known) (opcode_to said) (to_harmless said) done

made_sent : (u w : Wire) (ask : Ask) (wanted said : Bool) (known : Modes) (first next : ℕ)
    → MakesMode u w ask (mode_ops wanted said known) first next → Sent u w
made_sent u w ask wanted said known first next (modes.Sent unshown done) = switched u w wanted said known done
made_sent u w ask wanted said known first next (modes.Shown shown right none) = stays u w none
made_sent u w ask wanted said known first next (modes.Made v status done read right) =
    both u v w (switched u v wanted said known done) (status_read v w ask status read)

-- a register that moves addresses is read
register_harmless : (register : AddressRegister) → is_harmless (opcode_of register ∷ []) ≡ true
register_harmless Extended = refl
register_harmless Bank = refl

register_read : (u v : Wire) (register : AddressRegister) (value : ℕ) → AsksRegister u v register (Ok value) → Sent u v
register_read u v register value p =
    register_sent u.held v.held u.ahead v.ahead (opcode_of register) value (register_harmless register) p

unmoved_sent : (u v : Wire) (asked : Option AddressRegister) → IsUnmoved u v asked → Sent u v
unmoved_sent u v asked (size.Unasked none) = stays u v none
unmoved_sent u v asked (size.Unmoved register value read home) = register_read u v register value read

stops_moved : (u v : Wire) (asked : Option AddressRegister) (why : Unread) → StopsMoved u v asked why → Sends u v
stops_moved u v asked why (size.Lost register fault is p) =
    register_sends u.held v.held u.ahead v.ahead (opcode_of register) fault (register_harmless register) p
stops_moved u v asked why (size.Moved register value is read away) = whole u v (register_read u v register value read)

stops_status : (u v : Wire) (ask : Ask) (why : Unread) → StopsStatus u v ask why → Sends u v
stops_status u v ask why (asked.Busy p) = status_sends ask.part u.held v.held u.ahead v.ahead reason.Busy ask.turns p
stops_status u v ask why (asked.Lost fault p) = status_sends ask.part u.held v.held u.ahead v.ahead (reason.Exchange fault) ask.turns p

stops_id : (u v : Wire) (why : Unread) → StopsId u v why → Sends u v
stops_id u v why (asked.Unsaid fault p) = id_sends u.held v.held u.ahead v.ahead fault p
stops_id u v why (asked.Undriven id p undriven) = whole u v (id_read u v id p)

stops_asked : (most : ℕ) (u v : Wire) (by : Known) (id : List ℕ) (why : Unread) → StopsAsked most u v by id why → Sends u v
stops_asked most u v by id why (stops.Uncome fault of p is none) = tables_sends most u.held v.held u.ahead v.ahead fault p
stops_asked most u v by id why (stops.Other file chip of is read differs) =
    whole u v (tables_sent most u.held v.held u.ahead v.ahead chip read)

stops_mode : (u w : Wire) (ask : Ask) (wanted said : Bool) (known : Modes) (why : Unread)
    → StopsMode u w ask (mode_ops wanted said known) why → Sends u w
stops_mode u w ask wanted said known why (modes.Unsent fault p) =
    switched_sends u.held w.held u.ahead w.ahead (switch_to wanted said known) (opcode_to said) fault (to_harmless said) p
stops_mode u w ask wanted said known why (modes.Unasked v of done p) =
    then_ u v w (switched u v wanted said known done) (stops_status v w ask of p)
stops_mode u w ask wanted said known why (modes.Otherwise v next done read other) =
    then_ u v w (switched u v wanted said known done) (whole v w (status_read v w ask next read))

stops_content : (how : Way) (u v : Wire) (why : Unread) → StopsContent how u v why → Sends u v
stops_content how u v why (stops.Unreadable un none) = whole u v (stays u v none)
stops_content how u v why (stops.NoMemory none) = whole u v (stays u v none)
stops_content how u v why (stops.Lost content fault p) =
    twice_sends (twice_of how) u.held v.held u.ahead v.ahead (came_of how.part content) (Exchange fault) p
stops_content how u v why (stops.Other content d p) =
    twice_sends (twice_of how) u.held v.held u.ahead v.ahead (came_of how.part content) (Differs d) p
stops_content how u v why (stops.Hidden content unsure twice hides) =
    whole u v (twice_sent (twice_of how) u.held v.held u.ahead v.ahead (came_of how.part content) twice)

-- ---- how far it came
identified : (u w : Wire) (ask : Ask) → IsIdentified u w ask → Sent u w
identified u w ask p = both u p.asked w (status_read u p.asked ask p.status p.idle) (id_read p.asked w p.id p.read)

known : (most : ℕ) (u w : Wire) (ask : Ask) → IsKnown most u w ask → Sent u w
known most u w ask p = both u p.between w (identified u p.between ask p.identified) (gives_tables most p.between w ask.known p.chip p.read)

made : (most : ℕ) (u w : Wire) (ask : Ask) → IsMade most u w ask → Sent u w
made most u w ask p =
    both u p.between w (known most u p.between ask p.known)
    (made_sent p.between w ask ask.content (begins4 p.m (start_by ask)) (modes_of ask.known p.known.chip p.m) p.known.identified.status p.next p.mode)

ready : (most : ℕ) (u w : Wire) (ask : Ask) → IsReady most u w ask → Sent u w
ready most u w ask p = both u p.between w (made most u p.between ask p.made) (unmoved_sent p.between w _ p.unmoved)

held : (most : ℕ) (u w : Wire) (ask : Ask) → IsHeld most u w ask → Sent u w
held most u w ask p = both u p.between w (ready most u p.between ask p.ready) (gives_content _ p.between w ask.content p.content p.read)

ended : (most : ℕ) (u w : Wire) (ask : Ask) → IsEnded most u w ask → Sent u w
ended most u w ask p = both u p.between w (held most u p.between ask p.all) (sees_end p.between w _ ask p.all.part p.end)

read_sent : (most : ℕ) (u w : Wire) (ask : Ask) (r : Reading) → HasReadChip most u w ask r → Sent u w
read_sent most u w ask r p =
    both u p.ended w
    (ended most u p.ended ask (came.ended p.held (came.held p.ready (came.ready p.made (came.made p.known (came.known p.identified
    (came.identified p.asked p.first r.id p.idle p.id p.driven p.expected) p.tables p.alike) p.means p.mode) p.unmoved) r.content.items p.asked_for p.content) p.end))
    (id_read p.ended w r.id p.again)

chip_sends : (most : ℕ) (u w : Wire) (ask : Ask) (why : Unread) → StopsChip most u w ask why → Sends u w
chip_sends most u w ask why (stops.AtFile of none p) = whole u w (stays u w none)
chip_sends most u w ask why (stops.AtStatus of p) = stops_status u w ask of p
chip_sends most u w ask why (stops.AtId v status of idle p) = then_ u v w (status_read u v ask status idle) (stops_id v w of p)
chip_sends most u w ask why (stops.Unexpected v status id idle p other) =
    then_ u v w (status_read u v ask status idle) (whole v w (id_read v w id p))
chip_sends most u w ask why (stops.AtTables v said of p) =
    then_ u v w (identified u v ask said) (stops_asked most v w ask.known said.id of p)
chip_sends most u w ask why (stops.AtMeaning is of refusal refused told) = whole u w (known most u w ask is)
chip_sends most u w ask why (stops.AtSize is m of means told) = whole u w (known most u w ask is)
chip_sends most u w ask why (stops.AtMode v is m of means p) =
    then_ u v w (known most u v ask is) (stops_mode v w ask ask.content (begins4 m (start_by ask)) (modes_of ask.known is.chip m) of p)
chip_sends most u w ask why (stops.AtRegister v is of p) = then_ u v w (made most u v ask is) (stops_moved v w _ of p)
chip_sends most u w ask why (stops.AtContent v is part of wanted asked p) = then_ u v w (ready most u v ask is) (stops_content _ v w of p)
chip_sends most u w ask why (stops.AtPast v is of p) = then_ u v w (held most u v ask is) (stops_end v w _ ask is.part of p)
chip_sends most u w ask why (stops.AtEnd v is of p) = then_ u v w (ended most u v ask is) (stops_id v w of p)
chip_sends most u w ask why (stops.OtherId v is other p differs) = then_ u v w (ended most u v ask is) (whole v w (id_read v w other p))
chip_sends most u w ask why (stops.AtLine v is p hides) = then_ u v w (ended most u v ask is) (whole v w (id_read v w _ p))

pub reading_sends : (most : ℕ) (u w : Wire) (ask : Ask) (r : Result Reading Unread) → IfOk r (λ reading. HasReadChip most u w ask reading)
    → IfErr r (StopsChip most u w ask) → MatchResult r (λ _. Sent u w) (λ _. Sends u w)
reading_sends most u w ask (Ok reading) read stopped = read_sent most u w ask reading read
reading_sends most u w ask (Err why) read stopped = chip_sends most u w ask why stopped
