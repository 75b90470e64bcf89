-- Operations that change nothing of what a chip holds.
use Rattle.std.proofs.Common.{◌≡◌, ◌<◌, inl, inr, ℕ, ◌+◌, ◌^◌, Bool, true, false, List, [], ◌∷◌, ◌++◌, length, map, take, Option, Ok, Err, refl, sym, ap, subst, arith, append-nil}
use Rattle.std.specs.Prelude.{flat_map, if◌then◌else◌, nat_lt}
use Rattle.std.specs.Io.KnownBytes.{Appends}
use Rattle.std.specs.List.{AllByRecursion, slice_range}
use Rattle.std.proofs.lemmas.Grind.{flat_map-append}
use Rattle.nor_base.specs.declared.meaning.Part.{Part}
use Rattle.nor_base.specs.declared.meaning.Part.TheVariants.{Generic, W25q256jv}
use Rattle.nor_base.specs.declared.meaning.Switch.{Switch}
use Rattle.nor_base.specs.declared.meaning.Switch.TheVariants.{Absent, Plain, Latched}
use Rattle.nor_base.specs.Clocks.{address_bytes}
use Rattle.nor_base.specs.Device.{Ahead, Cuts}
use Rattle.nor_base.proofs.DeviceLaws.{Appends-none, Appends-append, Cuts-then}
use Rattle.nor_base.proofs.ListLaws.{all_append}
use Rattle.nor_base.specs.Wire.{wire}
use Rattle.nor_serprog.specs.declared.fault.Fault.{Fault}
use Rattle.nor_serprog.specs.declared.fault.Fault.TheVariants as fault
use Rattle.nor_serprog.specs.declared.fault.Reason.{Reason}
use Rattle.nor_serprog.specs.declared.fault.Reason.TheVariants as reason
use Rattle.nor_serprog.specs.Exchange.{Answers, Asks}
use Rattle.nor_serprog.specs.Follow.{status_request, HasRead}
use Rattle.nor_serprog.specs.Protocol.{request}
use Rattle.nor_reader.specs.declared.difference.Difference.{Difference}
use Rattle.nor_reader.specs.declared.difference.Mismatch.{Mismatch}
use Rattle.nor_reader.specs.declared.difference.Mismatch.TheVariants.{Exchange, Differs}
use Rattle.nor_reader.specs.Status.{HasReadRegister, HasSettled, Settles, ReadsStatus, StopsRegister}
use Rattle.nor_loop.specs.Log.{Operation, IsShort, HasLogged}
use Rattle.nor_loop.specs.Reads.{chunk, switch_ops, Chunk}
use Rattle.nor_loop.specs.Steps.{status_read}
use Rattle.nor_reader.specs.declared.by.ReadBy.{ReadBy}
use Rattle.nor_reader.specs.declared.by.ReadBy.TheVariants.{Tables, Content, FourBytes, Entered}
use Rattle.nor_reader.specs.declared.tables.TablesFault.{TablesFault}
use Rattle.nor_reader.specs.declared.tables.TablesFault.TheVariants.{Memory, NoSignature, Unread}
use Rattle.nor_reader.specs.Again.{MissesOn, MissesPiece}
use Rattle.nor_reader.specs.Harmless.{is_harmless, requests, HasSentHarmless, IsHarmless, SendsHarmless}
use Rattle.nor_reader.specs.Id.{Identifies}
use Rattle.nor_reader.specs.Past.{ReadsPast, with_past}
use Rattle.nor_reader.specs.Reads.{sent_by, read_op, ops_from, HasReadChunk, HasReadOn, Reads, ReadsBy, StopsOn, StopsPiece}
use Rattle.nor_reader.specs.Switched.{enter_of, enter_ops, leave_of, leave_ops, StopsAmong}
use Rattle.nor_reader.specs.Tables.{table_reads, HasReadTables, StopsTables}
use Rattle.nor_reader.specs.Twice.{twice, HasReadWhole, MissesWhole, ReadTwice, StopsFirst, StopsTwice, Twice}

-- nothing; one part after the other; a whole one is a part
pub none_sent : (h : Option (List ℕ)) → HasSentHarmless h h
none_sent h = record { ops = []; each = tt; out = Appends-none h }

pub both_sent : (h i j : Option (List ℕ)) → HasSentHarmless h i → HasSentHarmless i j → HasSentHarmless h j
both_sent h i j one two = record {
  ops = one.ops ++ two.ops;
  each = all_append IsHarmless one.ops two.ops one.each two.each;
  out = subst (Appends h j) (sym (flat_map-append (λ (o : Operation). request o.sent (length o.got)) one.ops two.ops))
      (Appends-append h i j (requests one.ops) (requests two.ops) one.out two.out);
}

pub whole_sent : (h i : Option (List ℕ)) → HasSentHarmless h i → SendsHarmless h i
whole_sent h i one = record { ops = one.ops; each = one.each; out = inl one.out }

pub then_sends : (h i j : Option (List ℕ)) → HasSentHarmless h i → SendsHarmless i j → SendsHarmless h j
then_sends h i j one two =
    let joined = sym (flat_map-append (λ (o : Operation). request o.sent (length o.got)) one.ops two.ops) in
    record {
      ops = one.ops ++ two.ops;
      each = all_append IsHarmless one.ops two.ops one.each two.each;
      out = elim two.out [
        | inl whole ↦ inl (subst (Appends h j) joined (Appends-append h i j (requests one.ops) (requests two.ops) one.out whole))
        | inr cut ↦ inr (subst (Cuts h j) joined (Cuts-then h i j (requests one.ops) (requests two.ops) one.out cut))
      ];
    }

-- a log of such operations
both_hold : (ops : List Operation) → AllByRecursion IsShort ops → AllByRecursion (λ o. is_harmless o.sent ≡ true) ops → AllByRecursion IsHarmless ops
both_hold [] short begins = tt
both_hold (o ∷ ops) short begins = (record { short = short.0; begins = begins.0 }, both_hold ops short.1 begins.1)

logged_sent : (h i : Option (List ℕ)) (a b : Ahead) (log : List Operation) → HasLogged (wire h a) (wire i b) log → AllByRecursion (λ o. is_harmless o.sent ≡ true) log
    → HasSentHarmless h i
logged_sent h i a b log wire begins = record { ops = log; each = both_hold log wire.short begins; out = wire.talked.out }

-- an exchange of one ended early
one_stops : (h i : Option (List ℕ)) (a b : Ahead) (o : Operation) (why : Fault) (Answered : Type 0) → IsHarmless o
    → Asks (wire h a) (wire i b) (Err why) (request o.sent (length o.got)) Answered → SendsHarmless h i
one_stops h i a b o fault.Write Answered is stop =
    record { ops = o ∷ []; each = (is, tt); out = inr (subst (Cuts h i) (sym (append-nil (request o.sent (length o.got)))) stop.0) }
one_stops h i a b o fault.Read Answered is stop =
    record { ops = o ∷ []; each = (is, tt); out = inl (subst (Appends h i) (sym (append-nil (request o.sent (length o.got)))) stop.0) }
one_stops h i a b o fault.Silent Answered is stop =
    record { ops = o ∷ []; each = (is, tt); out = inl (subst (Appends h i) (sym (append-nil (request o.sent (length o.got)))) stop.0) }
one_stops h i a b o fault.Nak Answered is stop =
    record { ops = o ∷ []; each = (is, tt); out = inl (subst (Appends h i) (sym (append-nil (request o.sent (length o.got)))) stop.0) }
one_stops h i a b o fault.Differs Answered is stop =
    record { ops = o ∷ []; each = (is, tt); out = inl (subst (Appends h i) (sym (append-nil (request o.sent (length o.got)))) stop.0) }

-- reads
either_harmless : (b : Bool) (xs ys : List ℕ) → is_harmless xs ≡ true → is_harmless ys ≡ true → is_harmless (if b then xs else ys) ≡ true
either_harmless true xs ys x y = x
either_harmless false xs ys x y = y

read_harmless : (by : ReadBy) (at len : ℕ) → is_harmless (sent_by by at len) ≡ true
read_harmless Tables at len = refl
read_harmless (Content true) at len = refl
read_harmless (Content false) at len =
    either_harmless (nat_lt (2 ^ 24) (at + len)) (0x13 ∷ address_bytes 4 at) (0x03 ∷ address_bytes 3 at) refl refl
read_harmless FourBytes at len = refl
read_harmless (Entered enter leave) at len = refl

either_short : (b : Bool) (xs ys : List ℕ) → length xs < 2 ^ 24 → length ys < 2 ^ 24 → length (if b then xs else ys) < 2 ^ 24
either_short true xs ys x y = x
either_short false xs ys x y = y

sent_short : (by : ReadBy) (at len : ℕ) → length (sent_by by at len) < 2 ^ 24
sent_short Tables at len = omega arith
sent_short (Content true) at len = omega arith
sent_short (Content false) at len =
    either_short (nat_lt (2 ^ 24) (at + len)) (0x13 ∷ address_bytes 4 at) (0x03 ∷ address_bytes 3 at) (omega arith) (omega arith)
sent_short FourBytes at len = omega arith
sent_short (Entered enter leave) at len = omega arith

ops_harmless : (by : ReadBy) (at : ℕ) (pieces : List (List ℕ)) → AllByRecursion (λ o. is_harmless o.sent ≡ true) (ops_from by at pieces)
ops_harmless by at [] = tt
ops_harmless by at (piece ∷ pieces) = (read_harmless by at (length piece), ops_harmless by (at + length piece) pieces)

read_sent : (r : Reads) (h i : Option (List ℕ)) (a b : Ahead) (front bytes : List ℕ) → HasReadOn r (wire h a) (wire i b) front bytes
    → HasSentHarmless h i
read_sent r h i a b front bytes read =
    logged_sent h i a b (ops_from r.by (length front) read.pieces) read.wire (ops_harmless r.by (length front) read.pieces)

chunk_sent : (r : Reads) (h i : Option (List ℕ)) (a b : Ahead) (c : Chunk) → HasReadChunk r (wire h a) (wire i b) c → HasSentHarmless h i
chunk_sent r h i a b c read = logged_sent h i a b (ops_from r.by c.at read.pieces) read.wire (ops_harmless r.by c.at read.pieces)

piece_stops : (r : Reads) (h i : Option (List ℕ)) (a b : Ahead) (got : Chunk) (why : Fault) → StopsPiece r (wire h a) (wire i b) got why
    → SendsHarmless h i
piece_stops r h i a b got why stop =
    one_stops h i a b (read_op r.by got.at got.bytes) why (Answers a b (Err why) got.bytes)
    (record { short = (sent_short r.by got.at (length got.bytes), stop.0); begins = read_harmless r.by got.at (length got.bytes) }) stop.2

stops_sends : (r : Reads) (h i : Option (List ℕ)) (a b : Ahead) (front : List ℕ) (why : Fault) → StopsOn r (wire h a) (wire i b) front why
    → SendsHarmless h i
stops_sends r h i a b front why p =
    then_sends h p.held i (read_sent r h p.held a p.ahead front p.so_far p.read)
    (piece_stops r p.held i p.ahead b (chunk (length p.so_far) p.got) why p.stop)

piece_other : (r : Reads) (h i : Option (List ℕ)) (a b : Ahead) (want : Chunk) (d : Difference) → MissesPiece r (wire h a) (wire i b) want (Differs d)
    → HasSentHarmless h i
piece_other r h i a b want d p = record {
  ops = read_op r.by want.at want.bytes ∷ [];
  each = (record { short = (sent_short r.by want.at (length want.bytes), p.short); begins = read_harmless r.by want.at (length want.bytes) }, tt);
  out = subst (Appends h i) (sym (append-nil (request (sent_by r.by want.at (length want.bytes)) (length want.bytes)))) p.out;
}

piece_misses : (r : Reads) (h i : Option (List ℕ)) (a b : Ahead) (want : Chunk) (why : Mismatch) → MissesPiece r (wire h a) (wire i b) want why
    → SendsHarmless h i
piece_misses r h i a b want (Exchange why) p = piece_stops r h i a b (chunk want.at p.0) why p.2
piece_misses r h i a b want (Differs d) p = whole_sent h i (piece_other r h i a b want d p)

misses_sends : (r : Reads) (h i : Option (List ℕ)) (a b : Ahead) (c : Chunk) (why : Mismatch) → MissesOn r (wire h a) (wire i b) c why
    → SendsHarmless h i
misses_sends r h i a b c why p =
    then_sends h p.held i (chunk_sent r h p.held a p.ahead (chunk c.at (take p.at c.bytes)) p.alike)
    (piece_misses r p.held i p.ahead b (chunk (c.at + p.at) (slice_range c.bytes p.at (p.at + p.len))) why p.stop)

other_sent : (r : Reads) (h i : Option (List ℕ)) (a b : Ahead) (c : Chunk) (d : Difference)
    → MissesOn r (wire h a) (wire i b) c (Differs d) → HasSentHarmless h i
other_sent r h i a b c d p =
    both_sent h p.held i (chunk_sent r h p.held a p.ahead (chunk c.at (take p.at c.bytes)) p.alike)
    (piece_other r p.held i p.ahead b (chunk (c.at + p.at) (slice_range c.bytes p.at (p.at + p.len))) d p.stop)

-- the mode is switched
switch_harmless : (w : Switch) (op : ℕ) → is_harmless (op ∷ []) ≡ true → AllByRecursion IsHarmless (switch_ops w op)
switch_harmless Absent op is = tt
switch_harmless Plain op is = (record { short = (omega arith, omega arith); begins = is }, tt)
switch_harmless Latched op is = (
  record { short = (omega arith, omega arith); begins = refl },
  (record { short = (omega arith, omega arith); begins = is }, (record { short = (omega arith, omega arith); begins = refl }, tt)),
)

begins_of : (ops : List Operation) → AllByRecursion IsHarmless ops → AllByRecursion (λ o. is_harmless o.sent ≡ true) ops
begins_of [] all = tt
begins_of (o ∷ ops) all = (all.0.begins, begins_of ops all.1)

front_of : (xs ys : List Operation) → AllByRecursion IsHarmless (xs ++ ys) → AllByRecursion IsHarmless xs
front_of [] ys all = tt
front_of (x ∷ xs) ys all = (all.0, front_of xs ys all.1)

back_of : (xs ys : List Operation) → AllByRecursion IsHarmless (xs ++ ys) → AllByRecursion IsHarmless ys
back_of [] ys all = all
back_of (x ∷ xs) ys all = back_of xs ys all.1

done_sent : (h i : Option (List ℕ)) (a b : Ahead) (ops : List Operation) → AllByRecursion IsHarmless ops → HasLogged (wire h a) (wire i b) ops → HasSentHarmless h i
done_sent h i a b ops all wire = logged_sent h i a b ops wire (begins_of ops all)

among_sends : (h i : Option (List ℕ)) (a b : Ahead) (ops : List Operation) (why : Fault) → AllByRecursion IsHarmless ops → StopsAmong (wire h a) (wire i b) ops why
    → SendsHarmless h i
among_sends h i a b ops why all p =
    let parts = subst (AllByRecursion IsHarmless) p.those all in
    then_sends h p.held i (done_sent h p.held a p.ahead p.front (front_of p.front (p.last ∷ p.rest) parts) p.done)
    (one_stops p.held i p.ahead b p.last why (Answers p.ahead b (Err why) p.last.got) (back_of p.front (p.last ∷ p.rest) parts).0 p.stop)

pub switched_sent : (h i : Option (List ℕ)) (a b : Ahead) (w : Switch) (op : ℕ) → is_harmless (op ∷ []) ≡ true → HasLogged (wire h a) (wire i b) (switch_ops w op)
    → HasSentHarmless h i
switched_sent h i a b w op is wire = done_sent h i a b (switch_ops w op) (switch_harmless w op is) wire

pub switched_sends : (h i : Option (List ℕ)) (a b : Ahead) (w : Switch) (op : ℕ) (why : Fault) → is_harmless (op ∷ []) ≡ true
    → StopsAmong (wire h a) (wire i b) (switch_ops w op) why → SendsHarmless h i
switched_sends h i a b w op why is p = among_sends h i a b (switch_ops w op) why (switch_harmless w op is) p

enters : (by : ReadBy) → AllByRecursion IsHarmless (enter_ops by)
enters by = switch_harmless (enter_of by) 0xB7 refl

leaves : (by : ReadBy) → AllByRecursion IsHarmless (leave_ops by)
leaves by = switch_harmless (leave_of by) 0xE9 refl

-- a reading
whole_read : (r : Reads) (h i : Option (List ℕ)) (a b : Ahead) (c : Chunk) → HasReadWhole r (wire h a) (wire i b) c
    → HasSentHarmless h i
whole_read r h i a b c p =
    let rest = p.rest in
    both_sent h p.held i (done_sent h p.held a p.ahead (enter_ops r.by) (enters r.by) p.entered)
    (both_sent p.held rest.held i (chunk_sent r p.held rest.held p.ahead rest.ahead c rest.first)
    (done_sent rest.held i rest.ahead b (leave_ops r.by) (leaves r.by) rest.rest))

first_sends : (r : Reads) (h i : Option (List ℕ)) (a b : Ahead) (c : Chunk) (why : Fault) → StopsFirst r (wire h a) (wire i b) c why
    → SendsHarmless h i
first_sends r h i a b c why (inl p) = among_sends h i a b (enter_ops r.by) why (enters r.by) p
first_sends r h i a b c why (inr (inl p)) =
    then_sends h p.held i (done_sent h p.held a p.ahead (enter_ops r.by) (enters r.by) p.entered) (stops_sends r p.held i p.ahead b p.rest.0 why p.rest.2)
first_sends r h i a b c why (inr (inr p)) =
    let rest = p.rest in
    then_sends h p.held i (done_sent h p.held a p.ahead (enter_ops r.by) (enters r.by) p.entered)
    (then_sends p.held rest.held i (chunk_sent r p.held rest.held p.ahead rest.ahead c rest.first)
    (among_sends rest.held i rest.ahead b (leave_ops r.by) why (leaves r.by) rest.rest))

missed_sends : (r : Reads) (h i : Option (List ℕ)) (a b : Ahead) (c : Chunk) (why : Mismatch)
    → MissesWhole r (wire h a) (wire i b) c why → SendsHarmless h i
missed_sends r h i a b c (Exchange why) (inl p) = among_sends h i a b (enter_ops r.by) why (enters r.by) p
missed_sends r h i a b c (Exchange why) (inr (inl p)) =
    then_sends h p.held i (done_sent h p.held a p.ahead (enter_ops r.by) (enters r.by) p.entered)
    (misses_sends r p.held i p.ahead b c (Exchange why) p.rest)
missed_sends r h i a b c (Exchange why) (inr (inr (inl p))) =
    let rest = p.rest in
    then_sends h p.held i (done_sent h p.held a p.ahead (enter_ops r.by) (enters r.by) p.entered)
    (then_sends p.held rest.held i (chunk_sent r p.held rest.held p.ahead rest.ahead c rest.first)
    (among_sends rest.held i rest.ahead b (leave_ops r.by) why (leaves r.by) rest.rest))
missed_sends r h i a b c (Exchange why) (inr (inr (inr (d, p)))) =
    let rest = p.rest in
    then_sends h p.held i (done_sent h p.held a p.ahead (enter_ops r.by) (enters r.by) p.entered)
    (then_sends p.held rest.held i (other_sent r p.held rest.held p.ahead rest.ahead c d rest.first)
    (among_sends rest.held i rest.ahead b (leave_ops r.by) why (leaves r.by) rest.rest))
missed_sends r h i a b c (Differs d) p =
    let rest = p.rest in
    whole_sent h i (both_sent h p.held i (done_sent h p.held a p.ahead (enter_ops r.by) (enters r.by) p.entered)
    (both_sent p.held rest.held i (other_sent r p.held rest.held p.ahead rest.ahead c d rest.first)
    (done_sent rest.held i rest.ahead b (leave_ops r.by) (leaves r.by) rest.rest)))

reads_begin : (by : ReadBy) (at : ℕ) (pieces : List (List ℕ)) → AllByRecursion (λ o. is_harmless o.sent ≡ true) (enter_ops by ++ (ops_from by at pieces ++ leave_ops by))
reads_begin by at pieces =
    all_append (λ (o : Operation). is_harmless o.sent ≡ true) (enter_ops by) (ops_from by at pieces ++ leave_ops by) (begins_of (enter_ops by) (enters by))
    (all_append (λ (o : Operation). is_harmless o.sent ≡ true) (ops_from by at pieces) (leave_ops by) (ops_harmless by at pieces) (begins_of (leave_ops by) (leaves by)))

reading_begins : (r : Reads) (c : Chunk) (log : List Operation) → ReadsBy r c log
    → AllByRecursion (λ o. is_harmless o.sent ≡ true) log
reading_begins r c log reads =
    subst (λ (l : List Operation). AllByRecursion (λ o. is_harmless o.sent ≡ true) l) (sym reads.those) (reads_begin r.by c.at reads.pieces)

-- bytes that came twice alike, or didn't
pub twice_sent : (t : Twice) (h i : Option (List ℕ)) (a b : Ahead) (c : Chunk) → ReadTwice t (wire h a) (wire i b) c → HasSentHarmless h i
twice_sent t h i a b c p =
    logged_sent h i a b (p.first ++ p.second) p.wire
    (all_append (λ (o : Operation). is_harmless o.sent ≡ true) p.first p.second (reading_begins t.first c p.first p.reads)
    (reading_begins t.again c p.second p.rereads))

pub twice_sends : (t : Twice) (h i : Option (List ℕ)) (a b : Ahead) (c : Chunk) (why : Mismatch) → StopsTwice t (wire h a) (wire i b) c why
    → SendsHarmless h i
twice_sends t h i a b c (Exchange why) (inl p) = first_sends t.first h i a b c why p
twice_sends t h i a b c (Exchange why) (inr p) =
    then_sends h p.held i (whole_read t.first h p.held a p.ahead c p.read) (missed_sends t.again p.held i p.ahead b c (Exchange why) p.missed)
twice_sends t h i a b c (Differs d) p =
    then_sends h p.held i (whole_read t.first h p.held a p.ahead c p.read) (missed_sends t.again p.held i p.ahead b c (Differs d) p.missed)

-- bytes past the end
pub past_sent : (r : Reads) (h i : Option (List ℕ)) (a b : Ahead) (content : List ℕ) → ReadsPast r (wire h a) (wire i b) (Ok tt) content
    → HasSentHarmless h i
past_sent r h i a b content p = read_sent r h i a b content (with_past r.by content) p

pub past_sends : (r : Reads) (h i : Option (List ℕ)) (a b : Ahead) (content : List ℕ) (why : Mismatch)
    → ReadsPast r (wire h a) (wire i b) (Err why) content → SendsHarmless h i
past_sends r h i a b content why p =
    then_sends h p.held i (read_sent r h p.held a p.ahead content (content ++ take p.at content) p.alike)
    (piece_misses r p.held i p.ahead b (chunk (length content + p.at) (slice_range content p.at (p.at + p.len))) why p.stop)

-- tables
pub tables_sent : (most : ℕ) (h i : Option (List ℕ)) (a b : Ahead) (bytes : List ℕ) → HasReadTables most (wire h a) (wire i b) bytes → HasSentHarmless h i
tables_sent most h i a b bytes p = twice_sent (twice most Tables Tables) h i a b (chunk 0 bytes) p.twice

pub tables_none : (most : ℕ) (h i : Option (List ℕ)) (a b : Ahead) → StopsTables most (wire h a) (wire i b) NoSignature → HasSentHarmless h i
tables_none most h i a b p = read_sent (table_reads most) h i a b [] p.0 p.3

pub tables_sends : (most : ℕ) (h i : Option (List ℕ)) (a b : Ahead) (why : TablesFault) → StopsTables most (wire h a) (wire i b) why → SendsHarmless h i
tables_sends most h i a b NoSignature p = whole_sent h i (tables_none most h i a b p)
tables_sends most h i a b (Unread why) p = twice_sends (twice most Tables Tables) h i a b (chunk 0 p.0) why p.1
tables_sends most h i a b Memory p = whole_sent h i (read_sent (table_reads most) h i a b [] p.0 p.1)

-- an identification
pub id_sent : (h i : Option (List ℕ)) (a b : Ahead) (id : List ℕ) → Identifies (wire h a) (wire i b) (Ok id) → HasSentHarmless h i
id_sent h i a b id wire = logged_sent h i a b (record { sent = 0x9F ∷ []; got = id } ∷ []) wire (refl, tt)

pub id_sends : (h i : Option (List ℕ)) (a b : Ahead) (why : Fault) → Identifies (wire h a) (wire i b) (Err why) → SendsHarmless h i
id_sends h i a b why (got, three, stop) =
    one_stops h i a b (record { sent = 0x9F ∷ []; got = got }) why (Answers a b (Err why) got)
    (record { short = (omega arith, omega (arith, three)); begins = refl })
    (subst (λ n. Asks (wire h a) (wire i b) (Err why) (request (0x9F ∷ []) n) (Answers a b (Err why) got)) (sym three) stop)

-- a status
statuses_harmless : (statuses : List ℕ) → AllByRecursion IsHarmless (map status_read statuses)
statuses_harmless [] = tt
statuses_harmless (x ∷ xs) = (record { short = (omega arith, omega arith); begins = refl }, statuses_harmless xs)

statuses_asked : (statuses : List ℕ) → flat_map (λ status. status_request) statuses ≡ requests (map status_read statuses)
statuses_asked [] = refl
statuses_asked (x ∷ xs) = ap (λ rest. status_request ++ rest) (statuses_asked xs)

statuses_sent : (h i : Option (List ℕ)) (a b : Ahead) (statuses : List ℕ) → HasRead (wire h a) (wire i b) statuses → HasSentHarmless h i
statuses_sent h i a b statuses read =
    record { ops = map status_read statuses; each = statuses_harmless statuses; out = subst (Appends h i) (statuses_asked statuses) read.out }

settled_sent : (h i : Option (List ℕ)) (a b : Ahead) (status turns : ℕ) → HasSettled (wire h a) (wire i b) status turns → HasSentHarmless h i
settled_sent h i a b status turns p = statuses_sent h i a b (p.busy ++ status ∷ []) p.read

pub register_sent : (h i : Option (List ℕ)) (a b : Ahead) (op byte : ℕ) → is_harmless (op ∷ []) ≡ true → HasReadRegister (wire h a) (wire i b) op byte → HasSentHarmless h i
register_sent h i a b op byte is p = record {
  ops = record { sent = op ∷ []; got = byte ∷ [] } ∷ [];
  each = (record { short = (omega arith, omega arith); begins = is }, tt);
  out = subst (Appends h i) (sym (append-nil (request (op ∷ []) 1))) p.out;
}

pub register_sends : (h i : Option (List ℕ)) (a b : Ahead) (op : ℕ) (why : Fault) → is_harmless (op ∷ []) ≡ true → StopsRegister (wire h a) (wire i b) op why → SendsHarmless h i
register_sends h i a b op why is p =
    one_stops h i a b (record { sent = op ∷ []; got = p.got }) why (Answers a b (Err why) p.got)
    (record { short = (omega arith, omega (arith, p.one)); begins = is })
    (subst (λ n. Asks (wire h a) (wire i b) (Err why) (request (op ∷ []) n) (Answers a b (Err why) p.got)) (sym p.one) p.stop)

waits_sends : (h i : Option (List ℕ)) (a b : Ahead) (why : Reason) (turns : ℕ) → Settles (wire h a) (wire i b) (Err why) turns → SendsHarmless h i
waits_sends h i a b reason.Busy turns p = whole_sent h i (statuses_sent h i a b p.busy p.read)
waits_sends h i a b (reason.Exchange why) turns p =
    then_sends h p.held i (statuses_sent h p.held a p.ahead p.busy p.read)
    (register_sends p.held i p.ahead b 0x05 why refl p.stop)
waits_sends h i a b reason.Carried turns p = absurd p
waits_sends h i a b (reason.Differs place byte) turns p = absurd p

pub status_sent : (part : Part) (h i : Option (List ℕ)) (a b : Ahead) (status turns : ℕ) → ReadsStatus part (wire h a) (wire i b) (Ok status) turns → HasSentHarmless h i
status_sent Generic h i a b status turns p = settled_sent h i a b status turns p
status_sent W25q256jv h i a b status turns p =
    both_sent h p.held_first i (settled_sent h p.held_first a p.ahead_first p.first turns p.settled)
    (both_sent p.held_first p.held_second i (register_sent p.held_first p.held_second p.ahead_first p.ahead_second 0x35 p.second refl p.middle)
    (register_sent p.held_second i p.ahead_second b 0x15 p.third refl p.high))

pub status_sends : (part : Part) (h i : Option (List ℕ)) (a b : Ahead) (why : Reason) (turns : ℕ) → ReadsStatus part (wire h a) (wire i b) (Err why) turns → SendsHarmless h i
status_sends Generic h i a b why turns p = waits_sends h i a b why turns p
status_sends W25q256jv h i a b (reason.Exchange why) turns (inl p) = waits_sends h i a b (reason.Exchange why) turns p
status_sends W25q256jv h i a b (reason.Exchange why) turns (inr (inl p)) =
    then_sends h p.held i (settled_sent h p.held a p.ahead p.first turns p.settled) (register_sends p.held i p.ahead b 0x35 why refl p.stop)
status_sends W25q256jv h i a b (reason.Exchange why) turns (inr (inr p)) =
    then_sends h p.held_second i
    (both_sent h p.held_first p.held_second (settled_sent h p.held_first a p.ahead_first p.first turns p.settled)
    (register_sent p.held_first p.held_second p.ahead_first p.ahead_second 0x35 p.second refl p.middle))
    (register_sends p.held_second i p.ahead_second b 0x15 why refl p.stop)
status_sends W25q256jv h i a b reason.Busy turns p = waits_sends h i a b reason.Busy turns p
status_sends W25q256jv h i a b reason.Carried turns p = absurd p
status_sends W25q256jv h i a b (reason.Differs place byte) turns p = absurd p
