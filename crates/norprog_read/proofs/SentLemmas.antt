-- What one reading of some bytes sends changes nothing of what a chip holds.
use Rattle.std.proofs.Common.{◌≡◌, ◌<◌, inl, inr, ℕ, ◌+◌, ◌^◌, Bool, true, false, List, [], ◌∷◌, length, take, refl, sym, subst, arith, append-nil, Err}
use Rattle.std.specs.Prelude.{if◌then◌else◌, nat_lt}
use Rattle.std.specs.Io.KnownBytes.{Appends}
use Rattle.std.specs.List.{AllByRecursion, slice_range}
use Rattle.nor_base.specs.Clocks.{address_bytes}
use Rattle.nor_base.specs.Device.{Cuts}
use Rattle.nor_base.specs.Wire.{wire, Wire}
use Rattle.nor_loop.specs.Log.{Operation, IsShort, HasLogged}
use Rattle.nor_loop.specs.Reads.{chunk, Chunk}
use Rattle.nor_reader.specs.declared.by.ReadBy.{ReadBy}
use Rattle.nor_reader.specs.declared.by.ReadBy.TheVariants.{Tables, Content, FourBytes, Entered}
use Rattle.nor_reader.specs.declared.difference.Difference.{Difference}
use Rattle.nor_reader.specs.declared.difference.Mismatch.TheVariants.{Exchange, Differs}
use Rattle.nor_reader.specs.Again.{MissesOn, MissesPiece}
use Rattle.nor_reader.specs.Harmless.{is_harmless, HasSentHarmless, IsHarmless, SendsHarmless}
use Rattle.nor_reader.specs.Reads.{sent_by, read_op, ops_from, HasReadChunk, Reads, StopsPiece}
use Rattle.nor_reader.specs.Switched.{enter_of, enter_ops, leave_of, leave_ops, StopsAmong}
use Rattle.nor_reader.specs.Twice.{HasReadWhole, MissesWhole}
use Rattle.nor_reader.proofs.HarmlessLemmas.{both_sent, none_sent, switched_sends, switched_sent, then_sends, whole_sent}
use Rattle.nor_serprog.specs.declared.fault.Fault.{Fault}
use Rattle.nor_serprog.specs.declared.fault.Fault.TheVariants as fault
use Rattle.nor_serprog.specs.Exchange.{Answers, Asks}
use Rattle.nor_serprog.specs.Protocol.{request}

-- between two moments of the wire
abbrev pub Sent : Wire → Wire → Type 0
Sent u v = HasSentHarmless u.held v.held

abbrev pub Sends : Wire → Wire → Type 0
Sends u v = SendsHarmless u.held v.held

pub both : (u v w : Wire) → Sent u v → Sent v w → Sent u w
both u v w one two = both_sent u.held v.held w.held one two

pub then_ : (u v w : Wire) → Sent u v → Sends v w → Sends u w
then_ u v w one two = then_sends u.held v.held w.held one two

pub whole : (u v : Wire) → Sent u v → Sends u v
whole u v one = whole_sent u.held v.held one

-- nothing was sent
pub stays : (u v : Wire) → v ≡ u → Sent u v
stays u v same = subst (λ (x : Wire). Sent u x) (sym same) (none_sent u.held)

-- a read begins so, and is short
either : (F : List ℕ → Type 0) (b : Bool) (xs ys : List ℕ) → F xs → F ys → F (if b then xs else ys)
either F true xs ys x y = x
either F false xs ys x y = y

begins : (by : ReadBy) (at len : ℕ) → is_harmless (sent_by by at len) ≡ true
begins Tables at len = refl
begins (Content true) at len = refl
begins (Content false) at len =
    either (λ xs. is_harmless xs ≡ true) (nat_lt (2 ^ 24) (at + len)) (0x13 ∷ address_bytes 4 at) (0x03 ∷ address_bytes 3 at) refl refl
begins FourBytes at len = refl
begins (Entered enter leave) at len = refl

short : (by : ReadBy) (at len : ℕ) → length (sent_by by at len) < 2 ^ 24
short Tables at len = omega arith
short (Content true) at len = omega arith
short (Content false) at len =
    either (λ xs. length xs < 2 ^ 24) (nat_lt (2 ^ 24) (at + len)) (0x13 ∷ address_bytes 4 at) (0x03 ∷ address_bytes 3 at) (omega arith) (omega arith)
short FourBytes at len = omega arith
short (Entered enter leave) at len = omega arith

harmless : (by : ReadBy) (at : ℕ) (bytes : List ℕ) → length bytes < 2 ^ 24 → IsHarmless (read_op by at bytes)
harmless by at bytes few = record { short = (short by at (length bytes), few); begins = begins by at (length bytes) }

all_harmless : (by : ReadBy) (at : ℕ) (pieces : List (List ℕ)) → AllByRecursion IsShort (ops_from by at pieces)
    → AllByRecursion IsHarmless (ops_from by at pieces)
all_harmless by at [] few = tt
all_harmless by at (piece ∷ pieces) few = (harmless by at piece few.0.1, all_harmless by (at + length piece) pieces few.1)

-- some came
chunk_sent : (r : Reads) (u v : Wire) (c : Chunk) → HasReadChunk r u v c → Sent u v
chunk_sent r u v c read =
    record { ops = ops_from r.by c.at read.pieces; each = all_harmless r.by c.at read.pieces read.wire.short; out = read.wire.talked.out }

-- the exchange of one ended early
one_stops : (u v : Wire) (o : Operation) (why : Fault) (Answered : Type 0) → IsHarmless o → Asks u v (Err why) (request o.sent (length o.got)) Answered → Sends u v
one_stops u v o fault.Write Answered is stop =
    record { ops = o ∷ []; each = (is, tt); out = inr (subst (Cuts u.held v.held) (sym (append-nil (request o.sent (length o.got)))) stop.0) }
one_stops u v o fault.Read Answered is stop =
    record { ops = o ∷ []; each = (is, tt); out = inl (subst (Appends u.held v.held) (sym (append-nil (request o.sent (length o.got)))) stop.0) }
one_stops u v o fault.Silent Answered is stop =
    record { ops = o ∷ []; each = (is, tt); out = inl (subst (Appends u.held v.held) (sym (append-nil (request o.sent (length o.got)))) stop.0) }
one_stops u v o fault.Nak Answered is stop =
    record { ops = o ∷ []; each = (is, tt); out = inl (subst (Appends u.held v.held) (sym (append-nil (request o.sent (length o.got)))) stop.0) }
one_stops u v o fault.Differs Answered is stop =
    record { ops = o ∷ []; each = (is, tt); out = inl (subst (Appends u.held v.held) (sym (append-nil (request o.sent (length o.got)))) stop.0) }

piece_stops : (r : Reads) (u v : Wire) (got : Chunk) (why : Fault) → StopsPiece r u v got why → Sends u v
piece_stops r u v got why stop =
    one_stops u v (read_op r.by got.at got.bytes) why (Answers u.ahead v.ahead (Err why) got.bytes) (harmless r.by got.at got.bytes stop.0) stop.2

-- another byte came
piece_other : (r : Reads) (u v : Wire) (want : Chunk) (d : Difference) → MissesPiece r u v want (Differs d) → Sent u v
piece_other r u v want d p = record {
  ops = read_op r.by want.at want.bytes ∷ [];
  each = (harmless r.by want.at want.bytes p.short, tt);
  out = subst (Appends u.held v.held) (sym (append-nil (request (sent_by r.by want.at (length want.bytes)) (length want.bytes)))) p.out;
}

misses_sends : (r : Reads) (u v : Wire) (c : Chunk) (why : Fault) → MissesOn r u v c (Exchange why) → Sends u v
misses_sends r u v c why p =
    let w = wire p.held p.ahead in
    let missed = p.stop in
    then_ u w v (chunk_sent r u w (chunk c.at (take p.at c.bytes)) p.alike) (piece_stops r w v (chunk (c.at + p.at) missed.0) why missed.2)

other_sent : (r : Reads) (u v : Wire) (c : Chunk) (d : Difference) → MissesOn r u v c (Differs d) → Sent u v
other_sent r u v c d p =
    let w = wire p.held p.ahead in
    both u w v (chunk_sent r u w (chunk c.at (take p.at c.bytes)) p.alike)
    (piece_other r w v (chunk (c.at + p.at) (slice_range c.bytes p.at (p.at + p.len))) d p.stop)

-- four-byte mode is entered and left
enter_sent : (by : ReadBy) (u v : Wire) → HasLogged u v (enter_ops by) → Sent u v
enter_sent by u v p = switched_sent u.held v.held u.ahead v.ahead (enter_of by) 0xB7 refl p

leave_sent : (by : ReadBy) (u v : Wire) → HasLogged u v (leave_ops by) → Sent u v
leave_sent by u v p = switched_sent u.held v.held u.ahead v.ahead (leave_of by) 0xE9 refl p

leave_sends : (by : ReadBy) (u v : Wire) (why : Fault) → StopsAmong u v (leave_ops by) why → Sends u v
leave_sends by u v why p = switched_sends u.held v.held u.ahead v.ahead (leave_of by) 0xE9 why refl p

-- all bytes came; a byte came otherwise; an exchange ended early
pub again_sent : (r : Reads) (u v : Wire) (c : Chunk) → HasReadWhole r u v c → Sent u v
again_sent r u v c p =
    let rest = p.rest in
    let w = wire p.held p.ahead in
    let x = wire rest.held rest.ahead in
    both u w v (enter_sent r.by u w p.entered) (both w x v (chunk_sent r w x c rest.first) (leave_sent r.by x v rest.rest))

pub differs_sent : (r : Reads) (u v : Wire) (c : Chunk) (d : Difference) → MissesWhole r u v c (Differs d) → Sent u v
differs_sent r u v c d p =
    let rest = p.rest in
    let w = wire p.held p.ahead in
    let x = wire rest.held rest.ahead in
    both u w v (enter_sent r.by u w p.entered) (both w x v (other_sent r w x c d rest.first) (leave_sent r.by x v rest.rest))

pub again_sends : (r : Reads) (u v : Wire) (c : Chunk) (why : Fault) → MissesWhole r u v c (Exchange why) → Sends u v
again_sends r u v c why (inl p) = switched_sends u.held v.held u.ahead v.ahead (enter_of r.by) 0xB7 why refl p
again_sends r u v c why (inr (inl p)) =
    let w = wire p.held p.ahead in then_ u w v (enter_sent r.by u w p.entered) (misses_sends r w v c why p.rest)
again_sends r u v c why (inr (inr (inl p))) =
    let rest = p.rest in
    let w = wire p.held p.ahead in
    let x = wire rest.held rest.ahead in
    then_ u w v (enter_sent r.by u w p.entered) (then_ w x v (chunk_sent r w x c rest.first) (leave_sends r.by x v why rest.rest))
again_sends r u v c why (inr (inr (inr (d, p)))) =
    let rest = p.rest in
    let w = wire p.held p.ahead in
    let x = wire rest.held rest.ahead in
    then_ u w v (enter_sent r.by u w p.entered) (then_ w x v (other_sent r w x c d rest.first) (leave_sends r.by x v why rest.rest))
