-- The test of a line, exchange by exchange.
use Rattle.std.proofs.Common.{◌≡◌, ℕ, zero, suc, ◌+◌, ◌-◌, ◌*◌, ◌<◌, ◌≤◌, Bool, true, false, List, [], ◌∷◌, ◌++◌, length, get_or, set, take, drop, Option, Result, Ok, Err, refl, sym, ◌∙◌, ap, subst, append_assoc, append-nil, arith, add-one, length-append, length-drop, length-take}
use Rattle.std.specs.Prelude.{flat_map, nat_lt, nat_le, min, replicate}
use Rattle.std.specs.List.{list_all, concat, slice_range}
use Rattle.std.specs.Io.KnownBytes.{Appends}
use Rattle.std.proofs.Math.Nat.{suc-mul}
use Rattle.std.proofs.Math.Seq.{take-add, take-append-add, drop-append-add}
use Rattle.std.proofs.lemmas.Bool.{ltb-true, ltb-false, lt-ltb, leb-true, le-leb}
use Rattle.std.proofs.lemmas.Grind.{flat_map-append}
use Rattle.std.proofs.lemmas.List.{map-append, take_more, take_more_set, take_all}
use Rattle.std.proofs.lemmas.List.Folds.{list_all-append, concat-append}
use Rattle.std.proofs.lemmas.List.FromFn.{length-range_with_len, get_or-range_with_len}
use Rattle.nor_base.specs.Device.{Ahead, Gives}
use Rattle.nor_base.specs.Wire.{wire}
use Rattle.nor_serprog.specs.declared.fault.Fault.{Fault}
use Rattle.nor_serprog.specs.declared.limits.Limits.{Limits}
use Rattle.nor_serprog.specs.Protocol.{head, request}
use Rattle.nor_serprog.specs.Exchange.{Meets, Asks}
use Rattle.nor_serprog.specs.Greeting.{Exchange, HasExchanged}
use Rattle.nor_serprog.specs.Line.{all_values, zeros_if, ignored, is_piece, ArePieces, values_test, line_test, Breaks, StopsIn, Exchanges, SendsValues, TestsLine}
use Rattle.nor_serprog.proofs.FollowLemmas.{nothing_talked, talked_more}
use Rattle.nor_serprog.proofs.GreetLemmas.{exchanged_one}

-- exchanges, and then more
exchanged_all : (h m h' : Option (List ℕ)) (a b a' : Ahead) (xs ys : List Exchange) → HasExchanged (wire h a) (wire m b) xs → HasExchanged (wire m b) (wire h' a') ys → HasExchanged (wire h a) (wire h' a') (xs ++ ys)
exchanged_all h m h' a b a' xs ys p q =
    let whole = talked_more (flat_map (λ (e : Exchange). e.put) xs) (flat_map (λ (e : Exchange). e.given) xs) (flat_map (λ (e : Exchange). e.put) ys) (flat_map (λ (e : Exchange). e.given) ys) p q in
    record {
      out = subst (Appends h h') (sym (flat_map-append (λ (e : Exchange). e.put) xs ys)) whole.out;
      back = subst (λ bytes. Gives a bytes a') (sym (flat_map-append (λ (e : Exchange). e.given) xs ys)) whole.back;
    }

pub does_none : (h : Option (List ℕ)) (a : Ahead) → HasExchanged (wire h a) (wire h a) []
does_none h a = nothing_talked h a

-- one alone
pub does_one : (h h' : Option (List ℕ)) (a a' : Ahead) (r : Result (Unit {0}) Fault) (x : Exchange) → Asks (wire h a) (wire h' a') r x.put (Meets a a' r x.given)
    → Exchanges (wire h a) (wire h' a') r (x ∷ [])
does_one h h' a a' (Ok u) x p = exchanged_one x (record { out = p.0; back = p.1 })
does_one h h' a a' (Err why) x p = record { at = 0; held = h; ahead = a; before = does_none h a; stop = p }

-- what ended one of some exchanges ended one of these and more
stop_more : (h h' : Option (List ℕ)) (a a' : Ahead) (why : Fault) (at : ℕ) (xs ys : List Exchange) → Breaks (wire h a) (wire h' a') why (drop at xs)
    → Breaks (wire h a) (wire h' a') why (drop at (xs ++ ys))
stop_more h h' a a' why zero (x ∷ xs) ys p = p
stop_more h h' a a' why zero [] ys p = absurd p
stop_more h h' a a' why (suc at) [] ys p = absurd p
stop_more h h' a a' why (suc at) (x ∷ xs) ys p = stop_more h h' a a' why at xs ys p

front_more : (h h' : Option (List ℕ)) (a a' : Ahead) (why : Fault) (at : ℕ) (xs ys : List Exchange) → Breaks (wire h a) (wire h' a') why (drop at xs)
    → take at xs ≡ take at (xs ++ ys)
front_more h h' a a' why zero xs ys p = refl
front_more h h' a a' why (suc at) [] ys p = absurd p
front_more h h' a a' why (suc at) (x ∷ xs) ys p = ap (λ zs. x ∷ zs) (front_more h h' a a' why at xs ys p)

pub stops_before : (h h' : Option (List ℕ)) (a a' : Ahead) (why : Fault) (xs ys : List Exchange) → Exchanges (wire h a) (wire h' a') (Err why) xs → Exchanges (wire h a) (wire h' a') (Err why) (xs ++ ys)
stops_before h h' a a' why xs ys p = record {
  at = p.at;
  held = p.held;
  ahead = p.ahead;
  before = subst (HasExchanged (wire h a) (wire p.held p.ahead)) (front_more p.held h' p.ahead a' why p.at xs ys p.stop) p.before;
  stop = stop_more p.held h' p.ahead a' why p.at xs ys p.stop;
}

-- exchanges that were done, and then others
pub does_then : (h m h' : Option (List ℕ)) (a b a' : Ahead) (r : Result (Unit {0}) Fault) (xs ys : List Exchange) → HasExchanged (wire h a) (wire m b) xs → Exchanges (wire m b) (wire h' a') r ys
    → Exchanges (wire h a) (wire h' a') r (xs ++ ys)
does_then h m h' a b a' (Ok u) xs ys p q = exchanged_all h m h' a b a' xs ys p q
does_then h m h' a b a' (Err why) xs ys p q = record {
  at = length xs + q.at;
  held = q.held;
  ahead = q.ahead;
  before = subst (HasExchanged (wire h a) (wire q.held q.ahead)) (sym (take-append-add xs ys q.at)) (exchanged_all h m q.held a b q.ahead xs (take q.at ys) p q.before);
  stop = subst (Breaks (wire q.held q.ahead) (wire h' a') why) (sym (drop-append-add xs ys q.at)) q.stop;
}

pub tested : (h h' : Option (List ℕ)) (a a' : Ahead) (r : Result (Unit {0}) Fault) (limits : Limits) (pieces : List (List ℕ)) → ArePieces limits.sent pieces
    → Exchanges (wire h a) (wire h' a') r (line_test pieces limits) → TestsLine (wire h a) (wire h' a') r limits
tested h h' a a' (Ok u) limits pieces are p = record { pieces = pieces; are = are; talked = p }
tested h h' a a' (Err why) limits pieces are p = record { pieces = pieces; are = are; stops = p }

-- a command, in its parts
pub command_one : (h h' : Option (List ℕ)) (a a' : Ahead) (r : Result (Unit {0}) Fault) (command put given : List ℕ) → command ≡ put
    → Asks (wire h a) (wire h' a') r command (Meets a a' r given) → Exchanges (wire h a) (wire h' a') r (record { put = put; given = given } ∷ [])
command_one h h' a a' r command put given is p =
    does_one h h' a a' r (record { put = put; given = given }) (subst (λ xs. Asks (wire h a) (wire h' a') r xs (Meets a a' r given)) is p)

pub ignored_parts : (front bytes : List ℕ) → front ≡ head (length bytes + 1) 0 → front ++ (0x05 ∷ (bytes ++ [])) ≡ request (0x05 ∷ bytes) 0
ignored_parts front bytes is =
    ap (λ xs. xs ++ (0x05 ∷ (bytes ++ []))) (is ∙ ap (λ n. head n 0) (add-one (length bytes))) ∙ ap (λ xs. head (suc (length bytes)) 0 ++ (0x05 ∷ xs)) (append-nil bytes)

-- zeros where the device sends so many, and none else
none_by : (sent count : ℕ) (b : Bool) → nat_le count sent ≡ b → sent < count → zeros_if sent count ≡ []
unfolding zeros_if
none_by sent count true is few = let enough = leb-true count sent is in absurd (omega (arith, enough))
none_by sent count false is few = rw is refl

pub zeros_none : (h : Option (List ℕ)) (a : Ahead) (sent count : ℕ) → sent < count → Exchanges (wire h a) (wire h a) (Ok tt) (zeros_if sent count)
zeros_none h a sent count few = subst (Exchanges (wire h a) (wire h a) (Ok tt)) (sym (none_by sent count (nat_le count sent) refl few)) (does_none h a)

some_by : (sent count : ℕ) → count ≤ sent → zeros_if sent count ≡ ignored (replicate (count - 1) 0) ∷ []
unfolding zeros_if
some_by sent count enough = let yes : nat_le count sent ≡ true = le-leb count sent enough in rw yes refl

pub zeros_sent : (h h' : Option (List ℕ)) (a a' : Ahead) (r : Result (Unit {0}) Fault) (sent count : ℕ) (bytes : List ℕ) → count ≤ sent → bytes ≡ replicate (count - 1) 0
    → Exchanges (wire h a) (wire h' a') r (ignored bytes ∷ []) → Exchanges (wire h a) (wire h' a') r (zeros_if sent count)
zeros_sent h h' a a' r sent count bytes enough is p =
    subst (Exchanges (wire h a) (wire h' a') r) (sym (some_by sent count enough)) (subst (λ xs. Exchanges (wire h a) (wire h' a') r (ignored xs ∷ [])) is p)

-- the values
pub all_count : length all_values ≡ 256
unfolding all_values
all_count = length-range_with_len 0 256

pub value_at : (i : ℕ) → i < 256 → get_or all_values i 0 ≡ i
unfolding all_values
value_at i within = get_or-range_with_len 0 256 i 0 within ∙ omega arith

pub values_more : (values : List ℕ) (i v : ℕ) → i < length values → length values ≡ 256 → v ≡ i → take i values ≡ take i all_values
    → take (i + 1) (set values i v) ≡ take (i + 1) all_values
values_more values i v within long is same =
    let far : i < length all_values = omega (arith, all_count) in
    take_more_set values i v within ∙ ap (λ xs. xs ++ v ∷ []) same ∙ ap (λ byte. take i all_values ++ byte ∷ []) (is ∙ sym (value_at i (omega arith)))
    ∙ sym (take_more all_values i 0 far)

pub values_all : (values : List ℕ) (i : ℕ) → 256 ≤ i → length values ≡ 256 → take i values ≡ take i all_values → values ≡ all_values
values_all values i all long same = sym (take_all i values (omega arith)) ∙ same ∙ take_all i all_values (omega (arith, all_count))

-- some of them in pieces
record AreSome (sent done : ℕ) (pieces : List (List ℕ)) : Type 0 where
  within : done ≤ 256
  whole : concat pieces ≡ take done all_values
  each : list_all (is_piece sent) pieces ≡ true
  full : done < 256 → length pieces * (sent - 1) ≡ done
  fewest : length pieces * (sent - 1) < 256 + (sent - 1)

none_yet : (sent : ℕ) → 1 < sent → AreSome sent 0 []
none_yet sent some = record { within = omega arith; whole = refl; each = refl; full = (λ (few : 0 < 256). omega arith); fewest = omega arith }

count_more : (pieces : List (List ℕ)) (piece : List ℕ) (room : ℕ) → length (pieces ++ piece ∷ []) * room ≡ length pieces * room + room
count_more pieces piece room = ap (λ n. n * room) (length-append pieces (piece ∷ []) ∙ add-one (length pieces)) ∙ suc-mul (length pieces) room

some_more : (sent done len : ℕ) (pieces : List (List ℕ)) (piece : List ℕ) → 1 < sent → done < 256 → len ≡ min (256 - done) (sent - 1)
    → piece ≡ take len (drop done all_values) → AreSome sent done pieces → AreSome sent (done + len) (pieces ++ piece ∷ [])
some_more sent done len pieces piece some few len_is is p =
    let long : length piece ≡ len = ap length is ∙ omega (arith, length-take len (drop done all_values), length-drop done all_values, all_count) in
    let first : nat_lt 0 (length piece) ≡ true = lt-ltb 0 (length piece) (omega arith) in
    let second : nat_lt (length piece) sent ≡ true = lt-ltb (length piece) sent (omega arith) in
    let one : list_all (is_piece sent) (piece ∷ []) ≡ true = rw (first, second) refl in
    let more = count_more pieces piece (sent - 1) in
    let full : length pieces * (sent - 1) ≡ done = p.full few in
    record {
      within = omega arith;
      whole = concat-append pieces (piece ∷ []) ∙ ap (λ xs. concat pieces ++ xs) (append-nil piece ∙ is) ∙ ap (λ xs. xs ++ take len (drop done all_values)) p.whole
          ∙ sym (take-add done len all_values);
      each = list_all-append (is_piece sent) pieces (piece ∷ []) ∙ (rw (p.each, one) refl);
      full = (λ (left : done + len < 256). omega (arith, more, full));
      fewest = omega (arith, more, full);
    }

-- and the others
record AndOthers (sent : ℕ) (pieces : List (List ℕ)) : Type 0 where
  others : List (List ℕ)
  are : AreSome sent 256 (pieces ++ others)

others_by : (fuel sent done : ℕ) (pieces : List (List ℕ)) (b : Bool) → nat_lt done 256 ≡ b → 1 < sent → 256 ≤ done + fuel → AreSome sent done pieces → AndOthers sent pieces
others_by fuel sent done pieces false is some all p =
    let end : done ≡ 256 = omega (arith, ltb-false done 256 is, p.within) in
    record { others = []; are = subst (AreSome sent 256) (sym (append-nil pieces)) (subst (λ n. AreSome sent n pieces) end p) }
others_by zero sent done pieces true is some all p = let few = ltb-true done 256 is in absurd (omega (arith, few))
others_by (suc fuel) sent done pieces true is some all p =
    let few = ltb-true done 256 is in
    let len = min (256 - done) (sent - 1) in
    let piece = take len (drop done all_values) in
    let next = done + len in
    let on : 256 ≤ next + fuel = omega (arith, few) in
    let later = others_by fuel sent next (pieces ++ piece ∷ []) (nat_lt next 256) refl some on (some_more sent done len pieces piece some few refl refl p) in
    record { others = piece ∷ later.others; are = subst (AreSome sent 256) (append_assoc pieces (piece ∷ []) later.others) later.are }

-- the pieces so far were sent
pub record AreSent (h h' : Option (List ℕ)) (a a' : Ahead) (sent done : ℕ) : Type 0 where
  pub pieces : List (List ℕ)
  pub some : 1 < sent
  are : AreSome sent done pieces
  pub did : HasExchanged (wire h a) (wire h' a') (values_test pieces)

pub none_sent : (h : Option (List ℕ)) (a : Ahead) (sent : ℕ) → 1 < sent → AreSent h h a a sent 0
none_sent h a sent some = record { pieces = []; some = some; are = none_yet sent some; did = does_none h a }

part_is : (bytes : List ℕ) (done len : ℕ) → slice_range bytes done (done + len) ≡ take len (drop done bytes)
part_is bytes done len = let long : done + len - done ≡ len = omega arith in ap (λ n. take n (drop done bytes)) long

pub sent_more : (h m h' : Option (List ℕ)) (a b a' : Ahead) (sent done len : ℕ) (values : List ℕ) → values ≡ all_values → done < 256 → len ≡ min (256 - done) (sent - 1)
    → AreSent h m a b sent done → HasExchanged (wire m b) (wire h' a') (ignored (slice_range values done (done + len)) ∷ []) → AreSent h h' a a' sent (done + len)
sent_more h m h' a b a' sent done len values is few len_is p q =
    let piece = slice_range values done (done + len) in
    let piece_is : piece ≡ take len (drop done all_values) = part_is values done len ∙ ap (λ xs. take len (drop done xs)) is in
    record {
      pieces = p.pieces ++ piece ∷ [];
      some = p.some;
      are = some_more sent done len p.pieces piece p.some few len_is piece_is p.are;
      did = subst (HasExchanged (wire h a) (wire h' a')) (sym (map-append ignored p.pieces (piece ∷ []))) (exchanged_all h m h' a b a' (values_test p.pieces) (ignored piece ∷ []) p.did q);
    }

-- all are
whole_by : (sent : ℕ) (pieces : List (List ℕ)) → 1 < sent → AreSome sent 256 pieces → ArePieces sent pieces
whole_by sent pieces some p =
    let two : nat_lt 1 sent ≡ true = lt-ltb 1 sent some in
    record { whole = p.whole ∙ take_all 256 all_values (omega (arith, all_count)) ∙ (rw two refl); each = p.each; fewest = p.fewest }

pub sent_all : (h h' : Option (List ℕ)) (a a' : Ahead) (sent done : ℕ) → 256 ≤ done → AreSent h h' a a' sent done → SendsValues (wire h a) (wire h' a') (Ok tt) sent
sent_all h h' a a' sent done all p =
    let end : done ≡ 256 = omega (arith, p.are.within) in
    (p.pieces, whole_by sent p.pieces p.some (subst (λ n. AreSome sent n p.pieces) end p.are), p.did)

-- one of them ended early
pub sent_not : (h m h' : Option (List ℕ)) (a b a' : Ahead) (sent done len : ℕ) (values : List ℕ) (why : Fault) → values ≡ all_values → done < 256 → len ≡ min (256 - done) (sent - 1)
    → AreSent h m a b sent done → Exchanges (wire m b) (wire h' a') (Err why) (ignored (slice_range values done (done + len)) ∷ []) → SendsValues (wire h a) (wire h' a') (Err why) sent
sent_not h m h' a b a' sent done len values why is few len_is p q =
    let piece = slice_range values done (done + len) in
    let piece_is : piece ≡ take len (drop done all_values) = part_is values done len ∙ ap (λ xs. take len (drop done xs)) is in
    let now = some_more sent done len p.pieces piece p.some few len_is piece_is p.are in
    let rest = others_by 256 sent (done + len) (p.pieces ++ piece ∷ []) (nat_lt (done + len) 256) refl p.some (omega arith) now in
    let front = does_then h m h' a b a' (Err why) (values_test p.pieces) (ignored piece ∷ []) p.did q in
    let whole = stops_before h h' a a' why (values_test p.pieces ++ ignored piece ∷ []) (values_test rest.others) front in
    let same : (values_test p.pieces ++ ignored piece ∷ []) ++ values_test rest.others ≡ values_test ((p.pieces ++ piece ∷ []) ++ rest.others) =
    ap (λ xs. xs ++ values_test rest.others) (sym (map-append ignored p.pieces (piece ∷ []))) ∙ sym (map-append ignored (p.pieces ++ piece ∷ []) rest.others) in
    ((p.pieces ++ piece ∷ []) ++ rest.others, whole_by sent ((p.pieces ++ piece ∷ []) ++ rest.others) p.some rest.are, subst (StopsIn (wire h a) (wire h' a') why) same whole)

-- where 05h alone has room
pub sent_none : (h : Option (List ℕ)) (a : Ahead) (sent : ℕ) → sent ≡ 1 → SendsValues (wire h a) (wire h a) (Ok tt) sent
sent_none h a sent is =
    subst (SendsValues (wire h a) (wire h a) (Ok tt)) (sym is) ([], record { whole = refl; each = refl; fewest = omega arith }, does_none h a)
