-- Answers in two parts: ACK, and what follows it.
use Rattle.std.proofs.Common.{◌≡◌, ◌≢◌, ℕ, suc, ◌+◌, ◌-◌, ◌<◌, ◌≤◌, ◌==◌, ◌&&◌, Bool, true, false, List, [], ◌∷◌, ◌++◌, length, get_or, take, drop, Option, Result, Ok, Err, refl, sym, ◌∙◌, ap, subst, append_assoc, arith, eqb-true, length-append, length-drop, length-take}
use Rattle.std.specs.Prelude.{IfOk, IfErr, if◌then◌else◌}
use Rattle.std.specs.List.{slice_range}
use Rattle.std.specs.Io.KnownBytes.{Appends}
use Rattle.std.proofs.lemmas.Bool.{and_parts}
use Rattle.std.proofs.Math.Seq.{take-add, take-append-add}
use Rattle.std.proofs.Math.ListN.{get_or-append}
use Rattle.std.proofs.lemmas.List.{take-append-le, get_or-append-add}
use Rattle.nor_base.specs.Device.{Ahead, Unknown, Finite, Endless, Gives}
use Rattle.nor_base.proofs.DeviceLaws.{Gives-append}
use Rattle.nor_base.specs.Wire.{wire}
use Rattle.nor_serprog.specs.declared.fault.Fault.{Fault}
use Rattle.nor_serprog.specs.declared.fault.Fault.TheVariants as fault
use Rattle.nor_serprog.specs.declared.fault.Reason.{Reason}
use Rattle.nor_serprog.specs.declared.fault.Reason.TheVariants as reason
use Rattle.nor_serprog.specs.Protocol.{ACK, NAK, answer}
use Rattle.nor_serprog.specs.Exchange.{Fills, Misses, Meets, other_byte, IsOther, Compares, TakesAsMany, GivesOther, Answers, AnswersKnown, Asks, Knows}

-- ACK, and then the bytes of a buffer
pub told_then : (a b c : Ahead) (r : Result (Unit {0}) Fault) (got : List ℕ) → Gives a (ACK ∷ []) b → Fills b c r got → Answers a c r got
told_then a b c (Ok u) got p q = Gives-append a b c (ACK ∷ []) got p q
told_then a b c (Err fault.Silent) got p q = (suc q.0, omega (arith, q.1), Gives-append a b c (ACK ∷ []) (take q.0 got) p q.2, q.3)
told_then a b c (Err fault.Read) got p q = (suc q.0, omega (arith, q.1), Gives-append a b c (ACK ∷ []) (take q.0 got) p q.2)
told_then a b c (Err fault.Nak) got p q = absurd q
told_then a b c (Err fault.Differs) got p q = absurd q
told_then a b c (Err fault.Write) got p q = absurd q

-- a command that was put whole, and its answer
pub asks_told : (held held' : Option (List ℕ)) (a b : Ahead) (r : Result (Unit {0}) Fault) (command got : List ℕ) → Appends held held' command
    → Answers a b r got → Asks (wire held a) (wire held' b) r command (Answers a b r got)
asks_told held held' a b (Ok u) command got put p = (put, p)
asks_told held held' a b (Err fault.Silent) command got put p = (put, p)
asks_told held held' a b (Err fault.Read) command got put p = (put, p)
asks_told held held' a b (Err fault.Nak) command got put p = (put, p)
asks_told held held' a b (Err fault.Differs) command got put p = (put, p)
asks_told held held' a b (Err fault.Write) command got put p = absurd p

-- the first other byte stays that
other_stays : (gs ws piece more : List ℕ) (n byte : ℕ) → length gs ≡ length ws → IsOther gs ws n byte → IsOther (gs ++ piece) (ws ++ more) n byte
other_stays gs ws piece more n byte long p =
    let inside : n < length gs = omega (arith, p.within) in
    record {
      within = omega (arith, p.within, length-append ws more);
      alike = take-append-le n gs piece (omega arith) ∙ p.alike ∙ sym (take-append-le n ws more (omega (arith, p.within)));
      byte_is = p.byte_is ∙ sym (get_or-append gs piece 0 n inside);
      other = (λ (same : byte ≡ get_or (ws ++ more) n 0). p.other (same ∙ get_or-append ws more 0 n p.within));
    }

-- it stands in the second part
other_later : (gs ws piece more : List ℕ) (n byte : ℕ) → gs ≡ ws → IsOther piece more n byte → IsOther (gs ++ piece) (ws ++ more) (length gs + n) byte
other_later gs ws piece more n byte same p =
    subst (λ xs. IsOther (gs ++ piece) (xs ++ more) (length gs + n) byte) same (record {
      within = omega (arith, p.within, length-append gs more);
      alike = take-append-add gs piece n ∙ ap (λ xs. gs ++ xs) p.alike ∙ sym (take-append-add gs more n);
      byte_is = p.byte_is ∙ sym (get_or-append-add gs piece n 0);
      other = (λ (is : byte ≡ get_or (gs ++ more) (length gs + n) 0). p.other (is ∙ get_or-append-add gs more n 0));
    })

pub found_more : (gs ws piece more : List ℕ) (start : ℕ) (found r : Result (Unit {0}) Reason) → length gs ≡ start → length gs ≡ length ws → Compares gs ws 0 found
    → IfErr found (λ e. r ≡ found) → IfOk found (λ u. Compares piece more start r) → Compares (gs ++ piece) (ws ++ more) 0 r
found_more gs ws piece more start (Ok u) (Ok v) far long p before first = cc
found_more gs ws piece more start (Ok u) (Err (reason.Differs place byte)) far long p before first =
    (length gs + first.0, omega (arith, first.1, far), other_later gs ws piece more first.0 byte p first.2)
found_more gs ws piece more start (Ok u) (Err (reason.Exchange why)) far long p before first = absurd first
found_more gs ws piece more start (Ok u) (Err reason.Busy) far long p before first = absurd first
found_more gs ws piece more start (Ok u) (Err reason.Carried) far long p before first = absurd first
found_more gs ws piece more start (Err (reason.Differs place byte)) r far long p before first =
    subst (Compares (gs ++ piece) (ws ++ more) 0) (sym before) (p.0, p.1, other_stays gs ws piece more p.0 byte long p.2)
found_more gs ws piece more start (Err (reason.Exchange why)) r far long p before first = absurd p
found_more gs ws piece more start (Err reason.Busy) r far long p before first = absurd p
found_more gs ws piece more start (Err reason.Carried) r far long p before first = absurd p

-- as many bytes as were wanted came
all_taken : (a b : Ahead) (got front want : List ℕ) (r : Result (Unit {0}) Reason) → front ≡ want → length got ≡ length want → Gives a got b → Compares got front 0 r
    → TakesAsMany a b r want
all_taken a b got front want (Ok u) is long gives p = (got, long, p ∙ is, gives)
all_taken a b got front want (Err (reason.Differs place byte)) is long gives p =
    (got, long, subst (λ xs. Compares got xs 0 (Err (reason.Differs place byte))) is p, gives)
all_taken a b got front want (Err (reason.Exchange why)) is long gives p = absurd p
all_taken a b got front want (Err reason.Busy) is long gives p = absurd p
all_taken a b got front want (Err reason.Carried) is long gives p = absurd p

-- fewer came
part_front : (gs piece rest : List ℕ) (n : ℕ) → n < length piece → take (length gs + n) ((gs ++ piece) ++ rest) ≡ gs ++ take n piece
part_front gs piece rest n few =
    ap (take (length gs + n)) (append_assoc gs piece rest) ∙ take-append-add gs (piece ++ rest) n ∙ ap (λ xs. gs ++ xs) (take-append-le n piece rest (omega arith))

short_fill : (a b c : Ahead) (gs piece rest : List ℕ) (why : Fault) → Gives a gs b → Fills b c (Err why) piece → Fills a c (Err why) ((gs ++ piece) ++ rest)
short_fill a b c gs piece rest fault.Silent p q = (
  length gs + q.0,
  omega (arith, q.1, length-append gs piece, length-append (gs ++ piece) rest),
  subst (λ bytes. Gives a bytes c) (sym (part_front gs piece rest q.0 q.1)) (Gives-append a b c gs (take q.0 piece) p q.2),
  q.3,
)
short_fill a b c gs piece rest fault.Read p q = (
  length gs + q.0,
  omega (arith, q.1, length-append gs piece, length-append (gs ++ piece) rest),
  subst (λ bytes. Gives a bytes c) (sym (part_front gs piece rest q.0 q.1)) (Gives-append a b c gs (take q.0 piece) p q.2),
)
short_fill a b c gs piece rest fault.Nak p q = absurd q
short_fill a b c gs piece rest fault.Differs p q = absurd q
short_fill a b c gs piece rest fault.Write p q = absurd q

fewer_taken : (a b c : Ahead) (gs piece want : List ℕ) (why : Fault) → length gs + length piece ≤ length want → Gives a gs b → Fills b c (Err why) piece
    → TakesAsMany a c (Err (reason.Exchange why)) want
fewer_taken a b c gs piece want why fits p q =
    let rest = drop (length gs + length piece) want in (
      (gs ++ piece) ++ rest,
      omega (arith, length-append gs piece, length-append (gs ++ piece) rest, length-drop (length gs + length piece) want),
      short_fill a b c gs piece rest why p q,
    )

-- nothing was given yet
pub gives_nothing : (a : Ahead) → Gives a [] a
gives_nothing Unknown = tt
gives_nothing (Finite bytes) = refl
gives_nothing (Endless byte_at) = ((λ k fits. absurd (omega arith)), (λ k. ap byte_at (omega arith)))

-- so many bytes came, and were compared with those that were wanted
pub record HasCompared (a b : Ahead) (want : List ℕ) (done : ℕ) (found : Result (Unit {0}) Reason) : Type 0 where
  pub got : List ℕ
  pub within : done ≤ length want
  pub long : length got ≡ done
  pub says : Compares got (take done want) 0 found
  pub gives : Gives a got b

-- one more piece
pub compares_more : (a b c : Ahead) (want piece part : List ℕ) (done room : ℕ) (found r : Result (Unit {0}) Reason) → HasCompared a b want done found
    → done + room ≤ length want → length piece ≡ room → part ≡ slice_range want done (done + room) → Gives b piece c → IfErr found (λ e. r ≡ found)
    → IfOk found (λ u. Compares piece part done r) → HasCompared a c want (done + room) r
compares_more a b c want piece part done room found r p fits long is gives before first =
    let count : done + room - done ≡ room = omega arith in
    let part_is : part ≡ take room (drop done want) = is ∙ ap (λ n. take n (drop done want)) count in
    let front : take done want ++ part ≡ take (done + room) want = ap (λ xs. take done want ++ xs) part_is ∙ sym (take-add done room want) in
    let same_long : length p.got ≡ length (take done want) = omega (arith, p.long, p.within, length-take done want) in
    record {
      got = p.got ++ piece;
      within = fits;
      long = omega (arith, p.long, long, length-append p.got piece);
      says = subst (λ xs. Compares (p.got ++ piece) xs 0 r) front (found_more p.got (take done want) piece part done found r p.long same_long p.says before first);
      gives = Gives-append a b c p.got piece p.gives gives;
    }

pub takes_fewer : (a b c : Ahead) (want piece : List ℕ) (done : ℕ) (found : Result (Unit {0}) Reason) (why : Fault) → HasCompared a b want done found
    → done + length piece ≤ length want → Fills b c (Err why) piece → TakesAsMany a c (Err (reason.Exchange why)) want
takes_fewer a b c want piece done found why p fits q =
    fewer_taken a b c p.got piece want why (omega (arith, p.long)) p.gives q

-- ACK, and then bytes that are compared
ack_fill : (a b c : Ahead) (got : List ℕ) (why : Fault) → Gives a (ACK ∷ []) b → Fills b c (Err why) got → Answers a c (Err why) got
ack_fill a b c got fault.Silent p q = (suc q.0, omega (arith, q.1), Gives-append a b c (ACK ∷ []) (take q.0 got) p q.2, q.3)
ack_fill a b c got fault.Read p q = (suc q.0, omega (arith, q.1), Gives-append a b c (ACK ∷ []) (take q.0 got) p q.2)
ack_fill a b c got fault.Nak p q = absurd q
ack_fill a b c got fault.Differs p q = absurd q
ack_fill a b c got fault.Write p q = absurd q

pub known_then : (a b c : Ahead) (r : Result (Unit {0}) Reason) (want : List ℕ) → Gives a (ACK ∷ []) b → TakesAsMany b c r want → AnswersKnown a c r want
known_then a b c (Ok u) want p q = Gives-append a b c (ACK ∷ []) want p (subst (λ xs. Gives b xs c) q.2 q.3)
known_then a b c (Err (reason.Differs place byte)) want p q =
    let at : q.2.0 ≡ place = omega (arith, q.2.1) in
    let o = q.2.2 in
    subst (λ n. GivesOther a c want n byte) at (record {
      got = q.0;
      as_many = q.1;
      within = o.within;
      alike = o.alike;
      byte_is = o.byte_is;
      other = o.other;
      gives = Gives-append a b c (ACK ∷ []) q.0 p q.3;
    })
known_then a b c (Err (reason.Exchange why)) want p q = (q.0, q.1, ack_fill a b c q.0 why p q.2)
known_then a b c (Err reason.Busy) want p q = absurd q.2
known_then a b c (Err reason.Carried) want p q = absurd q.2

-- the first byte isn't ACK, or doesn't come
none_then : (a b : Ahead) (why : Fault) (want : List ℕ) → Answers a b (Err why) [] → Answers a b (Err why) want
none_then a b fault.Silent want p =
    let none : p.0 ≡ 0 = omega (arith, p.1) in (0, omega arith, subst (λ n. Gives a (take n (answer [])) b) none p.2, p.3)
none_then a b fault.Read want p =
    let none : p.0 ≡ 0 = omega (arith, p.1) in (0, omega arith, subst (λ n. Gives a (take n (answer [])) b) none p.2)
none_then a b fault.Differs want p = p
none_then a b fault.Nak want p = p
none_then a b fault.Write want p = absurd p

pub known_not : (a b : Ahead) (why : Fault) (want : List ℕ) → Answers a b (Err why) [] → AnswersKnown a b (Err (reason.Exchange why)) want
known_not a b why want p = (want, refl, none_then a b why want p)

-- a command that was put whole, and its answer; or that wasn't
pub knows_then : (held held' : Option (List ℕ)) (a b : Ahead) (r : Result (Unit {0}) Reason) (command want : List ℕ) → Appends held held' command
    → AnswersKnown a b r want → Knows (wire held a) (wire held' b) r command want
knows_then held held' a b (Ok u) command want put p = (put, p)
knows_then held held' a b (Err (reason.Differs place byte)) command want put p = (put, p)
knows_then held held' a b (Err (reason.Exchange fault.Silent)) command want put p = (p.0, p.1, (put, p.2))
knows_then held held' a b (Err (reason.Exchange fault.Read)) command want put p = (p.0, p.1, (put, p.2))
knows_then held held' a b (Err (reason.Exchange fault.Nak)) command want put p = (p.0, p.1, (put, p.2))
knows_then held held' a b (Err (reason.Exchange fault.Differs)) command want put p = (p.0, p.1, (put, p.2))
knows_then held held' a b (Err (reason.Exchange fault.Write)) command want put p = absurd p.2
knows_then held held' a b (Err reason.Busy) command want put p = absurd p
knows_then held held' a b (Err reason.Carried) command want put p = absurd p

pub single : (got : List ℕ) → length got ≡ 1 → got ≡ get_or got 0 0 ∷ []
single [] one = absurd (omega (arith, one))
single (byte ∷ []) one = refl
single (byte ∷ other ∷ more) one = absurd (omega (arith, one))

not_both : (i byte : ℕ) → ((i == 0) && (byte == NAK)) ≡ false → i ≡ 0 → byte ≡ NAK → ⊥
not_both i byte is first nak =
    let yes : ((i == 0) && (byte == NAK)) ≡ true = rw (first, nak) refl in cc

another_by : (a c : Ahead) (want : List ℕ) (i byte : ℕ) (t : Bool) → ((i == 0) && (byte == NAK)) ≡ t → i < length want → byte ≢ get_or want i 0
    → Gives a (take i want ++ byte ∷ []) c → Misses a c (if t then fault.Nak else fault.Differs) want
another_by a c want i byte true is within other p =
    let both = and_parts (i == 0) (byte == NAK) is in
    let first : i ≡ 0 = eqb-true i 0 both.0 in
    let nak : byte ≡ NAK = eqb-true byte NAK both.1 in
    let alone : take i want ++ byte ∷ [] ≡ NAK ∷ [] = ap (λ n. take n want ++ byte ∷ []) first ∙ ap (λ b. b ∷ []) nak in (
      (λ (same : NAK ≡ get_or want 0 0). other (nak ∙ same ∙ ap (λ n. get_or want n 0) (sym first))),
      subst (λ bytes. Gives a bytes c) alone p,
    )
another_by a c want i byte false is within other p =
    (i, byte, within, other, (λ (first : i ≡ 0) (nak : byte ≡ NAK). not_both i byte is first nak), p)

pub another_met : (a b c : Ahead) (want got : List ℕ) (i : ℕ) (why : Fault) → i < length want → length got ≡ 1 → get_or got 0 0 ≢ get_or want i 0
    → why ≡ other_byte i (get_or got 0 0) → Gives a (take i want) b → Gives b got c → Meets a c (Err why) want
another_met a b c want got i why within one other is p q =
    let byte = get_or got 0 0 in
    let came : Gives a (take i want ++ byte ∷ []) c = subst (λ bytes. Gives a (take i want ++ bytes) c) (single got one) (Gives-append a b c (take i want) got p q) in
    subst (λ f. Misses a c f want) (sym is) (another_by a c want i byte ((i == 0) && (byte == NAK)) refl within other came)
