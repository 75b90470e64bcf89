-- Status reads, some of them sent ahead of the first one's answer.
use Rattle.std.proofs.Common.{◌≡◌, inl, inr, ℕ, zero, suc, ◌+◌, ◌-◌, ◌*◌, ◌<◌, ◌≤◌, ◌%◌, ◌==◌, Bool, true, false, List, [], ◌∷◌, ◌++◌, length, get_or, Option, Some, None, Result, Ok, Err, refl, sym, ◌∙◌, ap, subst, append-nil, append_assoc, arith, length-append}
use Rattle.std.specs.Prelude.{flat_map, max, min}
use Rattle.std.specs.Io.KnownBytes.{Appends}
use Rattle.std.proofs.lemmas.Grind.{flat_map-append}
use Rattle.std.proofs.lemmas.List.Folds.{list_all-append}
use Rattle.nor_base.specs.Device.{Ahead, Gives, Cuts}
use Rattle.nor_base.proofs.DeviceLaws.{Gives-append}
use Rattle.nor_base.specs.Wire.{wire}
use Rattle.nor_serprog.specs.declared.fault.Fault.{Fault}
use Rattle.nor_serprog.specs.declared.fault.Fault.TheVariants as fault
use Rattle.nor_serprog.specs.declared.fault.Reason.{Reason}
use Rattle.nor_serprog.specs.declared.fault.Reason.TheVariants as reason
use Rattle.nor_serprog.specs.declared.limits.Limits.{Limits}
use Rattle.nor_serprog.specs.Protocol.{answer, head}
use Rattle.nor_serprog.specs.Exchange.{Answers, Asks}
use Rattle.nor_serprog.specs.Follow.{HasRead, HasWaited, MayGoAtOnce, StaysBusy, StopsWaiting, TakesStatuses, Waits, are_busy, are_idle, most_ahead, most_bytes, most_reads, status_request, status_requests, told}
use Rattle.nor_serprog.proofs.ExchangeLemmas.{single}
use Rattle.nor_serprog.proofs.FollowLemmas.{nothing_talked, talked_more}

-- what went out in two parts
pub out_split : (h h' : Option (List ℕ)) (xs ys : List ℕ) → Appends h h' (xs ++ ys) → (m : Option (List ℕ)) × Appends h m xs × Appends m h' ys
out_split None h' xs ys p = (None, tt, tt)
out_split (Some a) None xs ys p = absurd p
out_split (Some a) (Some c) xs ys p = (Some (a ++ xs), refl, p ∙ sym (append_assoc a xs ys))

-- the requests of reads
reads_are : (statuses : List ℕ) → flat_map (λ (s : ℕ). status_request) statuses ≡ status_requests (length statuses)
reads_are [] = refl
reads_are (s ∷ more) = ap (λ xs. status_request ++ xs) (reads_are more)

pub requests_both : (n m : ℕ) → status_requests (n + m) ≡ status_requests n ++ status_requests m
requests_both zero m = ap status_requests (omega arith)
requests_both (suc n) m =
    let longer : suc n + m ≡ suc (n + m) = omega arith in
    ap status_requests longer ∙ ap (λ xs. status_request ++ xs) (requests_both n m) ∙ sym (append_assoc status_request (status_requests n) (status_requests m))

-- one read more was added
pub read_added : (now old before : List ℕ) (reads : ℕ) → now ≡ old ++ (0x13 ∷ 1 ∷ 0 ∷ 0 ∷ 1 ∷ 0 ∷ 0 ∷ 5 ∷ []) → old ≡ before ++ status_requests reads
    → now ≡ before ++ status_requests (reads + 1)
unfolding head
read_added now old before reads added is =
    let one : status_requests (reads + 1) ≡ status_requests reads ++ status_request = requests_both reads 1 ∙ ap (λ xs. status_requests reads ++ xs) (append-nil status_request) in
    added ∙ ap (λ xs. xs ++ status_request) is ∙ append_assoc before (status_requests reads) status_request ∙ ap (λ xs. before ++ xs) (sym one)

has_read : {h h' : Option (List ℕ)} {a a' : Ahead} (statuses : List ℕ) (n : ℕ) → length statuses ≡ n → Appends h h' (status_requests n) → Gives a (told statuses) a'
    → HasRead (wire h a) (wire h' a') statuses
has_read {h} {h'} statuses n long out back =
    record { out = subst (Appends h h') (sym (reads_are statuses ∙ ap status_requests long)) out; back = back }

pub read_both : {h m h' : Option (List ℕ)} {a b a' : Ahead} (xs ys : List ℕ) → HasRead (wire h a) (wire m b) xs → HasRead (wire m b) (wire h' a') ys → HasRead (wire h a) (wire h' a') (xs ++ ys)
read_both {h} {m} {h'} {a} {b} {a'} xs ys p q =
    let both = talked_more _ _ (flat_map (λ (s : ℕ). status_request) ys) (told ys) p q in record {
      out = subst (Appends h h') (sym (flat_map-append (λ (s : ℕ). status_request) xs ys)) both.out;
      back = subst (λ bytes. Gives a bytes a') (sym (flat_map-append (λ s. answer (s ∷ [])) xs ys)) both.back;
    }

-- one more answer
told_more : (a b c : Ahead) (xs got : List ℕ) → length got ≡ 1 → Gives a (told xs) b → Gives b (answer got) c → Gives a (told (xs ++ get_or got 0 0 ∷ [])) c
told_more a b c xs got one p q =
    let one_told : answer got ≡ told (get_or got 0 0 ∷ []) = ap answer (single got one) ∙ sym (append-nil (answer (get_or got 0 0 ∷ []))) in
    subst (λ bytes. Gives a bytes c) (sym (flat_map-append (λ s. answer (s ∷ [])) xs (get_or got 0 0 ∷ [])))
    (Gives-append a b c (told xs) (told (get_or got 0 0 ∷ [])) p (subst (λ bytes. Gives b bytes c) one_told q))

-- what was taken so far
record SoFar (a b : Ahead) (n : ℕ) : Type 0 where
  busy : List ℕ
  idle : List ℕ
  all : length (busy ++ idle) ≡ n
  each : are_busy busy ≡ true
  then_idle : are_idle idle ≡ true
  gives : Gives a (told (busy ++ idle)) b

so_far : (a b : Ahead) (was : Bool) (n : ℕ) → TakesStatuses a b (Ok was) n → SoFar a b n
so_far a b true n p = record { busy = p.busy; idle = p.idle; all = p.all; each = p.each; then_idle = p.last; gives = p.gives }
so_far a b false n p = record {
  busy = p.busy;
  idle = [];
  all = ap length (append-nil p.busy) ∙ p.all;
  each = p.each;
  then_idle = refl;
  gives = subst (λ xs. Gives a (told xs) b) (sym (append-nil p.busy)) p.gives;
}

-- a status says the one or the other
odd_by : (n : ℕ) → (n == 0) ≡ false → n < 2 → n ≡ 1
odd_by zero not small = cc
odd_by (suc n) not small = omega arith

odd_one : (status : ℕ) → (status % 2 == 0) ≡ false → status % 2 ≡ 1
odd_one status h = odd_by (status % 2) h (omega arith)

is_odd : (status : ℕ) → (status % 2 == 0) ≡ false → are_busy (status ∷ []) ≡ true
is_odd status h = let odd = odd_one status h in rw odd refl

is_even : (status : ℕ) → (status % 2 == 0) ≡ true → are_idle (status ∷ []) ≡ true
is_even status h = rw h refl

one_more : (xs : List ℕ) (x n : ℕ) → length xs ≡ n → length (xs ++ x ∷ []) ≡ n + 1
one_more xs x n long = omega (arith, long, length-append xs (x ∷ []))

pub next_status : (a b c : Ahead) (was is : Bool) (n : ℕ) (got : List ℕ) → length got ≡ 1 → (get_or got 0 0 % 2 == 0) ≡ is → (was ≡ true → is ≡ true)
    → TakesStatuses a b (Ok was) n → Gives b (answer got) c → TakesStatuses a c (Ok is) (n + 1)
next_status a b c false false n got one says stays p q = record {
  busy = p.busy ++ get_or got 0 0 ∷ [];
  all = one_more p.busy (get_or got 0 0) n p.all;
  each = list_all-append (λ s. s % 2 == 1) p.busy (get_or got 0 0 ∷ []) ∙ (rw (p.each, is_odd (get_or got 0 0) says) refl);
  gives = told_more a b c p.busy got one p.gives q;
}
next_status a b c false true n got one says stays p q = record {
  busy = p.busy;
  idle = get_or got 0 0 ∷ [];
  some = omega arith;
  all = one_more p.busy (get_or got 0 0) n p.all;
  each = p.each;
  last = is_even (get_or got 0 0) says;
  gives = told_more a b c p.busy got one p.gives q;
}
next_status a b c true true n got one says stays p q =
    let longer : (p.busy ++ p.idle) ++ get_or got 0 0 ∷ [] ≡ p.busy ++ (p.idle ++ get_or got 0 0 ∷ []) = append_assoc p.busy p.idle (get_or got 0 0 ∷ []) in record {
      busy = p.busy;
      idle = p.idle ++ get_or got 0 0 ∷ [];
      some = omega (arith, p.some, length-append p.idle (get_or got 0 0 ∷ []));
      all = ap length (sym longer) ∙ one_more (p.busy ++ p.idle) (get_or got 0 0) n p.all;
      each = p.each;
      last = list_all-append (λ s. s % 2 == 0) p.idle (get_or got 0 0 ∷ []) ∙ (rw (p.last, is_even (get_or got 0 0) says) refl);
      gives = subst (λ xs. Gives a (told xs) c) longer (told_more a b c (p.busy ++ p.idle) got one p.gives q);
    }
next_status a b c true false n got one says stays p q = let wrong : false ≡ true = stays refl in cc

pub status_fails : (a b c : Ahead) (was : Bool) (n total : ℕ) (got : List ℕ) (why : Fault) → length got ≡ 1 → n < total
    → TakesStatuses a b (Ok was) n → Answers b c (Err why) got → TakesStatuses a c (Err (reason.Exchange why)) total
status_fails a b c was n total got why one within p q =
    let s = so_far a b was n p in record {
      busy = s.busy;
      idle = s.idle;
      within = omega (arith, s.all, within);
      each = s.each;
      then_idle = s.then_idle;
      between = b;
      gives = s.gives;
      next = (got, one, q);
    }

-- some status reads, of which each said busy
pub record HasWaitedFor (h h' : Option (List ℕ)) (a a' : Ahead) (turns : ℕ) : Type 0 where
  busy : List ℕ
  all : length busy ≡ turns
  each : are_busy busy ≡ true
  read : HasRead (wire h a) (wire h' a') busy

pub waits_none : (h : Option (List ℕ)) (a : Ahead) → HasWaitedFor h h a a 0
waits_none h a = record { busy = []; all = refl; each = refl; read = nothing_talked h a }

-- reads that went out together: the last says idle, or each says busy
pub reads_idle : (h h' : Option (List ℕ)) (a a' : Ahead) (n turns : ℕ) → n ≤ turns → Appends h h' (status_requests n) → TakesStatuses a a' (Ok true) n
    → HasWaited (wire h a) (wire h' a') turns
reads_idle h h' a a' n turns within out p = record {
  busy = p.busy;
  idle = p.idle;
  some = p.some;
  within = omega (arith, p.all, within);
  each = p.each;
  last = p.last;
  read = has_read (p.busy ++ p.idle) n p.all out p.gives;
}

pub reads_busy : (h h' : Option (List ℕ)) (a a' : Ahead) (n : ℕ) → Appends h h' (status_requests n) → TakesStatuses a a' (Ok false) n → HasWaitedFor h h' a a' n
reads_busy h h' a a' n out p = record { busy = p.busy; all = p.all; each = p.each; read = has_read p.busy n p.all out p.gives }

-- two parts of some reads
requests_split : (h h' : Option (List ℕ)) (n k : ℕ) → k < n → Appends h h' (status_requests n)
    → (m : Option (List ℕ)) × Appends h m (status_requests k) × Appends m h' (status_requests (n - k))
requests_split h h' n k within out =
    let whole : n ≡ k + (n - k) = omega arith in
    out_split h h' (status_requests k) (status_requests (n - k)) (subst (Appends h h') (ap status_requests whole ∙ requests_both k (n - k)) out)

asks_out : (h h' : Option (List ℕ)) (a a' : Ahead) (why : Fault) (command got : List ℕ) → Appends h h' command → Answers a a' (Err why) got
    → Asks (wire h a) (wire h' a') (Err why) command (Answers a a' (Err why) got)
asks_out h h' a a' fault.Read command got out p = (out, p)
asks_out h h' a a' fault.Silent command got out p = (out, p)
asks_out h h' a a' fault.Nak command got out p = (out, p)
asks_out h h' a a' fault.Differs command got out p = (out, p)
asks_out h h' a a' fault.Write command got out p = absurd p

-- eight bytes each
requests_long : (n : ℕ) → length (status_requests n) ≡ 8 * n
unfolding head
requests_long zero = refl
requests_long (suc n) = omega (arith, requests_long n, length-append status_request (status_requests n))

-- up to four that fit may go out at once, and one always may
pub may_go : (limits : Limits) (n ahead : ℕ) (old new : List ℕ) → n ≤ most_reads → ahead ≡ max limits.ahead 8 → old ≡ [] → new ≡ old ++ status_requests n
    → (length old ≤ min ahead most_bytes → length new ≤ min ahead most_bytes) → MayGoAtOnce limits n
may_go limits n ahead old new few is none added fits =
    let bytes : length new ≡ 8 * n = omega (arith, ap length added, length-append old (status_requests n), ap length none, requests_long n) in
    let all = fits (omega (arith, ap length none)) in record { few = few; fit = λ h. omega (arith, is, all, bytes, h, requests_long n) }

-- those that fit after other bytes
pub may_go_after : (limits : Limits) (n : ℕ) (xs : List ℕ) → n ≤ most_reads → length (xs ++ status_requests n) ≤ most_ahead limits → MayGoAtOnce limits n
may_go_after limits n xs few fit = record { few = few; fit = λ h. omega (arith, fit, length-append xs (status_requests n)) }

-- fewer
may_go_fewer : (limits : Limits) (n k : ℕ) → MayGoAtOnce limits n → MayGoAtOnce limits (n - k)
may_go_fewer limits n k most = record {
  few = omega (arith, most.few);
  fit = λ h. let all = most.fit (omega (arith, h)) in omega (arith, all, requests_long n, requests_long (n - k));
}

pub reads_stop : (h h' : Option (List ℕ)) (a a' : Ahead) (limits : Limits) (n turns : ℕ) (why : Reason) → n ≤ turns → MayGoAtOnce limits n
    → Appends h h' (status_requests n) → TakesStatuses a a' (Err why) n → Waits (wire h a) (wire h' a') (Err why) limits turns
reads_stop h h' a a' limits n turns reason.Busy within most out p =
    let k = length (p.busy ++ p.idle) in
    let parts = requests_split h h' n k p.within out in inr (record {
      busy = p.busy;
      idle = p.idle;
      again = p.next.0;
      more = n - k;
      some = omega (arith, p.within);
      at_once = may_go_fewer limits n k most;
      within = omega (arith, within, p.within);
      each = p.each;
      then_idle = p.then_idle;
      odd = p.next.1;
      held = parts.0;
      ahead = p.between;
      read = has_read (p.busy ++ p.idle) k refl parts.1 p.gives;
      sent = parts.2;
      back = p.next.2;
    })
reads_stop h h' a a' limits n turns (reason.Exchange why) within most out p =
    let k = length (p.busy ++ p.idle) in
    let parts = requests_split h h' n k p.within out in record {
      busy = p.busy;
      idle = p.idle;
      more = n - k;
      some = omega (arith, p.within);
      at_once = may_go_fewer limits n k most;
      within = omega (arith, within, p.within);
      each = p.each;
      then_idle = p.then_idle;
      held = parts.0;
      ahead = p.between;
      got = p.next.0;
      one = p.next.1;
      read = has_read (p.busy ++ p.idle) k refl parts.1 p.gives;
      stop = asks_out parts.0 h' p.between a' why (status_requests (n - k)) p.next.0 parts.2 p.next.2;
    }
reads_stop h h' a a' limits n turns (reason.Differs place byte) within most out p = absurd p
reads_stop h h' a a' limits n turns reason.Carried within most out p = absurd p

-- the writer failed in them
some_reads : (n k : ℕ) → k < length (status_requests n) → 0 < n
some_reads zero k h = absurd (omega (arith, h))
some_reads (suc n) k h = omega arith

pub reads_cut : (h h' : Option (List ℕ)) (a : Ahead) (limits : Limits) (n turns : ℕ) → n ≤ turns → MayGoAtOnce limits n → Cuts h h' (status_requests n)
    → StopsWaiting (wire h a) (wire h' a) limits turns fault.Write
reads_cut h h' a limits n turns within most cut = record {
  busy = [];
  idle = [];
  more = n;
  some = some_reads n cut.0 cut.1;
  at_once = most;
  within = omega (arith, within);
  each = refl;
  then_idle = refl;
  held = h;
  ahead = a;
  got = 0 ∷ [];
  one = refl;
  read = nothing_talked h a;
  stop = (cut, refl);
}

-- a wait after reads that said busy
longer : (xs ys zs : List ℕ) (n : ℕ) → length xs ≡ n → length ((xs ++ ys) ++ zs) ≡ n + length (ys ++ zs)
longer xs ys zs n long = omega (arith, long, length-append (xs ++ ys) zs, length-append xs ys, length-append ys zs)

both_busy : (xs ys : List ℕ) → are_busy xs ≡ true → are_busy ys ≡ true → are_busy (xs ++ ys) ≡ true
both_busy xs ys p q = list_all-append (λ s. s % 2 == 1) xs ys ∙ (rw (p, q) refl)

read_on : {h m h' : Option (List ℕ)} {a b a' : Ahead} (xs ys zs : List ℕ) → HasRead (wire h a) (wire m b) xs → HasRead (wire m b) (wire h' a') (ys ++ zs) → HasRead (wire h a) (wire h' a') ((xs ++ ys) ++ zs)
read_on {h} {m} {h'} {a} {b} {a'} xs ys zs p q = subst (HasRead (wire h a) (wire h' a')) (sym (append_assoc xs ys zs)) (read_both xs (ys ++ zs) p q)

pub waits_after : (h m h' : Option (List ℕ)) (a b a' : Ahead) (limits : Limits) (n left turns : ℕ) (r : Result (Unit {0}) Reason) → n + left ≡ turns
    → HasWaitedFor h m a b n → Waits (wire m b) (wire h' a') r limits left → Waits (wire h a) (wire h' a') r limits turns
waits_after h m h' a b a' limits n left turns (Ok u) whole p q = record {
  busy = p.busy ++ q.busy;
  idle = q.idle;
  some = q.some;
  within = omega (arith, q.within, whole, longer p.busy q.busy q.idle n p.all);
  each = both_busy p.busy q.busy p.each q.each;
  last = q.last;
  read = read_on p.busy q.busy q.idle p.read q.read;
}
waits_after h m h' a b a' limits n left turns (Err reason.Busy) whole p (inl q) = inl (record {
  busy = p.busy ++ q.busy;
  all = omega (arith, p.all, q.all, whole, length-append p.busy q.busy);
  each = both_busy p.busy q.busy p.each q.each;
  read = read_both p.busy q.busy p.read q.read;
})
waits_after h m h' a b a' limits n left turns (Err reason.Busy) whole p (inr q) = inr (record {
  busy = p.busy ++ q.busy;
  idle = q.idle;
  again = q.again;
  more = q.more;
  some = q.some;
  at_once = q.at_once;
  within = omega (arith, q.within, whole, longer p.busy q.busy q.idle n p.all);
  each = both_busy p.busy q.busy p.each q.each;
  then_idle = q.then_idle;
  odd = q.odd;
  held = q.held;
  ahead = q.ahead;
  read = read_on p.busy q.busy q.idle p.read q.read;
  sent = q.sent;
  back = q.back;
})
waits_after h m h' a b a' limits n left turns (Err (reason.Exchange why)) whole p q = record {
  busy = p.busy ++ q.busy;
  idle = q.idle;
  more = q.more;
  some = q.some;
  at_once = q.at_once;
  within = omega (arith, q.within, whole, longer p.busy q.busy q.idle n p.all);
  each = both_busy p.busy q.busy p.each q.each;
  then_idle = q.then_idle;
  held = q.held;
  ahead = q.ahead;
  got = q.got;
  one = q.one;
  read = read_on p.busy q.busy q.idle p.read q.read;
  stop = q.stop;
}
waits_after h m h' a b a' limits n left turns (Err (reason.Differs place byte)) whole p q = absurd q
waits_after h m h' a b a' limits n left turns (Err reason.Carried) whole p q = absurd q

pub waits_never : (h h' : Option (List ℕ)) (a a' : Ahead) (turn turns : ℕ) → turn ≡ turns → HasWaitedFor h h' a a' turn → StaysBusy (wire h a) (wire h' a') turns
waits_never h h' a a' turn turns all p = record { busy = p.busy; all = p.all ∙ all; each = p.each; read = p.read }

pub waits_more : (h m h' : Option (List ℕ)) (a b a' : Ahead) (n k : ℕ) → HasWaitedFor h m a b n → HasWaitedFor m h' b a' k → HasWaitedFor h h' a a' (n + k)
waits_more h m h' a b a' n k p q = record {
  busy = p.busy ++ q.busy;
  all = omega (arith, p.all, q.all, length-append p.busy q.busy);
  each = both_busy p.busy q.busy p.each q.each;
  read = read_both p.busy q.busy p.read q.read;
}
