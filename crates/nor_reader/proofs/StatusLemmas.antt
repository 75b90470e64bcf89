-- Status reads, turn by turn.
use Rattle.std.proofs.Common.{◌≡◌, ℕ, zero, suc, Bool, ◌+◌, ◌<◌, ◌%◌, ◌==◌, ◌||◌, true, false, List, [], ◌∷◌, ◌++◌, length, get_or, Option, refl, sym, ◌∙◌, ap, subst, append-nil, arith, length-append}
use Rattle.std.specs.Prelude.{flat_map}
use Rattle.std.specs.Io.KnownBytes.{Appends}
use Rattle.std.proofs.lemmas.Grind.{flat_map-append}
use Rattle.std.proofs.lemmas.List.Folds.{list_all-append}
use Rattle.nor_base.specs.Device.{Ahead, Unknown, Finite, Endless, Gives}
use Rattle.nor_base.proofs.DeviceLaws.{Appends-append, Appends-none, Gives-append}
use Rattle.nor_base.specs.Wire.{wire}
use Rattle.nor_serprog.specs.declared.fault.Fault.{Fault}
use Rattle.nor_serprog.specs.Protocol.{request, answer}
use Rattle.nor_serprog.specs.Exchange.{Talked}
use Rattle.nor_serprog.specs.Follow.{HasRead, are_busy, StaysBusy, status_request}
use Rattle.nor_reader.specs.Status.{StopsAtFirst, ends_wait, HasReadRegister, StopsRegister, HasSettled}

-- nothing was talked yet; one more exchange
pub nothing_talked : (held : Option (List ℕ)) (ahead : Ahead) → Talked (wire held ahead) (wire held ahead) [] []
nothing_talked held Unknown = record { out = Appends-none held; back = tt }
nothing_talked held (Finite bytes) = record { out = Appends-none held; back = refl }
nothing_talked held (Endless byte_at) = record { out = Appends-none held; back = ((λ k fits. absurd (omega arith)), (λ k. ap byte_at (omega arith))) }

pub talked_more : {h m h' : Option (List ℕ)} {a b a' : Ahead} (put given more answered : List ℕ) → Talked (wire h a) (wire m b) put given → Talked (wire m b) (wire h' a') more answered
    → Talked (wire h a) (wire h' a') (put ++ more) (given ++ answered)
talked_more {h} {m} {h'} {a} {b} {a'} put given more answered p q =
    record { out = Appends-append h m h' put more p.out q.out; back = Gives-append a b a' given answered p.back q.back }

-- one more of some things that were talked about one after the other
pub talked_of : {X : Type 0} {h m h' : Option (List ℕ)} {a b a' : Ahead} (asked given : X → List ℕ) (xs : List X) (x : X) → Talked (wire h a) (wire m b) (flat_map asked xs) (flat_map given xs)
    → Talked (wire m b) (wire h' a') (asked x) (given x) → Talked (wire h a) (wire h' a') (flat_map asked (xs ++ x ∷ [])) (flat_map given (xs ++ x ∷ []))
talked_of {X} {h} {m} {h'} {a} {b} {a'} asked given xs x p q =
    let puts : flat_map asked (xs ++ x ∷ []) ≡ flat_map asked xs ++ asked x =
    flat_map-append asked xs (x ∷ []) ∙ ap (λ bytes. flat_map asked xs ++ bytes) (append-nil (asked x)) in
    let gives : flat_map given (xs ++ x ∷ []) ≡ flat_map given xs ++ given x =
    flat_map-append given xs (x ∷ []) ∙ ap (λ bytes. flat_map given xs ++ bytes) (append-nil (given x)) in
    let whole = talked_more _ _ (asked x) (given x) p q in
    record { out = subst (Appends h h') (sym puts) whole.out; back = subst (λ bytes. Gives a bytes a') (sym gives) whole.back }

pub single : (got : List ℕ) → length got ≡ 1 → got ≡ get_or got 0 0 ∷ []
single [] one = absurd (omega (arith, one))
single (byte ∷ []) one = refl
single (byte ∷ other ∷ more) one = absurd (omega (arith, one))

-- a register's read, by the buffer of one byte that it fills
pub register_read : {h h' : Option (List ℕ)} {a a' : Ahead} (opcode n : ℕ) (got : List ℕ) → n ≡ 1 → length got ≡ 1 → Appends h h' (request (opcode ∷ []) n)
    → Gives a (answer got) a' → HasReadRegister (wire h a) (wire h' a') opcode (get_or got 0 0)
register_read {h} {h'} {a} {a'} opcode n got n_is one out back = record {
  out = subst (λ k. Appends h h' (request (opcode ∷ []) k)) n_is out;
  back = subst (λ (bytes : List ℕ). Gives a (answer bytes) a') (single got one) back;
}

-- some status reads, of which each said busy
pub record HasWaitedFor (h h' : Option (List ℕ)) (a a' : Ahead) (turns : ℕ) : Type 0 where
  busy : List ℕ
  all : length busy ≡ turns
  each : are_busy busy ≡ true
  read : HasRead (wire h a) (wire h' a') busy

pub waits_none : (h : Option (List ℕ)) (a : Ahead) → HasWaitedFor h h a a 0
waits_none h a = record { busy = []; all = refl; each = refl; read = nothing_talked h a }

one_read : {h m h' : Option (List ℕ)} {a b a' : Ahead} (statuses : List ℕ) (status : ℕ) → HasRead (wire h a) (wire m b) statuses → HasReadRegister (wire m b) (wire h' a') 0x05 status
    → HasRead (wire h a) (wire h' a') (statuses ++ status ∷ [])
one_read statuses status p q = talked_of (λ (s : ℕ). status_request) (λ (s : ℕ). answer (s ∷ [])) statuses status p q

-- a status that doesn't end the wait says busy
first_not : (p q : Bool) → (p || q) ≡ false → p ≡ false
first_not true q h = cc
first_not false q h = refl

odd_by : (n : ℕ) → n < 2 → (n == 0) ≡ false → n ≡ 1
odd_by zero small h = cc
odd_by (suc n) small h = omega (arith, small)

says_busy : (status : ℕ) → ends_wait status ≡ false → status % 2 ≡ 1
says_busy status waits = odd_by (status % 2) (omega arith) (first_not (status % 2 == 0) (status == 0xFF) waits)

-- one more said busy
pub waits_on : {h m h' : Option (List ℕ)} {a b a' : Ahead} (turn status : ℕ) → HasWaitedFor h m a b turn → HasReadRegister (wire m b) (wire h' a') 0x05 status
    → ends_wait status ≡ false → HasWaitedFor h h' a a' (turn + 1)
waits_on turn status p q waits =
    let odd : status % 2 ≡ 1 = says_busy status waits in
    let last : are_busy (status ∷ []) ≡ true = rw odd refl in
    record {
      busy = p.busy ++ status ∷ [];
      all = omega (arith, p.all, length-append p.busy (status ∷ []));
      each = list_all-append (λ s. s % 2 == 1) p.busy (status ∷ []) ∙ (rw (p.each, last) refl);
      read = one_read p.busy status p.read q;
    }

-- it said idle
pub settles_at : {h m h' : Option (List ℕ)} {a b a' : Ahead} (turn turns status : ℕ) → turn < turns → HasWaitedFor h m a b turn → HasReadRegister (wire m b) (wire h' a') 0x05 status
    → ends_wait status ≡ true → HasSettled (wire h a) (wire h' a') status turns
settles_at turn turns status within p q idle =
    record { busy = p.busy; within = omega (arith, p.all); each = p.each; last = idle; read = one_read p.busy status p.read q }

pub waits_fail : {h m h' : Option (List ℕ)} {a b a' : Ahead} (turn turns : ℕ) (why : Fault) → turn < turns → HasWaitedFor h m a b turn → StopsRegister (wire m b) (wire h' a') 0x05 why
    → StopsAtFirst (wire h a) (wire h' a') turns why
waits_fail {h} {m} {h'} {a} {b} {a'} turn turns why within p q =
    record { busy = p.busy; within = omega (arith, p.all); each = p.each; held = m; ahead = b; read = p.read; stop = q }

pub waits_never : {h h' : Option (List ℕ)} {a a' : Ahead} (turn turns : ℕ) → turn ≡ turns → HasWaitedFor h h' a a' turn → StaysBusy (wire h a) (wire h' a') turns
waits_never turn turns all p = record { busy = p.busy; all = p.all ∙ all; each = p.each; read = p.read }
