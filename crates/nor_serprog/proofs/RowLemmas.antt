-- Rows: what went out ahead, and what was taken of it.
use Rattle.std.proofs.Common.{◌≡◌, inl, inr, ℕ, zero, suc, ◌+◌, ◌<◌, ◌≤◌, ◌⊎◌, ◌^◌, List, [], ◌∷◌, ◌++◌, length, take, drop, get_or, Option, Ok, Err, refl, sym, ◌∙◌, ap, subst, append-nil, append_assoc, arith, length-append, length-take}
use Rattle.std.specs.Prelude.{All, max}
use Rattle.std.specs.List.{list_all}
use Rattle.std.specs.Io.KnownBytes.{Appends}
use Rattle.std.proofs.lemmas.Bool.{and_parts}
use Rattle.std.proofs.lemmas.List.{take-append-drop}
use Rattle.std.proofs.lemmas.List.Elements.{All-nil, All-cons}
use Rattle.nor_base.specs.declared.step.Step.{Step}
use Rattle.nor_base.specs.declared.step.Step.TheVariants.{Send, Poll, Verify}
use Rattle.nor_base.specs.Device.{Ahead, Gives, Cuts}
use Rattle.nor_base.specs.Run.{poll_clocks}
use Rattle.nor_base.specs.Step.{expected, verifies}
use Rattle.nor_base.proofs.DeviceLaws.{Appends-none}
use Rattle.nor_base.proofs.ListLaws.{one_taken, first_left}
use Rattle.nor_base.specs.Wire.{wire}
use Rattle.nor_serprog.specs.declared.fault.Fault.TheVariants as fault
use Rattle.nor_serprog.specs.declared.fault.Reason.{Reason}
use Rattle.nor_serprog.specs.declared.fault.Reason.TheVariants as reason
use Rattle.nor_serprog.specs.declared.halt.Halt.{Halt}
use Rattle.nor_serprog.specs.declared.limits.Limits.{Limits}
use Rattle.nor_serprog.specs.Protocol.{request, answer}
use Rattle.nor_serprog.specs.Exchange.{AnswersKnown}
use Rattle.nor_serprog.specs.Follow.{Waits, status_requests, most_ahead, most_reads}
use Rattle.nor_serprog.specs.Done.{IsDoable, HasDone, HasStopped, HasDoneAll}
use Rattle.nor_serprog.specs.Row.{IsSent, AreSent, IsAsked, AreAsked, IsForm, FitAhead, IsRow, AreAhead, StopsWithin, CutsRow, HasHalted, DoneInParts, HaltInSteps, TakesAnswers, StopsAnswers}
use Rattle.nor_serprog.proofs.ExchangeLemmas.{knows_then}
use Rattle.nor_serprog.proofs.FollowLemmas.{operates_as}
use Rattle.nor_serprog.proofs.WaitLemmas.{out_split}

-- requests in two parts
asked_both : (limits : Limits) (reads : ℕ) (xs ys : List Step) (p q : List ℕ) → AreAsked limits reads xs p → AreAsked limits reads ys q
    → AreAsked limits reads (xs ++ ys) (p ++ q)
asked_both limits reads [] ys p q none more = subst (AreAsked limits reads ys) (sym (ap (λ (l : List ℕ). l ++ q) none)) more
asked_both limits reads (x ∷ xs) ys p q (first, rest, whole, one, others) more =
    (first, rest ++ q, ap (λ (l : List ℕ). l ++ q) whole ∙ append_assoc first rest q, one, asked_both limits reads xs ys rest q others more)

record AskedParts (limits : Limits) (reads : ℕ) (xs ys : List Step) (put : List ℕ) : Type 0 where
  first : List ℕ
  second : List ℕ
  whole : put ≡ first ++ second
  front : AreAsked limits reads xs first

asked_split : (limits : Limits) (reads : ℕ) (xs ys : List Step) (put : List ℕ) → AreAsked limits reads (xs ++ ys) put → AskedParts limits reads xs ys put
asked_split limits reads [] ys put all = record { first = []; second = put; whole = refl; front = refl }
asked_split limits reads (x ∷ xs) ys put (first, rest, whole, one, others) =
    let more = asked_split limits reads xs ys rest others in record {
      first = first ++ more.first;
      second = more.second;
      whole = whole ∙ ap (λ (l : List ℕ). first ++ l) more.whole ∙ sym (append_assoc first more.first more.second);
      front = (first, more.first, refl, one, more.front);
    }

asked_snoc : (limits : Limits) (reads : ℕ) (xs : List Step) (x : Step) (p q : List ℕ) → AreAsked limits reads xs p → IsAsked limits reads x q
    → AreAsked limits reads (xs ++ x ∷ []) (p ++ q)
asked_snoc limits reads xs x p q all one = asked_both limits reads xs (x ∷ []) p q all (q, [], sym (append-nil q), one, refl)

pub asked_next : (limits : Limits) (reads : ℕ) (steps : List Step) (at : ℕ) (x : Step) (p q : List ℕ) → at < length steps → x ≡ get_or steps at x
    → AreAsked limits reads (take at steps) p → IsAsked limits reads x q → AreAsked limits reads (take (at + 1) steps) (p ++ q)
asked_next limits reads steps at x p q within is all one =
    subst (λ (l : List Step). AreAsked limits reads l (p ++ q)) (sym (one_taken steps at x within is)) (asked_snoc limits reads (take at steps) x p q all one)

-- fewer of some steps that fit
fit_front : (limits : Limits) (xs ys : List Step) → FitAhead limits (xs ++ ys) → FitAhead limits xs
fit_front limits xs ys fit =
    let parts = asked_split limits 1 xs ys fit.put fit.asked in
    let long : length fit.put ≡ length parts.first + length parts.second = ap length parts.whole ∙ length-append parts.first parts.second in
    record { put = parts.first; asked = parts.front; fits = omega (arith, fit.fits, long) }

front_of_front : (xs : List Step) (k n : ℕ) → k ≤ n → take k (take n xs) ≡ take k xs
front_of_front [] zero zero few = refl
front_of_front [] zero (suc n) few = refl
front_of_front [] (suc k) zero few = refl
front_of_front [] (suc k) (suc n) few = refl
front_of_front (x ∷ xs) zero zero few = refl
front_of_front (x ∷ xs) zero (suc n) few = refl
front_of_front (x ∷ xs) (suc k) zero few = absurd (omega (arith, few))
front_of_front (x ∷ xs) (suc k) (suc n) few = ap (λ (l : List Step). x ∷ l) (front_of_front xs k n (omega (arith, few)))

first_alone : (limits : Limits) (steps : List Step) → 0 < length steps → IsRow limits (take 1 steps)
first_alone limits [] some = absurd (omega (arith, some))
first_alone limits (x ∷ xs) some = record { some = omega arith; form = inl (x, refl); fit = inl refl }

pub row_of : (limits : Limits) (steps : List Step) (n f r : ℕ) → 0 < length steps → n ≤ length steps → FitAhead limits (take n steps)
    → f ≤ length (take n steps) → (0 < f → IsForm (take f (take n steps))) → r ≡ max f 1 → IsRow limits (take r steps)
row_of limits steps n zero r some within fit few form is = subst (λ k. IsRow limits (take k steps)) (sym is) (first_alone limits steps some)
row_of limits steps n (suc f) r some within fit few form is =
    let count : r ≡ suc f = is ∙ (omega arith) in
    let near : suc f ≤ n = omega (arith, few, length-take n steps, within) in
    let same = front_of_front steps (suc f) n near in
    let parts : take n steps ≡ take (suc f) (take n steps) ++ drop (suc f) (take n steps) = sym (take-append-drop (suc f) (take n steps)) in
    let fits = fit_front limits (take (suc f) (take n steps)) (drop (suc f) (take n steps)) (subst (FitAhead limits) parts fit) in
    subst (λ k. IsRow limits (take k steps)) (sym count)
    (subst (IsRow limits) same (record {
      some = omega (arith, few, length-take (suc f) (take n steps));
      form = form (omega arith);
      fit = inr fits;
    }))

record SentParts (limits : Limits) (xs ys : List Step) (put : List ℕ) : Type 0 where
  first : List ℕ
  second : List ℕ
  whole : put ≡ first ++ second
  front : AreSent limits xs first
  back : AreSent limits ys second

sent_split : (limits : Limits) (xs ys : List Step) (put : List ℕ) → AreSent limits (xs ++ ys) put → SentParts limits xs ys put
sent_split limits [] ys put all = record { first = []; second = put; whole = refl; front = refl; back = all }
sent_split limits (x ∷ xs) ys put (first, rest, whole, one, others) =
    let more = sent_split limits xs ys rest others in record {
      first = first ++ more.first;
      second = more.second;
      whole = whole ∙ ap (λ (l : List ℕ). first ++ l) more.whole ∙ sym (append_assoc first more.first more.second);
      front = (first, more.first, refl, one, more.front);
      back = more.back;
    }

sent_is_asked : (limits : Limits) (reads : ℕ) (x : Step) (put : List ℕ) → IsSent limits x put → IsAsked limits reads x put
sent_is_asked limits reads (Send symbols) put one = one
sent_is_asked limits reads (Poll symbols) put one = absurd one
sent_is_asked limits reads (Verify symbols expect) put one = one

sent_asked : (limits : Limits) (reads : ℕ) (xs : List Step) (put : List ℕ) → AreSent limits xs put → AreAsked limits reads xs put
sent_asked limits reads [] put none = none
sent_asked limits reads (x ∷ xs) put (first, rest, whole, one, others) =
    (first, rest, whole, sent_is_asked limits reads x first one, sent_asked limits reads xs rest others)

-- one more
sent_snoc : (limits : Limits) (xs : List Step) (x : Step) (p q : List ℕ) → AreSent limits xs p → IsSent limits x q → AreSent limits (xs ++ x ∷ []) (p ++ q)
sent_snoc limits [] x p q none one =
    let alone : AreSent limits (x ∷ []) q = (q, [], sym (append-nil q), one, refl) in
    subst (AreSent limits (x ∷ [])) (sym (ap (λ (l : List ℕ). l ++ q) none)) alone
sent_snoc limits (y ∷ ys) x p q (first, rest, whole, its, others) one =
    (first, rest ++ q, ap (λ (l : List ℕ). l ++ q) whole ∙ append_assoc first rest q, its, sent_snoc limits ys x rest q others one)

pub sent_next : (limits : Limits) (steps : List Step) (at : ℕ) (x : Step) (before after put : List ℕ) → at < length steps → x ≡ get_or steps at x
    → AreSent limits (take at steps) before → after ≡ before ++ put → IsSent limits x put → AreSent limits (take (at + 1) steps) after
sent_next limits steps at x before after put within is all more one =
    subst (λ (l : List Step). AreSent limits l after) (sym (one_taken steps at x within is))
    (subst (AreSent limits (take at steps ++ x ∷ [])) (sym more) (sent_snoc limits (take at steps) x before put all one))

-- what is expected is short
pub sent_few : (limits : Limits) (xs : List Step) (put : List ℕ) → AreSent limits xs put → All (λ (x : Step). length (expected x) < 2 ^ 24) xs
sent_few limits [] put none = All-nil (λ (x : Step). length (expected x) < 2 ^ 24)
sent_few limits (x ∷ xs) put (first, rest, whole, one, others) =
    All-cons (λ (y : Step). length (expected y) < 2 ^ 24) x xs (by x first one) (sent_few limits xs rest others)
  where
    by : (x : Step) (first : List ℕ) → IsSent limits x first → length (expected x) < 2 ^ 24
    by (Send symbols) first one = omega arith
    by (Poll symbols) first one = absurd one
    by (Verify symbols expect) first (sent, op, is) = omega (arith, op.few_asked, limits.few_asked)

-- answers, one after the other
taken_snoc : (a b c : Ahead) (xs : List Step) (x : Step) → TakesAnswers a b xs → Gives b (answer (expected x)) c → TakesAnswers a c (xs ++ x ∷ [])
taken_snoc a b c [] x none gives = (c, subst (λ (e : Ahead). Gives e (answer (expected x)) c) none gives, refl)
taken_snoc a b c (y ∷ ys) x (between, first, more) gives = (between, first, taken_snoc between b c ys x more gives)

pub taken_next : (a b c : Ahead) (steps : List Step) (at : ℕ) (x : Step) → at < length steps → x ≡ get_or steps at x → TakesAnswers a b (take at steps)
    → Gives b (answer (expected x)) c → TakesAnswers a c (take (at + 1) steps)
taken_next a b c steps at x within is all gives =
    subst (λ (l : List Step). TakesAnswers a c l) (sym (one_taken steps at x within is)) (taken_snoc a b c (take at steps) x all gives)

-- the steps before one, that one, and those after it
pub cut_at : (steps : List Step) (at : ℕ) (x : Step) → at < length steps → x ≡ get_or steps at x → steps ≡ take at steps ++ (x ∷ drop (at + 1) steps)
cut_at steps at x within is = sym (ap (λ (l : List Step). take at steps ++ l) (sym (first_left steps at x is within)) ∙ take-append-drop at steps)

front_long : (steps : List Step) (at : ℕ) → at < length steps → at ≡ length (take at steps)
front_long steps at within = omega (arith, length-take at steps)

pub answers_stop : (a b c : Ahead) (steps : List Step) (at : ℕ) (x : Step) (halt : Halt) → at < length steps → x ≡ get_or steps at x → halt.step ≡ at
    → TakesAnswers a b (take at steps) → AnswersKnown b c (Err halt.why) (expected x) → StopsAnswers a c steps halt
answers_stop a b c steps at x halt within is number taken stop = record {
  done = take at steps;
  at = x;
  rest = drop (at + 1) steps;
  those = cut_at steps at x within is;
  number = number ∙ front_long steps at within;
  between = b;
  taken = taken;
  stop = stop;
}

-- a step by its request and its answer
says_done : (h h' : Option (List ℕ)) (a a' : Ahead) (limits : Limits) (turns : ℕ) (x : Step) (put : List ℕ) → IsSent limits x put → Appends h h' put
    → Gives a (answer (expected x)) a' → HasDone (wire h a) (wire h' a') limits turns x
says_done h h' a a' limits turns (Send symbols) put (sent, op, is) out back =
    operates_as h h' a a' limits symbols sent [] (Ok tt) op (subst (Appends h h') is out, back)
says_done h h' a a' limits turns (Poll symbols) put one out back = absurd one
says_done h h' a a' limits turns (Verify symbols expect) put (sent, op, is) out back =
    operates_as h h' a a' limits symbols sent expect (Ok tt) op (subst (Appends h h') is out, back)

says_stopped : (h h' : Option (List ℕ)) (a a' : Ahead) (limits : Limits) (turns : ℕ) (why : Reason) (x : Step) (put : List ℕ) → IsSent limits x put
    → Appends h h' put → AnswersKnown a a' (Err why) (expected x) → HasStopped (wire h a) (wire h' a') limits turns why x
says_stopped h h' a a' limits turns why (Send symbols) put (sent, op, is) out known =
    operates_as h h' a a' limits symbols sent [] (Err why) op (knows_then h h' a a' (Err why) (request sent 0) [] (subst (Appends h h') is out) known)
says_stopped h h' a a' limits turns why (Poll symbols) put one out known = absurd one
says_stopped h h' a a' limits turns why (Verify symbols expect) put (sent, op, is) out known =
    operates_as h h' a a' limits symbols sent expect (Err why) op
    (knows_then h h' a a' (Err why) (request sent (length expect)) expect (subst (Appends h h') is out) known)

-- steps by their requests and their answers, and what went out beyond them
pub record Upto (h h' : Option (List ℕ)) (a b : Ahead) (limits : Limits) (turns : ℕ) (xs : List Step) (rest : List ℕ) : Type 0 where
  pub held : Option (List ℕ)
  pub done : HasDoneAll (wire h a) (wire held b) limits turns xs
  pub out : Appends held h' rest

pub done_upto : (h h' : Option (List ℕ)) (a b : Ahead) (limits : Limits) (turns : ℕ) (xs : List Step) (put rest : List ℕ) → AreSent limits xs put
    → Appends h h' (put ++ rest) → TakesAnswers a b xs → Upto h h' a b limits turns xs rest
done_upto h h' a b limits turns [] put rest none out taken =
    record { held = h; done = (refl, taken); out = subst (Appends h h') (ap (λ (l : List ℕ). l ++ rest) none) out }
done_upto h h' a b limits turns (x ∷ xs) put rest (first, more, whole, one, others) out (between, gives, taken) =
    let all : put ++ rest ≡ first ++ (more ++ rest) = ap (λ (l : List ℕ). l ++ rest) whole ∙ append_assoc first more rest in
    let parts = out_split h h' first (more ++ rest) (subst (Appends h h') all out) in
    let later = done_upto parts.0 h' between b limits turns xs more rest others parts.2 taken in record {
      held = later.held;
      done = (parts.0, between, says_done h parts.0 a between limits turns x first one parts.1 gives, later.done);
      out = later.out;
    }

-- all that went out
pub front_done : (h h' : Option (List ℕ)) (a b : Ahead) (limits : Limits) (turns : ℕ) (xs : List Step) (put : List ℕ) → 0 < length xs → AreSent limits xs put
    → Appends h h' put → TakesAnswers a b xs → HasDoneAll (wire h a) (wire h' b) limits turns xs
front_done h h' a b limits turns [] put some sent out taken = absurd (omega (arith, some))
front_done h h' a b limits turns (x ∷ []) put some (first, more, whole, one, none) out (between, gives, same) =
    let all : put ≡ first = whole ∙ ap (λ (l : List ℕ). first ++ l) none ∙ append-nil first in
    (h', between, says_done h h' a between limits turns x first one (subst (Appends h h') all out) gives, (refl, same))
front_done h h' a b limits turns (x ∷ (y ∷ ys)) put some (first, more, whole, one, others) out (between, gives, taken) =
    let parts = out_split h h' first more (subst (Appends h h') whole out) in (
      parts.0,
      between,
      says_done h parts.0 a between limits turns x first one parts.1 gives,
      front_done parts.0 h' between b limits turns (y ∷ ys) more (omega arith) others parts.2 taken,
    )

-- one step more
done_snoc : (h i j : Option (List ℕ)) (a b c : Ahead) (limits : Limits) (turns : ℕ) (xs : List Step) (x : Step)
    → HasDoneAll (wire h a) (wire i b) limits turns xs → HasDone (wire i b) (wire j c) limits turns x → HasDoneAll (wire h a) (wire j c) limits turns (xs ++ x ∷ [])
done_snoc h i j a b c limits turns [] x (held, ahead) one =
    let its = subst (λ (k : Option (List ℕ)). HasDone (wire k a) (wire j c) limits turns x) held (subst (λ (e : Ahead). HasDone (wire i e) (wire j c) limits turns x) ahead one) in
    (j, c, its, (refl, refl))
done_snoc h i j a b c limits turns (y ∷ ys) x (k, e, did, more) one = (k, e, did, done_snoc k i j e b c limits turns ys x more one)

pub done_next : (h i j : Option (List ℕ)) (a b c : Ahead) (limits : Limits) (turns : ℕ) (steps : List Step) (at : ℕ) (x : Step) → at < length steps
    → x ≡ get_or steps at x → HasDoneAll (wire h a) (wire i b) limits turns (take at steps) → HasDone (wire i b) (wire j c) limits turns x
    → HasDoneAll (wire h a) (wire j c) limits turns (take (at + 1) steps)
done_next h i j a b c limits turns steps at x within is all one =
    subst (λ (l : List Step). HasDoneAll (wire h a) (wire j c) limits turns l) (sym (one_taken steps at x within is)) (done_snoc h i j a b c limits turns (take at steps) x all one)

pub done_in_parts : DoneInParts
done_in_parts h i j a b c limits turns [] ys (held, ahead) more =
    subst (λ (k : Option (List ℕ)). HasDoneAll (wire k a) (wire j c) limits turns ys) held (subst (λ (e : Ahead). HasDoneAll (wire i e) (wire j c) limits turns ys) ahead more)
done_in_parts h i j a b c limits turns (x ∷ xs) ys (k, e, did, rest) more = (k, e, did, done_in_parts k i j e b c limits turns xs ys rest more)

-- steps with a poll at the end
pub polled : (h i j : Option (List ℕ)) (a b c : Ahead) (limits : Limits) (turns : ℕ) (row front : List Step) (wait : List ℕ) → row ≡ front ++ Poll wait ∷ []
    → wait ≡ poll_clocks → HasDoneAll (wire h a) (wire i b) limits turns front → Waits (wire i b) (wire j c) (Ok tt) limits turns → HasDoneAll (wire h a) (wire j c) limits turns row
polled h i j a b c limits turns row front wait whole is all waits =
    subst (λ (l : List Step). HasDoneAll (wire h a) (wire j c) limits turns l) (sym whole) (done_snoc h i j a b c limits turns front (Poll wait) all (is, waits))

-- what is left of a row is a row
next_form : (x y : Step) (ys : List Step) → IsForm (x ∷ (y ∷ ys)) → IsForm (y ∷ ys)
next_form x y ys (inl (z, same)) = let none : y ∷ ys ≡ [] = cc in cc
next_form x y ys (inr (inl (change, wait, same))) = inl (y, let none : ys ≡ [] = cc in ap (λ (l : List Step). y ∷ l) none)
next_form x y ys (inr (inr (inl (change, wait, same)))) = inr (inl (change, wait, let rest : y ∷ ys ≡ Send change ∷ (Poll wait ∷ []) = cc in rest))
next_form x y ys (inr (inr (inr all))) = inr (inr (inr ((and_parts (verifies x) (list_all verifies (y ∷ ys)) all).1)))

next_row : (limits : Limits) (x y : Step) (ys : List Step) → IsRow limits (x ∷ (y ∷ ys)) → IsRow limits (y ∷ ys)
next_row limits x y ys row = record { some = omega arith; form = next_form x y ys row.form; fit = by row.fit }
  where
    by : (length (x ∷ (y ∷ ys)) ≡ 1) ⊎ FitAhead limits (x ∷ (y ∷ ys)) → (length (y ∷ ys) ≡ 1) ⊎ FitAhead limits (y ∷ ys)
    by (inl one) = absurd (omega (arith, one))
    by (inr fit) =
        let first = fit.asked.0 in
        let rest = fit.asked.1 in
        let whole = fit.asked.2 in
        let long : length fit.put ≡ length first + length rest = ap length whole ∙ length-append first rest in
        inr (record { put = rest; asked = fit.asked.4; fits = omega (arith, fit.fits, long) })

pub tail_row : (limits : Limits) (xs : List Step) (y : Step) (ys : List Step) → IsRow limits (xs ++ (y ∷ ys)) → IsRow limits (y ∷ ys)
tail_row limits [] y ys row = row
tail_row limits (x ∷ []) y ys row = next_row limits x y ys row
tail_row limits (x ∷ (z ∷ zs)) y ys row = tail_row limits (z ∷ zs) y ys (next_row limits x z (zs ++ (y ∷ ys)) row)

pub single_row : (limits : Limits) (x : Step) → IsRow limits (x ∷ [])
single_row limits x = record { some = omega arith; form = inl (x, refl); fit = inl refl }

-- nothing is ahead
none_ahead : (limits : Limits) (turns : ℕ) → AreAhead limits turns [] []
none_ahead limits turns = record { reads = 0; few = omega arith; within = omega arith; asked = refl; fits = omega arith }

-- the steps after the front: a poll, or none
pub record IsTail (limits : Limits) (turns : ℕ) (row front : List Step) (old new : List ℕ) (reads : ℕ) : Type 0 where
  pub polls : List Step
  pub whole : row ≡ front ++ polls
  pub few : reads ≤ most_reads
  pub within : reads ≤ turns
  pub asked : AreAsked limits reads polls (status_requests reads)
  pub put : new ≡ old ++ status_requests reads
  pub fits : length (old ++ status_requests reads) ≤ most_ahead limits

middle : (xs ys : List Step) (x : Step) → get_or (xs ++ (x ∷ ys)) (length xs) x ≡ x
middle [] ys x = refl
middle (y ∷ xs) ys x = middle xs ys x

-- the poll that is the last
pub the_poll : (row front : List Step) → (row ≡ front) ⊎ ((wait : List ℕ) × (row ≡ front ++ Poll wait ∷ [])) → length front < length row → All IsDoable row
    → (wait : List ℕ) × (row ≡ front ++ Poll wait ∷ []) × (wait ≡ poll_clocks)
the_poll row front (inl same) fewer form = absurd (omega (arith, fewer, ap length same))
the_poll row front (inr (wait, whole)) fewer form =
    let at = middle front [] (Poll wait) in
    let its : IsDoable (get_or (front ++ Poll wait ∷ []) (length front) (Poll wait)) =
    subst (λ (l : List Step). IsDoable (get_or l (length front) (Poll wait))) whole (form (length front) (Poll wait) fewer) in
    (wait, whole, subst IsDoable at its)

no_poll : (row front : List Step) → (row ≡ front) ⊎ ((wait : List ℕ) × (row ≡ front ++ Poll wait ∷ [])) → (length front < length row → ⊥) → row ≡ front
no_poll row front (inl same) none = same
no_poll row front (inr (wait, whole)) none =
    absurd (none (omega (arith, ap length whole, length-append front (Poll wait ∷ []))))

pub tail_some : (limits : Limits) (turns reads : ℕ) (row front : List Step) (old new : List ℕ) → (row ≡ front) ⊎ ((wait : List ℕ) × (row ≡ front ++ Poll wait ∷ []))
    → length front < length row → All IsDoable row → reads ≤ most_reads → reads ≤ turns → new ≡ old ++ status_requests reads
    → (length old ≤ most_ahead limits → length new ≤ most_ahead limits) → length old ≤ most_ahead limits → IsTail limits turns row front old new reads
tail_some limits turns reads row front old new parts fewer form few within put fits fit =
    let p = the_poll row front parts fewer form in record {
      polls = Poll p.0 ∷ [];
      whole = p.1;
      few = few;
      within = within;
      asked = (status_requests reads, [], sym (append-nil (status_requests reads)), (p.2, refl), refl);
      put = put;
      fits = subst (λ (l : List ℕ). length l ≤ most_ahead limits) put (fits fit);
    }

pub tail_none : (limits : Limits) (turns : ℕ) (row front : List Step) (old : List ℕ) → (row ≡ front) ⊎ ((wait : List ℕ) × (row ≡ front ++ Poll wait ∷ []))
    → (length front < length row → ⊥) → length old ≤ most_ahead limits → IsTail limits turns row front old old 0
tail_none limits turns row front old parts none fit = record {
  polls = [];
  whole = no_poll row front parts none ∙ sym (append-nil front);
  few = omega arith;
  within = omega arith;
  asked = refl;
  put = sym (append-nil old);
  fits = subst (λ (l : List ℕ). length l ≤ most_ahead limits) (sym (append-nil old)) fit;
}

pub all_front : (h h' : Option (List ℕ)) (a b : Ahead) (limits : Limits) (turns : ℕ) (row front : List Step) (put : List ℕ)
    → (row ≡ front) ⊎ ((wait : List ℕ) × (row ≡ front ++ Poll wait ∷ [])) → (length front < length row → ⊥) → 0 < length row → AreSent limits front put
    → Appends h h' put → TakesAnswers a b front → HasDoneAll (wire h a) (wire h' b) limits turns row
all_front h h' a b limits turns row front put parts none some sent out taken =
    let same = no_poll row front parts none in
    subst (λ (l : List Step). HasDoneAll (wire h a) (wire h' b) limits turns l) (sym same)
    (front_done h h' a b limits turns front put (subst (λ (l : List Step). 0 < length l) same some) sent out taken)

-- an answer doesn't fail in the writer
no_write : (a b : Ahead) (why : Reason) (want : List ℕ) → why ≡ reason.Exchange fault.Write → AnswersKnown a b (Err why) want → ⊥
no_write a b why want is known = (subst (λ (w : Reason). AnswersKnown a b (Err w) want) is known).2

-- a step stopped before the poll
pub halts_front : (h h' : Option (List ℕ)) (a a' : Ahead) (limits : Limits) (turns reads : ℕ) (row front polls : List Step) (halt : Halt) (p q : List ℕ)
    → IsRow limits row → row ≡ front ++ polls → reads ≤ most_reads → reads ≤ turns → AreSent limits front p → AreAsked limits reads polls q
    → length (p ++ q) ≤ most_ahead limits → Appends h h' (p ++ q) → StopsAnswers a a' front halt → HasHalted (wire h a) (wire h' a') limits turns row halt
halts_front h h' a a' limits turns reads row front polls halt p q is whole few within sent asked fits out stops =
    let beyond = stops.rest ++ polls in
    let parts = sent_split limits stops.done (stops.at ∷ stops.rest) p (subst (λ (l : List Step). AreSent limits l p) stops.those sent) in
    let put : p ++ q ≡ parts.first ++ (parts.second ++ q) = ap (λ (l : List ℕ). l ++ q) parts.whole ∙ append_assoc parts.first parts.second q in
    let upto = done_upto h h' a stops.between limits turns stops.done parts.first (parts.second ++ q) parts.front (subst (Appends h h') put out) stops.taken in
    let own = parts.back.0 in
    let rest = parts.back.1 in
    let later : parts.second ++ q ≡ own ++ (rest ++ q) = ap (λ (l : List ℕ). l ++ q) parts.back.2 ∙ append_assoc own rest q in
    let at = out_split upto.held h' own (rest ++ q) (subst (Appends upto.held h') later upto.out) in
    let long : length (p ++ q) ≡ length parts.first + (length own + length (rest ++ q)) =
    ap length put ∙ length-append parts.first (parts.second ++ q)
    ∙ ap (λ n. length parts.first + n) (ap length later ∙ length-append own (rest ++ q)) in
    let all : row ≡ stops.done ++ (stops.at ∷ beyond) =
    whole ∙ ap (λ (l : List Step). l ++ polls) stops.those ∙ append_assoc stops.done (stops.at ∷ stops.rest) polls in record {
      done = stops.done;
      at = stops.at;
      beyond = beyond;
      rest = [];
      those = all ∙ ap (λ (l : List Step). stops.done ++ (stops.at ∷ l)) (sym (append-nil beyond));
      number = stops.number;
      row = tail_row limits stops.done stops.at beyond (subst (IsRow limits) all is);
      held = upto.held;
      ahead = stops.between;
      before = upto.done;
      stopped = inl (record {
        held = at.0;
        stopped = says_stopped upto.held at.0 stops.between a' limits turns halt.why stops.at own parts.back.3 at.1 stops.stop;
        put = rest ++ q;
        ahead = record {
          reads = reads;
          few = few;
          within = within;
          asked = asked_both limits reads stops.rest polls rest q (sent_asked limits reads stops.rest rest parts.back.4) asked;
          fits = omega (arith, fits, long);
        };
        out = at.2;
        last = λ write. absurd (no_write stops.between a' halt.why (expected stops.at) write stops.stop);
      });
    }

-- the last step stopped
pub halts_last : (h m h' : Option (List ℕ)) (a b a' : Ahead) (limits : Limits) (turns : ℕ) (row front : List Step) (x : Step) (rest : List Step) (halt : Halt)
    → row ≡ front ++ (x ∷ rest) → halt.step ≡ length front → HasDoneAll (wire h a) (wire m b) limits turns front → HasStopped (wire m b) (wire h' a') limits turns halt.why x
    → HasHalted (wire h a) (wire h' a') limits turns row halt
halts_last h m h' a b a' limits turns row front x rest halt whole number before stopped = record {
  done = front;
  at = x;
  beyond = [];
  rest = rest;
  those = whole;
  number = number;
  row = single_row limits x;
  held = m;
  ahead = b;
  before = before;
  stopped = inl (record { held = h'; stopped = stopped; put = []; ahead = none_ahead limits turns; out = Appends-none h'; last = λ write. refl });
}

pub halts_at : (h m h' : Option (List ℕ)) (a b a' : Ahead) (limits : Limits) (turns : ℕ) (row : List Step) (at : ℕ) (x : Step) (halt : Halt)
    → at < length row → x ≡ get_or row at x → halt.step ≡ at → HasDoneAll (wire h a) (wire m b) limits turns (take at row) → HasStopped (wire m b) (wire h' a') limits turns halt.why x
    → HasHalted (wire h a) (wire h' a') limits turns row halt
halts_at h m h' a b a' limits turns row at x halt within is number before stopped =
    halts_last h m h' a b a' limits turns row (take at row) x (drop (at + 1) row) halt (cut_at row at x within is) (number ∙ front_long row at within) before stopped

-- the writer failed in the requests of a row
pub halts_cut : (h h' : Option (List ℕ)) (a : Ahead) (limits : Limits) (turns reads : ℕ) (row front polls : List Step) (halt : Halt) (p q : List ℕ)
    → IsRow limits row → row ≡ front ++ polls → reads ≤ most_reads → reads ≤ turns → AreSent limits front p → AreAsked limits reads polls q
    → length (p ++ q) ≤ most_ahead limits → Cuts h h' (p ++ q) → halt.step ≡ 0 → halt.why ≡ reason.Exchange fault.Write → HasHalted (wire h a) (wire h' a) limits turns row halt
halts_cut h h' a limits turns reads row front polls halt p q is whole few within sent asked fits cut first why = by row is whole
  where
    by : (row : List Step) → IsRow limits row → row ≡ front ++ polls → HasHalted (wire h a) (wire h' a) limits turns row halt
    by [] is whole = absurd (omega (arith, is.some))
    by (x ∷ xs) is whole = record {
      done = [];
      at = x;
      beyond = xs;
      rest = [];
      those = ap (λ (l : List Step). x ∷ l) (sym (append-nil xs));
      number = first;
      row = is;
      held = h;
      ahead = a;
      before = (refl, refl);
      stopped = inr (record {
        writer = why;
        put = p ++ q;
        ahead = record {
          reads = reads;
          few = few;
          within = within;
          asked = subst (λ (l : List Step). AreAsked limits reads l (p ++ q)) (sym whole)
              (asked_both limits reads front polls p q (sent_asked limits reads front p sent) asked);
          fits = fits;
        };
        cut = cut;
        untaken = refl;
      });
    }

-- a halt in a row is one in all steps
pub halt_in_steps : HaltInSteps
halt_in_steps h i j a b c limits turns front row rest inner outer before halted number why =
    let tail = halted.rest ++ rest in
    let at = halted.at ∷ (halted.beyond ++ halted.rest) in
    let own : row ++ rest ≡ halted.done ++ (halted.at ∷ (halted.beyond ++ tail)) =
    ap (λ (l : List Step). l ++ rest) halted.those ∙ append_assoc halted.done at rest
    ∙ ap (λ (l : List Step). halted.done ++ (halted.at ∷ l)) (append_assoc halted.beyond halted.rest rest) in record {
      done = front ++ halted.done;
      at = halted.at;
      beyond = halted.beyond;
      rest = tail;
      those = ap (λ (l : List Step). front ++ l) own ∙ sym (append_assoc front halted.done (halted.at ∷ (halted.beyond ++ tail)));
      number = omega (arith, number, halted.number, length-append front halted.done);
      row = halted.row;
      held = halted.held;
      ahead = halted.ahead;
      before = done_in_parts h i halted.held a b halted.ahead limits turns front halted.done before halted.before;
      stopped = subst (λ (w : Reason). StopsWithin (wire halted.held halted.ahead) (wire j c) limits turns w halted.at halted.beyond
          ⊎ CutsRow (wire halted.held halted.ahead) (wire j c) limits turns w (halted.at ∷ halted.beyond)) (sym why) halted.stopped;
    }
