-- One step of all chips: where all take it, each goes to one of those after it, and each of these comes from one before; where
-- it goes wrong, some chip goes wrong so, and none for an earlier cause.
use Rattle.std.proofs.Common.{◌≡◌, ℕ, suc, ◌≤◌, Bool, true, false, if◌then◌else◌, List, [], replicate, Option, Some, None, Result, Ok, Err, refl, sym, ◌∙◌, ap, arith, subst, inr, drop}
use Rattle.std.specs.Prelude.{pred, ◌⊎◌}
use Rattle.std.specs.List.{slice_index}
use Rattle.std.specs.Str.{bytes_eq}
use Rattle.std.proofs.lemmas.Slice.Eq.{bytes_eq-Decides}
use Rattle.nor_base.specs.declared.instruction.What.{What}
use Rattle.nor_base.specs.declared.instruction.What.TheVariants as what
use Rattle.nor_base.specs.declared.meaning.Start.{Start}
use Rattle.nor_base.specs.declared.step.Step.{Step}
use Rattle.nor_base.specs.declared.step.Step.TheVariants.{Send, Poll, Verify}
use Rattle.nor_base.specs.declared.wrong.Wrong.{Wrong}
use Rattle.nor_base.specs.declared.wrong.Wrong.TheVariants as wrong
use Rattle.nor_base.specs.Parameters.{Parameters}
use Rattle.nor_base.specs.Decoding.{Instruction, decode}
use Rattle.nor_base.specs.Chip.{Setting, Chip, is_busy}
use Rattle.nor_base.specs.Effect.{after, answer, effect, effect_if, effect_of, is_out_of_range, is_status, status}
use Rattle.nor_base.specs.Run.{done, matched, poll_clocks, polled, is_verify, step}
use Rattle.nor_laws.specs.Laws.{PollEnds}
use Rattle.nor_laws.proofs.EffectLaws.{taken}
use Rattle.nor_laws.specs.Spelling.{VerifyKeeps}
use Rattle.nor_check.specs.Order.{rank_of}
use Rattle.nor_check.specs.Chips.{Kind, Chips, one_like, MayBeLeft, one_of, some_left, least_able, all_after}
use Rattle.nor_check.specs.Judged.{all_taken, all_effect, all_done, all_matched, all_step}
use Rattle.nor_check.proofs.Lines.{NotBelow}
use Rattle.nor_check.proofs.Members.{next_left, next_come, prev_left, prev_come, may_next, how_next, may_where, may_prev, left_again, come_again, same_answer}
use Rattle.nor_check.proofs.Takes.{each_moves, same_refusal, refusal_rank, none_earlier}

-- a step takes this one to one of those after it
pub record HasNext (k : Kind) (x : Step) (w v : Chips) (keeps : Bool) (left : ℕ) (to_come : List ℕ) : Type 0 where
  pub then_left : ℕ
  pub then_come : List ℕ
  pub may : MayBeLeft v.busy then_left
  -- it took a program or an erase; or, where some may still be busy, no more than one status read
  pub how : ((then_left ≡ slice_index to_come 0) × (then_come ≡ drop 1 to_come))
      ⊎ ((then_come ≡ to_come) × (v.busy ≡ true → (w.busy ≡ true) × (left ≤ suc then_left)))
  pub steps : (busy : List ℕ) → step (one_like k busy keeps) (one_of w keeps left to_come) x ≡ Ok (one_of v keeps then_left then_come)

-- this one of those after it comes from one before
pub record HasPrevious (k : Kind) (x : Step) (w v : Chips) (keeps : Bool) (left : ℕ) (to_come : List ℕ) : Type 0 where
  pub was_left : ℕ
  pub was_come : List ℕ
  pub may : MayBeLeft w.busy was_left
  pub steps : (busy : List ℕ) → step (one_like k busy keeps) (one_of w keeps was_left was_come) x ≡ Ok (one_of v keeps left to_come)

pub record MovesAll (k : Kind) (x : Step) (w v : Chips) : Type 0 where
  pub onward : (keeps : Bool) (left : ℕ) (to_come : List ℕ) → MayBeLeft w.busy left → HasNext k x w v keeps left to_come
  pub back : (keeps : Bool) (left : ℕ) (to_come : List ℕ) → MayBeLeft v.busy left → HasPrevious k x w v keeps left to_come

pub record StopsSome (k : Kind) (x : Step) (w : Chips) (cause : Wrong) : Type 0 where
  -- the latch goes with a change of mode, and it is busy where one may be
  pub some : (busy : List ℕ) (left : ℕ) (to_come : List ℕ) → is_busy left ≡ is_busy (some_left w.busy)
      → step (one_like k busy false) (one_of w false left to_come) x ≡ Err cause
  pub first : (busy : List ℕ) (keeps : Bool) (left : ℕ) (to_come : List ℕ) → MayBeLeft w.busy left
      → NotBelow (rank_of cause) (step (one_like k busy keeps) (one_of w keeps left to_come) x)

abbrev pub IsStepOfAll : Kind → Step → Chips → Result Chips Wrong → Type 0
IsStepOfAll k x w (Ok v) = MovesAll k x w v
IsStepOfAll k x w (Err cause) = StopsSome k x w cause

-- by a kind of instruction
moves : (k : Kind) (x : Step) (w : Chips) (d : Chip) (is : What)
    → ((busy : List ℕ) (keeps : Bool) (left : ℕ) (to_come : List ℕ) → MayBeLeft w.busy left
    → step (one_like k busy keeps) (one_of w keeps left to_come) x ≡ Ok (one_of (all_after w is d) keeps (next_left is left to_come) (next_come is to_come)))
    → MovesAll k x w (all_after w is d)
moves k x w d is each = record {
  onward = λ keeps left to_come may. record {
    then_left = next_left is left to_come;
    then_come = next_come is to_come;
    may = may_next w.busy is left to_come may;
    how = how_next w.busy is left to_come;
    steps = λ busy. each busy keeps left to_come may;
  };
  back = λ keeps left to_come may. record {
    was_left = prev_left w.busy is left;
    was_come = prev_come is left to_come;
    may = may_prev w.busy is left may;
    steps = λ busy.
        each busy keeps (prev_left w.busy is left) (prev_come is left to_come) (may_prev w.busy is left may)
        ∙ ap (λ n. Ok (one_of (all_after w is d) keeps n (next_come is (prev_come is left to_come)))) (left_again w.busy is left to_come may)
        ∙ ap (λ l. Ok (one_of (all_after w is d) keeps left l)) (come_again is left to_come);
  };
}

-- each goes wrong for one cause
each_stops : (k : Kind) (x : Step) (w : Chips) (cause : Wrong)
    → ((busy : List ℕ) (keeps : Bool) (left : ℕ) (to_come : List ℕ) → MayBeLeft w.busy left → step (one_like k busy keeps) (one_of w keeps left to_come) x ≡ Err cause)
    → StopsSome k x w cause
each_stops k x w cause each = record {
  some = λ busy left to_come same. each busy false left to_come (may_where w.busy left same);
  first = λ busy keeps left to_come may. subst (NotBelow (rank_of cause)) (sym (each busy keeps left to_come may)) (let low : rank_of cause ≤ rank_of cause = omega arith in low);
}

-- clocks sent once
sent : (s : Setting) (c : Chip) (clocks : List ℕ) (o : Option Instruction) → decode s.meaning c.mode4 clocks ≡ o → step s c (Send clocks) ≡ done (effect_if s c o)
unfolding step effect
sent s c clocks o is = ap (λ o. done (effect_if s c o)) is

done_below : (n : ℕ) (r : Result (Chip × List ℕ) Wrong) → NotBelow n r → NotBelow n (done r)
done_below n (Ok after) h = tt
done_below n (Err cause) h = h

send_effect : (k : Kind) (w : Chips) (clocks : List ℕ) (i : Instruction) (r : Result (Chip × List ℕ) Wrong) → decode k.meaning w.mode4 clocks ≡ Some i
    → effect_of (one_like k [] false) (least_able w) i ≡ r → IsStepOfAll k (Send clocks) w (all_done (all_taken w i.what r))
send_effect k w clocks i (Ok r) is h =
    moves k (Send clocks) w r.0 i.what (λ busy keeps left to_come may.
    sent (one_like k busy keeps) (one_of w keeps left to_come) clocks (Some i) is ∙ ap done (each_moves k w i busy keeps left to_come r may h))
send_effect k w clocks i (Err cause) is h = record {
  some = λ busy left to_come same.
      sent (one_like k busy false) (one_of w false left to_come) clocks (Some i) is ∙ ap done (same_refusal k w i busy left to_come cause same h);
  first = λ busy keeps left to_come may.
      subst (NotBelow (rank_of cause)) (sym (sent (one_like k busy keeps) (one_of w keeps left to_come) clocks (Some i) is))
      (done_below (rank_of cause) _ (none_earlier k w i busy keeps left to_come cause may h));
}

send_decoded : (k : Kind) (w : Chips) (clocks : List ℕ) (o : Option Instruction) → decode k.meaning w.mode4 clocks ≡ o
    → IsStepOfAll k (Send clocks) w (all_done (all_effect k w o))
send_decoded k w clocks None is =
    each_stops k (Send clocks) w wrong.Unknown (λ busy keeps left to_come may. sent (one_like k busy keeps) (one_of w keeps left to_come) clocks None is)
send_decoded k w clocks (Some i) is = send_effect k w clocks i (effect_of (one_like k [] false) (least_able w) i) is refl

-- a poll
poll_if : (k : Kind) (w : Chips) (clocks : List ℕ) (b : Bool) → PollEnds → bytes_eq clocks poll_clocks ≡ b
    → IsStepOfAll k (Poll clocks) w (if b then Ok (record w { busy = false }) else Err wrong.Unknown)
unfolding step
poll_if k w clocks true ends is = record {
  onward = λ keeps left to_come may. record {
    then_left = 0;
    then_come = to_come;
    may = refl;
    how = inr (refl, λ still. cc);
    steps = λ busy.
        let e : step (one_like k busy keeps) (one_of w keeps left to_come) (Poll clocks) ≡ polled (one_like k busy keeps) (suc left) (one_of w keeps left to_come) =
        ap (λ b. if b then polled (one_like k busy keeps) (suc left) (one_of w keeps left to_come) else Err wrong.Unknown) is in
        e ∙ ends (one_like k busy keeps) (one_of w keeps left to_come);
  };
  back = λ keeps left to_come may. record {
    was_left = left;
    was_come = to_come;
    may = subst (MayBeLeft w.busy) (sym may) (nothing w.busy);
    steps = λ busy.
        let e : step (one_like k busy keeps) (one_of w keeps left to_come) (Poll clocks) ≡ polled (one_like k busy keeps) (suc left) (one_of w keeps left to_come) =
        ap (λ b. if b then polled (one_like k busy keeps) (suc left) (one_of w keeps left to_come) else Err wrong.Unknown) is in
        e ∙ ends (one_like k busy keeps) (one_of w keeps left to_come) ∙ ap (λ n. Ok (one_of (record w { busy = false }) keeps n to_come)) (sym may);
  };
}
  where
    nothing : (busy : Bool) → MayBeLeft busy 0
    nothing true = tt
    nothing false = refl
poll_if k w clocks false ends is =
    each_stops k (Poll clocks) w wrong.Unknown (λ busy keeps left to_come may.
    ap (λ b. if b then polled (one_like k busy keeps) (suc left) (one_of w keeps left to_come) else Err wrong.Unknown) is)

-- what a Verify has isn't a status read
status_effect : (s : Setting) (c : Chip) (address asked : ℕ) (bytes : List ℕ)
    → effect_of s c (record { what = what.Status; address = address; sent = bytes; asked = asked }) ≡ Ok (record c { left = pred c.left }, replicate asked (status c))
unfolding effect_of after answer is_out_of_range
status_effect s c address asked bytes = refl

none_is_one : (a b : ℕ) → a ≡ b → a ≡ 0 → b ≡ 1 → ⊥
none_is_one a b same none one = omega arith

no_status_if : (m : Parameters) (start : Start) (mode4 : Bool) (clocks : List ℕ) (i : Instruction) (is : What) → VerifyKeeps → is_verify clocks ≡ true
    → decode m mode4 clocks ≡ Some i → i.what ≡ is → is_status is ≡ false
unfolding step effect
no_status_if m start mode4 clocks i what.Status keeps verify found same =
    let s : Setting = record { meaning = m; start = start; page = 0; busy = []; keeps = false } in
    let c : Chip = record { array = []; latch = false; mode4 = mode4; left = 1; to_come = [] } in
    let expect : List ℕ = replicate i.asked 3 in
    let e : effect s c clocks ≡ Ok (record c { left = 0 }, expect) =
    ap (effect_if s c) found ∙ ap (λ (w : What). effect_of s c (record i { what = w })) same ∙ status_effect s c i.address i.asked i.sent in
    let equal : bytes_eq expect expect ≡ true = (bytes_eq-Decides expect expect).1 refl in
    let steps : step s c (Verify clocks expect) ≡ Ok (record c { left = 0 }) =
    ap (λ b. if b then matched expect (effect s c clocks) else Err wrong.Unknown) verify ∙ ap (matched expect) e
    ∙ ap (λ b. if b then Ok (record c { left = 0 }) else Err wrong.Mismatch) equal in
    absurd (none_is_one 0 1 (ap (λ (d : Chip). d.left) (keeps s c (record c { left = 0 }) clocks expect steps)) refl refl)
no_status_if m start mode4 clocks i other keeps verify found same = refl

pub no_status : (m : Parameters) (start : Start) (mode4 : Bool) (clocks : List ℕ) (i : Instruction) → VerifyKeeps → is_verify clocks ≡ true
    → decode m mode4 clocks ≡ Some i → is_status i.what ≡ false
no_status m start mode4 clocks i keeps verify found = no_status_if m start mode4 clocks i i.what keeps verify found refl

-- a verifying read
verified : (s : Setting) (c : Chip) (clocks expect : List ℕ) (o : Option Instruction) → is_verify clocks ≡ true → decode s.meaning c.mode4 clocks ≡ o
    → step s c (Verify clocks expect) ≡ matched expect (effect_if s c o)
unfolding step effect
verified s c clocks expect o verify is =
    ap (λ b. if b then matched expect (effect s c clocks) else Err wrong.Unknown) verify ∙ ap (λ o. matched expect (effect_if s c o)) is

matched_below : (n : ℕ) (expect : List ℕ) (r : Result (Chip × List ℕ) Wrong) → n ≤ 5 → NotBelow n r → NotBelow n (matched expect r)
matched_below n expect (Err cause) low h = h
matched_below n expect (Ok after) low h = by (bytes_eq after.1 expect)
  where
    by : (b : Bool) → NotBelow {A = Chip} n (if b then Ok after.0 else Err wrong.Mismatch)
    by true = tt
    by false = low

verify_bytes : (k : Kind) (w : Chips) (clocks expect : List ℕ) (i : Instruction) (r : Chip × List ℕ) (b : Bool) → is_verify clocks ≡ true
    → decode k.meaning w.mode4 clocks ≡ Some i → is_status i.what ≡ false → effect_of (one_like k [] false) (least_able w) i ≡ Ok r → bytes_eq r.1 expect ≡ b
    → IsStepOfAll k (Verify clocks expect) w (if b then Ok (all_after w i.what r.0) else Err wrong.Mismatch)
verify_bytes k w clocks expect i r b verify is quiet h same =
    by b same
  where
    told : (busy : List ℕ) (keeps : Bool) (left : ℕ) (to_come : List ℕ) → MayBeLeft w.busy left
        → step (one_like k busy keeps) (one_of w keeps left to_come) (Verify clocks expect)
        ≡ (if bytes_eq r.1 expect then Ok (one_of (all_after w i.what r.0) keeps (next_left i.what left to_come) (next_come i.what to_come)) else Err wrong.Mismatch)
    told busy keeps left to_come may =
        let given : answer (one_of w keeps left to_come) i i.what ≡ r.1 =
        same_answer w i keeps left to_come i.what quiet ∙ sym (taken (one_like k [] false) (least_able w) i r.0 r.1 h).answer in
        verified (one_like k busy keeps) (one_of w keeps left to_come) clocks expect (Some i) verify is
        ∙ ap (matched expect) (each_moves k w i busy keeps left to_come r may h)
        ∙ ap (λ (bytes : List ℕ). if bytes_eq bytes expect then Ok (one_of (all_after w i.what r.0) keeps (next_left i.what left to_come) (next_come i.what to_come)) else Err wrong.Mismatch) given

    by : (b : Bool) → bytes_eq r.1 expect ≡ b → IsStepOfAll k (Verify clocks expect) w (if b then Ok (all_after w i.what r.0) else Err wrong.Mismatch)
    by true same =
        moves k (Verify clocks expect) w r.0 i.what (λ busy keeps left to_come may. told busy keeps left to_come may
        ∙ ap (λ b. if b then Ok (one_of (all_after w i.what r.0) keeps (next_left i.what left to_come) (next_come i.what to_come)) else Err wrong.Mismatch) same)
    by false same =
        each_stops k (Verify clocks expect) w wrong.Mismatch (λ busy keeps left to_come may. told busy keeps left to_come may
        ∙ ap (λ b. if b then Ok (one_of (all_after w i.what r.0) keeps (next_left i.what left to_come) (next_come i.what to_come)) else Err wrong.Mismatch) same)

verify_effect : (k : Kind) (w : Chips) (clocks expect : List ℕ) (i : Instruction) (r : Result (Chip × List ℕ) Wrong) → is_verify clocks ≡ true
    → decode k.meaning w.mode4 clocks ≡ Some i → is_status i.what ≡ false → effect_of (one_like k [] false) (least_able w) i ≡ r
    → IsStepOfAll k (Verify clocks expect) w (all_matched expect (all_taken w i.what r))
verify_effect k w clocks expect i (Ok r) verify is quiet h = verify_bytes k w clocks expect i r (bytes_eq r.1 expect) verify is quiet h refl
verify_effect k w clocks expect i (Err cause) verify is quiet h = record {
  some = λ busy left to_come same.
      verified (one_like k busy false) (one_of w false left to_come) clocks expect (Some i) verify is
      ∙ ap (matched expect) (same_refusal k w i busy left to_come cause same h);
  first = λ busy keeps left to_come may.
      let low = refusal_rank k w i cause h in
      subst (NotBelow (rank_of cause)) (sym (verified (one_like k busy keeps) (one_of w keeps left to_come) clocks expect (Some i) verify is))
      (matched_below (rank_of cause) expect _ (omega arith) (none_earlier k w i busy keeps left to_come cause may h));
}

verify_decoded : (k : Kind) (w : Chips) (clocks expect : List ℕ) (o : Option Instruction) → VerifyKeeps → is_verify clocks ≡ true → decode k.meaning w.mode4 clocks ≡ o
    → IsStepOfAll k (Verify clocks expect) w (all_matched expect (all_effect k w o))
verify_decoded k w clocks expect None keeps verify is =
    each_stops k (Verify clocks expect) w wrong.Unknown (λ busy keep left to_come may.
    verified (one_like k busy keep) (one_of w keep left to_come) clocks expect None verify is)
verify_decoded k w clocks expect (Some i) keeps verify is =
    verify_effect k w clocks expect i (effect_of (one_like k [] false) (least_able w) i) verify is (no_status k.meaning k.start w.mode4 clocks i keeps verify is) refl

verify_if : (k : Kind) (w : Chips) (clocks expect : List ℕ) (b : Bool) → VerifyKeeps → is_verify clocks ≡ b
    → IsStepOfAll k (Verify clocks expect) w (if b then all_matched expect (all_effect k w (decode k.meaning w.mode4 clocks)) else Err wrong.Unknown)
unfolding step
verify_if k w clocks expect true keeps verify = verify_decoded k w clocks expect (decode k.meaning w.mode4 clocks) keeps verify refl
verify_if k w clocks expect false keeps verify =
    each_stops k (Verify clocks expect) w wrong.Unknown (λ busy keep left to_come may.
    ap (λ b. if b then matched expect (effect (one_like k busy keep) (one_of w keep left to_come) clocks) else Err wrong.Unknown) verify)

pub step_of_all : (k : Kind) (w : Chips) (x : Step) → PollEnds → VerifyKeeps → IsStepOfAll k x w (all_step k w x)
unfolding all_step
step_of_all k w (Send clocks) ends keeps = send_decoded k w clocks (decode k.meaning w.mode4 clocks) refl
step_of_all k w (Poll clocks) ends keeps = poll_if k w clocks (bytes_eq clocks poll_clocks) ends refl
step_of_all k w (Verify clocks expect) ends keeps = verify_if k w clocks expect (is_verify clocks) keeps refl
