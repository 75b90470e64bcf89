-- Steps of one transaction.
use Rattle.std.proofs.Common.{◌≡◌, ℕ, ◌<◌, true, false, if◌then◌else◌, List, [], length, Result, Ok, Err, refl, sym, ◌∙◌, ap}
use Rattle.std.specs.Str.{bytes_eq}
use Rattle.std.proofs.lemmas.Slice.Eq.{bytes_eq-Decides}
use Rattle.nor_base.specs.declared.step.Step.TheVariants.{Send, Poll, Verify}
use Rattle.nor_base.specs.declared.wrong.Wrong.{Wrong}
use Rattle.nor_base.specs.declared.wrong.Wrong.TheVariants as wrong
use Rattle.nor_base.specs.Chip.{Setting, Chip}
use Rattle.nor_base.specs.Effect.{effect}
use Rattle.nor_base.specs.Port.{Shown}
use Rattle.nor_base.specs.Run.{poll_clocks, is_verify, done, matched, step, halt_on, polled_for, step_for, trail_on, step_trail}
use Rattle.nor_laws.specs.Spelling.{VerifyKeeps}
use Rattle.nor_play.specs.declared.fault.Halt.TheVariants as halt
use Rattle.nor_play.specs.declared.fault.Halt.{Halt as Stopped}
use Rattle.nor_play.specs.Turns.{Halts, EndsStep, StopsStep, PlaysStep}

-- clocks sent once
pub send_ends : (before after : Shown) (limit : ℕ) (clocks bytes : List ℕ) → 0 < limit → after.setting ≡ before.setting
    → effect before.setting before.chip clocks ≡ Ok (after.chip, bytes) → EndsStep before after limit (Send clocks) 1
unfolding step step_for step_trail
send_ends before after limit clocks bytes some same e = record {
  setting = same;
  bounded = ap (λ r. halt_on before.chip (done r)) e;
  whole = ap done e;
  counted = sym (ap (λ r. length (trail_on r (λ after. []))) e);
  few = some;
}

pub send_halts : (before after : Shown) (limit : ℕ) (clocks : List ℕ) (h : Stopped) → Halts before after clocks h
    → PlaysStep before after limit (Send clocks) (Err h)
unfolding step_for
send_halts before after limit clocks (halt.Wrong why) given = record {
  setting = ap (λ (shown : Shown). shown.setting) given.0;
  stops = ap (λ r. halt_on before.chip (done r)) given.1 ∙ ap (λ (shown : Shown). Err (record { why = why; chip = shown.chip })) (sym given.0);
}
send_halts before after limit clocks halt.Failed given = tt
send_halts before after limit clocks halt.Memory given = given

-- a verify by its clocks and its transaction
verify_by : (s : Setting) (limit : ℕ) (c : Chip) (clocks expect : List ℕ) (r : Result (Chip × List ℕ) Wrong) → is_verify clocks ≡ true → effect s c clocks ≡ r
    → step_for s limit c (Verify clocks expect) ≡ halt_on c (matched expect r)
unfolding step_for
verify_by s limit c clocks expect r is e =
    ap (λ b. halt_on c (if b then matched expect (effect s c clocks) else Err wrong.Unknown)) is ∙ ap (λ r. halt_on c (matched expect r)) e

step_by : (s : Setting) (c : Chip) (clocks expect : List ℕ) (r : Result (Chip × List ℕ) Wrong) → is_verify clocks ≡ true → effect s c clocks ≡ r
    → step s c (Verify clocks expect) ≡ matched expect r
unfolding step
step_by s c clocks expect r is e = ap (λ b. if b then matched expect (effect s c clocks) else Err wrong.Unknown) is ∙ ap (matched expect) e

alike : (bytes : List ℕ) → bytes_eq bytes bytes ≡ true
alike bytes = (bytes_eq-Decides bytes bytes).1 refl

pub verify_ends : (before after : Shown) (limit : ℕ) (clocks expect bytes : List ℕ) → 0 < limit → is_verify clocks ≡ true → bytes_eq bytes expect ≡ true
    → after.setting ≡ before.setting → effect before.setting before.chip clocks ≡ Ok (after.chip, bytes) → EndsStep before after limit (Verify clocks expect) 1
unfolding step_trail
verify_ends before after limit clocks expect bytes some is match same e = record {
  setting = same;
  bounded = verify_by before.setting limit before.chip clocks expect _ is e ∙ ap (λ b. halt_on before.chip (if b then Ok after.chip else Err wrong.Mismatch)) match;
  whole = step_by before.setting before.chip clocks expect _ is e ∙ ap (λ b. if b then Ok after.chip else Err wrong.Mismatch) match;
  counted = sym (ap (λ b. length (if b then trail_on (effect before.setting before.chip clocks) (λ after. []) else [])) is
      ∙ ap (λ r. length (trail_on r (λ after. []))) e);
  few = some;
}

pub verify_differs : (before after : Shown) (limit : ℕ) (clocks expect bytes : List ℕ) → VerifyKeeps → is_verify clocks ≡ true → bytes_eq bytes expect ≡ false
    → after.setting ≡ before.setting → effect before.setting before.chip clocks ≡ Ok (after.chip, bytes) → StopsStep before after limit (Verify clocks expect) wrong.Mismatch
verify_differs before after limit clocks expect bytes keeps is match same e =
    let whole : step before.setting before.chip (Verify clocks bytes) ≡ Ok after.chip =
    step_by before.setting before.chip clocks bytes _ is e ∙ ap (λ b. if b then Ok after.chip else Err wrong.Mismatch) (alike bytes) in
    let kept : after.chip ≡ before.chip = keeps before.setting before.chip after.chip clocks bytes whole in
    record {
      setting = same;
      stops = verify_by before.setting limit before.chip clocks expect _ is e ∙ ap (λ b. halt_on before.chip (if b then Ok after.chip else Err wrong.Mismatch)) match
          ∙ ap (λ (c : Chip). Err (record { why = wrong.Mismatch; chip = c })) (sym kept);
    }

pub verify_unknown : (before : Shown) (limit : ℕ) (clocks expect : List ℕ) → is_verify clocks ≡ false → StopsStep before before limit (Verify clocks expect) wrong.Unknown
unfolding step_for
verify_unknown before limit clocks expect is = record {
  setting = refl;
  stops = ap (λ b. halt_on before.chip (if b then matched expect (effect before.setting before.chip clocks) else Err wrong.Unknown)) is;
}

pub verify_halts : (before after : Shown) (limit : ℕ) (clocks expect : List ℕ) (h : Stopped) → is_verify clocks ≡ true
    → Halts before after clocks h → PlaysStep before after limit (Verify clocks expect) (Err h)
verify_halts before after limit clocks expect (halt.Wrong why) is given = record {
  setting = ap (λ (shown : Shown). shown.setting) given.0;
  stops = verify_by before.setting limit before.chip clocks expect _ is given.1 ∙ ap (λ (shown : Shown). Err (record { why = why; chip = shown.chip })) (sym given.0);
}
verify_halts before after limit clocks expect halt.Failed is given = tt
verify_halts before after limit clocks expect halt.Memory is given = given

-- a poll of other clocks
pub poll_unknown : (before : Shown) (limit : ℕ) (clocks : List ℕ) → bytes_eq clocks poll_clocks ≡ false → StopsStep before before limit (Poll clocks) wrong.Unknown
unfolding step_for
poll_unknown before limit clocks is = record {
  setting = refl;
  stops = ap (λ b. if b then polled_for before.setting limit before.chip else Err (record { why = wrong.Unknown; chip = before.chip })) is;
}
