-- A run ends with the chip after its last transaction.
use Rattle.std.proofs.Common.{◌≡◌, ℕ, zero, suc, Bool, true, false, if◌then◌else◌, List, [], ◌∷◌, ◌++◌, Result, Ok, Err, refl, ◌∙◌, ap}
use Rattle.std.specs.Str.{bytes_eq}
use Rattle.nor_base.specs.declared.step.Step.{Step}
use Rattle.nor_base.specs.declared.step.Step.TheVariants.{Send, Poll, Verify}
use Rattle.nor_base.specs.declared.wrong.Wrong.{Wrong}
use Rattle.nor_base.specs.declared.wrong.Wrong.TheVariants as wrong
use Rattle.nor_base.specs.Chip.{Setting, Chip}
use Rattle.nor_base.specs.Effect.{effect}
use Rattle.nor_base.specs.Run.{poll_clocks, poll_on, says_busy, polled, polled_trail, is_verify, done, matched, step, step_trail, go_on, run, trail_on, trail_after, trail}
use Rattle.nor_base.proofs.OutcomeLaws.{later_ok}
use Rattle.nor_laws.specs.Laws.{last_of}

last_of-append : (c : Chip) (xs ys : List Chip) → last_of c (xs ++ ys) ≡ last_of (last_of c xs) ys
last_of-append c [] ys = refl
last_of-append c (x ∷ xs) ys = last_of-append x xs ys

done_ends : (c d : Chip) (effect : Result (Chip × List ℕ) Wrong) → done effect ≡ Ok d → last_of c (trail_on effect (λ after. [])) ≡ d
done_ends c d (Err why) h = cc
done_ends c d (Ok after) h = let same : after.0 ≡ d = cc in same

matched_if : (c d : Chip) (after : Chip × List ℕ) (b : Bool) → (if b then Ok after.0 else Err wrong.Mismatch) ≡ Ok d → after.0 ≡ d
matched_if c d after true h = cc
matched_if c d after false h = cc

matched_ends : (c d : Chip) (expect : List ℕ) (effect : Result (Chip × List ℕ) Wrong) → matched expect effect ≡ Ok d → last_of c (trail_on effect (λ after. [])) ≡ d
matched_ends c d expect (Err why) h = cc
matched_ends c d expect (Ok after) h = matched_if c d after (bytes_eq after.1 expect) h

poll_step : (c d e : Chip) (bytes : List ℕ) (b : Bool) (again : Result Chip Wrong) (more : List Chip) → (again ≡ Ok d → last_of e more ≡ d)
    → (if b then again else Ok e) ≡ Ok d → last_of e (if b then more else []) ≡ d
poll_step c d e bytes true again more later h = later h
poll_step c d e bytes false again more later h = let same : e ≡ d = cc in same

poll_ends_by : (s : Setting) (c d : Chip) (turns : ℕ) (effect : Result (Chip × List ℕ) Wrong)
    → ((e : Chip) → polled s turns e ≡ Ok d → last_of e (polled_trail s turns e) ≡ d)
    → poll_on effect (polled s turns) ≡ Ok d
    → last_of c (trail_on effect (λ after. if says_busy after.1 then polled_trail s turns after.0 else [])) ≡ d
poll_ends_by s c d turns (Err why) later h = cc
poll_ends_by s c d turns (Ok after) later h =
    poll_step c d after.0 after.1 (says_busy after.1) (polled s turns after.0) (polled_trail s turns after.0) (later after.0) h

polled_ends : (s : Setting) (turns : ℕ) (c d : Chip) → polled s turns c ≡ Ok d → last_of c (polled_trail s turns c) ≡ d
unfolding polled polled_trail
polled_ends s zero c d h = cc
polled_ends s (suc turns) c d h = poll_ends_by s c d turns (effect s c poll_clocks) (λ e. polled_ends s turns e d) h

poll_if : (s : Setting) (c d : Chip) (b : Bool) → (if b then polled s (suc c.left) c else Err wrong.Unknown) ≡ Ok d
    → last_of c (if b then polled_trail s (suc c.left) c else []) ≡ d
poll_if s c d true h = polled_ends s (suc c.left) c d h
poll_if s c d false h = cc

verify_if : (c d : Chip) (expect : List ℕ) (effect : Result (Chip × List ℕ) Wrong) (b : Bool) → (if b then matched expect effect else Err wrong.Unknown) ≡ Ok d
    → last_of c (if b then trail_on effect (λ after. []) else []) ≡ d
verify_if c d expect effect true h = matched_ends c d expect effect h
verify_if c d expect effect false h = cc

step_ends : (s : Setting) (c d : Chip) (x : Step) → step s c x ≡ Ok d → last_of c (step_trail s c x) ≡ d
unfolding step step_trail
step_ends s c d (Send clocks) h = done_ends c d (effect s c clocks) h
step_ends s c d (Poll clocks) h = poll_if s c d (bytes_eq clocks poll_clocks) h
step_ends s c d (Verify clocks expect) h = verify_if c d expect (effect s c clocks) (is_verify clocks) h

run_on : (s : Setting) (c d : Chip) (x : Step) (xs : List Step) (first : Result Chip Wrong) → step s c x ≡ first
    → ((e : Chip) → run s e xs ≡ Ok d → last_of e (trail s e xs) ≡ d)
    → go_on c first (λ e. run s e xs) ≡ Ok d → last_of (last_of c (step_trail s c x)) (trail_after first (λ e. trail s e xs)) ≡ d
run_on s c d x xs (Err why) is later h = cc
run_on s c d x xs (Ok e) is later h =
    ap (λ (b : Chip). last_of b (trail s e xs)) (step_ends s c e x is) ∙ later e (later_ok (run s e xs) d h)

pub run_ends_trail : (s : Setting) (c d : Chip) (steps : List Step) → run s c steps ≡ Ok d → last_of c (trail s c steps) ≡ d
unfolding run trail
run_ends_trail s c d [] h = cc
run_ends_trail s c d (x ∷ xs) h =
    last_of-append c (step_trail s c x) (trail_after (step s c x) (λ e. trail s e xs))
    ∙ run_on s c d x xs (step s c x) refl (λ e. run_ends_trail s e d xs) h
