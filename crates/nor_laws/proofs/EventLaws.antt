-- The chips of a run's events are its trail.
use Rattle.std.proofs.Common.{◌≡◌, ℕ, zero, suc, ◌+◌, Bool, true, false, if◌then◌else◌, List, [], ◌∷◌, ◌++◌, map, Result, Ok, Err, refl, ◌∙◌, ap}
use Rattle.std.specs.Str.{bytes_eq}
use Rattle.std.proofs.lemmas.List.{map-append}
use Rattle.nor_base.specs.declared.step.Step.{Step}
use Rattle.nor_base.specs.declared.step.Step.TheVariants.{Send, Poll, Verify}
use Rattle.nor_base.specs.declared.wrong.Wrong.{Wrong}
use Rattle.nor_base.specs.Chip.{Setting, Chip}
use Rattle.nor_base.specs.Effect.{effect}
use Rattle.nor_base.specs.Run.{poll_clocks, says_busy, is_verify, step, trail_on, polled_trail, step_trail, trail_after, trail}
use Rattle.nor_base.specs.Events.{Event, event_on, polled_events, step_events, events_after, events_from}

abbrev chips : List Event → List Chip
chips seen = map (λ (e : Event). e.chip) seen

one_on : (s : Setting) (n : ℕ) (c : Chip) (clocks : List ℕ) (r : Result (Chip × List ℕ) Wrong) (more : Chip × List ℕ → List Event) (on : Chip × List ℕ → List Chip)
    → ((after : Chip × List ℕ) → chips (more after) ≡ on after) → chips (event_on s n c clocks r more) ≡ trail_on r on
one_on s n c clocks (Err why) more on same = refl
one_on s n c clocks (Ok after) more on same = ap (λ rest. after.0 ∷ rest) (same after)

if_busy : (b : Bool) (more : List Event) (on : List Chip) → chips more ≡ on → chips (if b then more else []) ≡ (if b then on else [])
if_busy true more on same = same
if_busy false more on same = refl

polled_same : (s : Setting) (n turns : ℕ) (c : Chip) → chips (polled_events s n turns c) ≡ polled_trail s turns c
unfolding polled_events polled_trail
polled_same s n zero c = refl
polled_same s n (suc turns) c =
    one_on s n c poll_clocks (effect s c poll_clocks) (λ after. if says_busy after.1 then polled_events s n turns after.0 else [])
    (λ after. if says_busy after.1 then polled_trail s turns after.0 else [])
    (λ after. if_busy (says_busy after.1) (polled_events s n turns after.0) (polled_trail s turns after.0) (polled_same s n turns after.0))

step_same : (s : Setting) (n : ℕ) (c : Chip) (x : Step) → chips (step_events s n c x) ≡ step_trail s c x
unfolding step_events step_trail
step_same s n c (Send clocks) = one_on s n c clocks (effect s c clocks) (λ after. []) (λ after. []) (λ after. refl)
step_same s n c (Poll clocks) = if_busy (bytes_eq clocks poll_clocks) _ _ (polled_same s n (suc c.left) c)
step_same s n c (Verify clocks expect) = if_busy (is_verify clocks) _ _ (one_on s n c clocks (effect s c clocks) (λ after. []) (λ after. []) (λ after. refl))

after_same : (r : Result Chip Wrong) (more : Chip → List Event) (on : Chip → List Chip) → ((d : Chip) → chips (more d) ≡ on d) → chips (events_after r more) ≡ trail_after r on
after_same (Err why) more on same = refl
after_same (Ok d) more on same = same d

pub chips_are_trail : (s : Setting) (n : ℕ) (c : Chip) (steps : List Step) → chips (events_from s n c steps) ≡ trail s c steps
unfolding events_from trail
chips_are_trail s n c [] = refl
chips_are_trail s n c (x ∷ xs) =
    map-append (λ (e : Event). e.chip) (step_events s n c x) (events_after (step s c x) (λ d. events_from s (n + 1) d xs))
    ∙ ap (λ front. front ++ chips (events_after (step s c x) (λ d. events_from s (n + 1) d xs))) (step_same s n c x)
    ∙ ap (λ rest. step_trail s c x ++ rest) (after_same (step s c x) (λ d. events_from s (n + 1) d xs) (λ d. trail s d xs) (λ d. chips_are_trail s (n + 1) d xs))
