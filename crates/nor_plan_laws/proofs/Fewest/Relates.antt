-- What each transaction does to a chip, and what joins, a whole run does.
use Rattle.std.proofs.Common.{◌≡◌, ℕ, zero, suc, ◌+◌, Bool, true, false, if◌then◌else◌, List, [], ◌∷◌, ◌++◌, Result, Ok, Err, refl, subst}
use Rattle.std.specs.Str.{bytes_eq}
use Rattle.nor_base.specs.declared.step.Step.{Step}
use Rattle.nor_base.specs.declared.step.Step.TheVariants.{Send, Poll, Verify}
use Rattle.nor_base.specs.declared.wrong.Wrong.{Wrong}
use Rattle.nor_base.specs.declared.wrong.Wrong.TheVariants as wrong
use Rattle.nor_base.specs.Decoding.{decode}
use Rattle.nor_base.specs.Chip.{Setting, Chip}
use Rattle.nor_base.specs.Effect.{effect}
use Rattle.nor_base.specs.Run.{poll_clocks, says_busy, poll_on, polled, done, matched, is_verify, step, go_on, run}
use Rattle.nor_base.specs.Events.{Event, event_on, polled_events, step_events, events_after, events_from}
use Rattle.nor_base.proofs.OutcomeLaws.{later_ok}
use Rattle.nor_plan_laws.proofs.Erased.Least.{matched_done}

module _ (s : Setting) (R : Chip → List Event → Chip → Type 0) (none : (c : Chip) → R c [] c)
    (one : (n : ℕ) (c d : Chip) (clocks bytes : List ℕ) → effect s c clocks ≡ Ok (d, bytes)
    → R c (record { step = n; seen = decode s.meaning c.mode4 clocks; chip = d } ∷ []) d)
    (join : (c d e : Chip) (xs ys : List Event) → R c xs d → R d ys e → R c (xs ++ ys) e) where
  event_then : (n : ℕ) (c d e : Chip) (clocks bytes : List ℕ) (more : Chip × List ℕ → List Event) → effect s c clocks ≡ Ok (e, bytes)
      → R e (more (e, bytes)) d → R c (event_on s n c clocks (effect s c clocks) more) d
  event_then n c d e clocks bytes more h later =
      rw h (join c e d (record { step = n; seen = decode s.meaning c.mode4 clocks; chip = e } ∷ []) (more (e, bytes)) (one n c e clocks bytes h) later)

  poll_related : (n turns : ℕ) (c d : Chip) (r : Result (Chip × List ℕ) Wrong) → effect s c poll_clocks ≡ r
      → ((e : Chip) → polled s turns e ≡ Ok d → R e (polled_events s n turns e) d) → poll_on r (polled s turns) ≡ Ok d
      → R c (event_on s n c poll_clocks (effect s c poll_clocks) (λ after. if says_busy after.1 then polled_events s n turns after.0 else [])) d
  poll_related n turns c d (Err why) is later h = cc
  poll_related n turns c d (Ok after) is later h =
      event_then n c d after.0 poll_clocks after.1 (λ r. if says_busy r.1 then polled_events s n turns r.0 else []) is (by_busy (says_busy after.1) h)
    where
      by_busy : (b : Bool) → (if b then polled s turns after.0 else Ok after.0) ≡ Ok d → R after.0 (if b then polled_events s n turns after.0 else []) d
      by_busy true h = later after.0 h
      by_busy false h = let same : after.0 ≡ d = cc in subst (λ e. R after.0 [] e) same (none after.0)

  polls_related : (n turns : ℕ) (c d : Chip) → polled s turns c ≡ Ok d → R c (polled_events s n turns c) d
  unfolding polled polled_events
  polls_related n zero c d h = cc
  polls_related n (suc turns) c d h = poll_related n turns c d (effect s c poll_clocks) refl (λ e is. polls_related n turns e d is) h

  send_related : (n : ℕ) (c d : Chip) (clocks : List ℕ) (r : Result (Chip × List ℕ) Wrong) → effect s c clocks ≡ r → done r ≡ Ok d
      → R c (event_on s n c clocks (effect s c clocks) (λ after. [])) d
  send_related n c d clocks (Err why) is h = cc
  send_related n c d clocks (Ok after) is h =
      let same : after.0 ≡ d = cc in
      event_then n c d after.0 clocks after.1 (λ r. []) is (subst (λ e. R after.0 [] e) same (none after.0))

  poll_if_related : (n : ℕ) (c d : Chip) (b : Bool) → (if b then polled s (suc c.left) c else Err wrong.Unknown) ≡ Ok d
      → R c (if b then polled_events s n (suc c.left) c else []) d
  poll_if_related n c d true h = polls_related n (suc c.left) c d h
  poll_if_related n c d false h = cc

  verify_if_related : (n : ℕ) (c d : Chip) (clocks expect : List ℕ) (b : Bool) → (if b then matched expect (effect s c clocks) else Err wrong.Unknown) ≡ Ok d
      → R c (if b then event_on s n c clocks (effect s c clocks) (λ after. []) else []) d
  verify_if_related n c d clocks expect true h = send_related n c d clocks (effect s c clocks) refl (matched_done expect d (effect s c clocks) h)
  verify_if_related n c d clocks expect false h = cc

  step_related : (n : ℕ) (c d : Chip) (y : Step) → step s c y ≡ Ok d → R c (step_events s n c y) d
  unfolding step step_events
  step_related n c d (Send clocks) h = send_related n c d clocks (effect s c clocks) refl h
  step_related n c d (Poll clocks) h = poll_if_related n c d (bytes_eq clocks poll_clocks) h
  step_related n c d (Verify clocks expect) h = verify_if_related n c d clocks expect (is_verify clocks) h

  go_related : (n : ℕ) (c d : Chip) (y : Step) (ys : List Step) (r : Result Chip Wrong) → step s c y ≡ r
      → ((e : Chip) → run s e ys ≡ Ok d → R e (events_from s (n + 1) e ys) d) → go_on c r (λ e. run s e ys) ≡ Ok d
      → R c (step_events s n c y ++ events_after r (λ e. events_from s (n + 1) e ys)) d
  go_related n c d y ys (Err why) is later h = cc
  go_related n c d y ys (Ok e) is later h =
      join c e d (step_events s n c y) (events_from s (n + 1) e ys) (step_related n c e y is) (later e (later_ok (run s e ys) d h))

  pub run_related : (n : ℕ) (c d : Chip) (steps : List Step) → run s c steps ≡ Ok d → R c (events_from s n c steps) d
  unfolding run events_from
  run_related n c d [] h = let same : c ≡ d = cc in subst (λ e. R c [] e) same (none c)
  run_related n c d (y ∷ ys) h = go_related n c d y ys (step s c y) refl (λ e is. run_related (n + 1) e d ys is) h
