-- Steps that a device did window after window.
use Rattle.std.proofs.Common.{◌≡◌, ℕ, ◌+◌, ◌<◌, List, [], ◌∷◌, ◌++◌, length, get_or, Result, Ok, Err, IfOk, IfErr, refl, sym, ◌∙◌, ap, subst, arith, append-nil, length-append}
use Rattle.std.proofs.lemmas.List.{get_or_append_left, get_or-append-add}
use Rattle.nor_base.specs.Parameters.{Parameters}
use Rattle.nor_base.specs.Step.{expected, step_clocks}
use Rattle.nor_base.specs.Wire.{Wire}
use Rattle.nor_base.specs.declared.step.Step.{Step}
use Rattle.nor_serprog.specs.Done.{HasDoneAll}
use Rattle.nor_serprog.specs.Row.{DoneInParts, HasHalted, HaltInSteps}
use Rattle.nor_serprog.specs.declared.halt.Halt.{Halt}
use Rattle.nor_serprog.specs.declared.limits.Limits.{Limits}
use Rattle.norprog_device.specs.Doing.{Doing, FailedAt, HaltsIn, HasRested, StopsSteps, stop_at}
use Rattle.norprog_device.specs.Reported.{FailsAs, IsFailureAt}
use Rattle.norprog_device.specs.declared.doing.Stop.{Stop}
use Rattle.norprog_device.specs.declared.failure.Failure.{Failure}

-- the step at which a device halted among some is one of all
failure_shifts : (m : Parameters) (front steps rest : List Step) (inner outer : Halt) (why : Failure) → inner.step < length steps → outer.step ≡ length front + inner.step
    → outer.why ≡ inner.why → IsFailureAt m steps inner why → IsFailureAt m (front ++ (steps ++ rest)) outer why
failure_shifts m front steps rest inner outer why inside place same (at, is, fails) = (
  at,
  is ∙ sym (get_or_append_left steps rest at inner.step inside) ∙ sym (get_or-append-add front (steps ++ rest) inner.step at) ∙ ap (λ k. get_or (front ++ (steps ++ rest)) k at) (sym place),
  subst (λ r. FailsAs m (step_clocks at) (expected at) r why) (sym same) fails,
)

halts_within : (before after : Wire) (limits : Limits) (turns : ℕ) (steps : List Step) (halt : Halt) → HasHalted before after limits turns steps halt → halt.step < length steps
halts_within before after limits turns steps halt h =
    let long = ap length h.those ∙ length-append h.done (h.at ∷ (h.beyond ++ h.rest)) in omega (arith, long, h.number)

-- a halt in a window, after the windows before it
pub stops_in : HaltInSteps → (d : Doing) (before mid after : Wire) (all front steps rest : List Step) (done : ℕ) (stop : Stop) → all ≡ front ++ (steps ++ rest) → done ≡ length front
    → HasDoneAll before mid d.limits d.turns front → (halts : HaltsIn d mid after steps) × (stop ≡ stop_at (done + halts.halt.step) halts.why) → StopsSteps d before after all stop
stops_in law d before mid after all front steps rest done stop those count did (halts, is) =
    let outer : Halt = record { step = done + halts.halt.step; why = halts.halt.why } in
    let place : outer.step ≡ length front + halts.halt.step = ap (λ n. n + halts.halt.step) count in
    subst (StopsSteps d before after all) (sym is)
    (subst (λ (l : List Step). StopsSteps d before after l (stop_at outer.step halts.why)) (sym those)
    (FailedAt (record {
      halt = outer;
      why = halts.why;
      halted = law before.held mid.held after.held before.ahead mid.ahead after.ahead d.limits d.turns front steps rest halts.halt outer did halts.halted place refl;
      failed = failure_shifts d.m front steps rest halts.halt outer halts.why (halts_within mid after d.limits d.turns steps halts.halt halts.halted) place refl halts.failed;
    })))

-- or nothing more was asked after them
pub rests : (d : Doing) (before now : Wire) (all front ahead last : List Step) (done : ℕ) → all ≡ front ++ (ahead ++ last) → done ≡ length front → 0 < length ahead
    → HasDoneAll before now d.limits d.turns front → HasRested d before now all done
rests d before now all front [] last done those count some did = absurd (omega (arith, some))
rests d before now all front (x ∷ more) last done those count some did = record { front = front; next = x; rest = more ++ last; those = those; number = count; done = did }

-- or the last window was done, too
pub done_last : DoneInParts → (d : Doing) (before mid after : Wire) (all front last : List Step) (r : Result (Unit {0}) Stop) → all ≡ front ++ last
    → HasDoneAll before mid d.limits d.turns front → IfOk r (λ _. HasDoneAll mid after d.limits d.turns last) → IfOk r (λ _. HasDoneAll before after d.limits d.turns all)
done_last law d before mid after all front last (Ok u) those did more =
    subst (HasDoneAll before after d.limits d.turns) (sym those)
    (law before.held mid.held after.held before.ahead mid.ahead after.ahead d.limits d.turns front last did more)
done_last law d before mid after all front last (Err why) those did more = tt

-- or the device halted in that
pub stops_last : HaltInSteps → (d : Doing) (before mid after : Wire) (all front last : List Step) (done : ℕ) (r : Result (Unit {0}) Stop) → all ≡ front ++ last → done ≡ length front
    → HasDoneAll before mid d.limits d.turns front → IfErr r (λ stop. (halts : HaltsIn d mid after last) × (stop ≡ stop_at (done + halts.halt.step) halts.why))
    → IfErr r (StopsSteps d before after all)
stops_last law d before mid after all front last done (Ok u) those count did stops = tt
stops_last law d before mid after all front last done (Err stop) those count did stops =
    stops_in law d before mid after all front last [] done stop (those ∙ ap (λ (l : List Step). front ++ l) (sym (append-nil last))) count did stops
