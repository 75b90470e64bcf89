-- Steps that are unpacked and done window after window.
use Rattle.std.proofs.Common.{◌≡◌, ◌≢◌, ◌-◌, ◌<◌, Bool, true, false, List, [], ◌∷◌, ◌++◌, length, refl, ◌∙◌, ap, arith, length-append}
use Rattle.nor_base.specs.Array.{is_filled}
use Rattle.nor_base.specs.Wire.{Wire}
use Rattle.nor_base.specs.declared.step.Step.{Step}
use Rattle.nor_serprog.specs.Steps.{AreCarried}
use Rattle.norprog_device.proofs.CarriedLemmas.{never_carried}
use Rattle.norprog_device.specs.Doing.{Doing, FailedAt, Starved, StopsSteps}
use Rattle.norprog_device.specs.declared.doing.Stop.{Stop}
use Rattle.norprog_device.specs.declared.failure.Failure.TheVariants.{Carried}

-- where no more are ahead none is
pub none_ahead : (ahead : List Step) (more : Bool) → more ≡ is_filled ahead → more ≡ false → ahead ≡ []
none_ahead [] more is none = refl
none_ahead (x ∷ xs) more is none = cc

-- and where more are some are
pub some_ahead : (ahead : List Step) (more : Bool) → more ≡ is_filled ahead → more ≡ true → 0 < length ahead
some_ahead [] more is some = cc
some_ahead (x ∷ xs) more is some = omega arith

-- the steps before a window, it, and those after it
pub one_more : (all front ahead window later : List Step) → all ≡ front ++ ahead → ahead ≡ window ++ later → all ≡ front ++ (window ++ later)
one_more all front ahead window later whole next = whole ∙ ap (λ (l : List Step). front ++ l) next

-- how many come before those that are ahead
pub place_of : (all front ahead : List Step) → all ≡ front ++ ahead → length all - length ahead ≡ length front
place_of all front ahead whole = let long = ap length whole ∙ length-append front ahead in omega (arith, long)

-- of steps that are operations none stops as none
pub never_stops : (d : Doing) (before after : Wire) (steps : List Step) (stop : Stop) → AreCarried d.limits steps → StopsSteps d before after steps stop → stop.why ≢ Carried
never_stops d before after steps stop carried (FailedAt halts) = never_carried d.m d.limits d.turns before after steps halts.halt halts.why carried halts.halted halts.failed
never_stops d before after steps stop carried (Starved step rested) = λ is. cc
