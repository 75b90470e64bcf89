-- Laws of work on a device (this project's).
use Rattle.std.specs.Prelude.{◌≡◌, ◌⊎◌, ◌<◌, ℕ, Bool, false, List, [], ◌∷◌, ◌++◌, All, length, Option}
use Rattle.nor_base.specs.declared.meaning.Start.{Start}
use Rattle.nor_base.specs.declared.step.Step.{Step}
use Rattle.nor_base.specs.Device.{Ahead}
use Rattle.nor_base.specs.Parameters.{Parameters}
use Rattle.nor_base.specs.Planned.{ArePlanned, IsWorkable}
use Rattle.nor_base.specs.Step.{step_clocks}
use Rattle.nor_base.specs.Wire.{wire}
use Rattle.nor_serprog.specs.declared.halt.Halt.{Halt}
use Rattle.nor_serprog.specs.declared.limits.Limits.{Limits}
use Rattle.nor_serprog.specs.Done.{IsDoable, HasDoneAll}
use Rattle.nor_serprog.specs.Carried.{operation_clocks}
use Rattle.nor_serprog.specs.Row.{HasHalted}
use Rattle.nor_serprog.specs.Steps.{IsFirstNotCarried}
use Rattle.nor_loop.specs.Laws.{ReadTwice}
use Rattle.nor_flasher.specs.Apart.{given, BreaksApart, ChipRead, ClosesApart}
use Rattle.nor_flasher.specs.Within.{IsPlannedWithin}

-- a device read a chip twice, from one address up to another, and later did work on it that is planned for the content
abbrev pub Closes : Type 0
Closes = (h0 h1 h2 h3 : Option (List ℕ)) (a0 a1 a2 a3 : Ahead) (limits : Limits) (turns : ℕ) (c : ChipRead) (goal : List ℕ → List ℕ)
    (steps : List Step) → IsPlannedWithin c goal steps → ReadTwice (wire h0 a0) (wire h1 a1) c.m c.start (given c)
    → HasDoneAll (wire h2 a2) (wire h3 a3) limits turns steps
    → ClosesApart (wire h0 a0) (wire h1 a1) (wire h2 a2) (wire h3 a3) c goal steps

-- or it halted in that work, which was planned for one lane
abbrev pub Breaks : Type 0
Breaks = (h0 h1 h2 h3 : Option (List ℕ)) (a0 a1 a2 a3 : Ahead) (limits : Limits) (turns : ℕ) (c : ChipRead) (goal : List ℕ → List ℕ)
    (steps : List Step) (halt : Halt) → c.start.quad ≡ false → IsPlannedWithin c goal steps
    → ReadTwice (wire h0 a0) (wire h1 a1) c.m c.start (given c) → (halted : HasHalted (wire h2 a2) (wire h3 a3) limits turns steps halt)
    → BreaksApart (wire h0 a0) (wire h1 a1) (wire h2 a2) c goal steps halt.step (halted.at ∷ halted.beyond)

-- or it did the steps before one of that work, and nothing more was asked of it
abbrev pub Rests : Type 0
Rests = (h0 h1 h2 h3 : Option (List ℕ)) (a0 a1 a2 a3 : Ahead) (limits : Limits) (turns : ℕ) (c : ChipRead) (goal : List ℕ → List ℕ)
    (front : List Step) (x : Step) (rest : List Step) → c.start.quad ≡ false → IsPlannedWithin c goal (front ++ (x ∷ rest))
    → ReadTwice (wire h0 a0) (wire h1 a1) c.m c.start (given c) → HasDoneAll (wire h2 a2) (wire h3 a3) limits turns front
    → BreaksApart (wire h0 a0) (wire h1 a1) (wire h2 a2) c goal (front ++ (x ∷ rest)) (length front) (x ∷ [])

-- each step of planned work can be handed to a device
abbrev pub PlannedIsDoable : Type 0
PlannedIsDoable = (m : Parameters) (start : Start) (verify : Bool) (have want : List ℕ) (steps : List Step)
    → ArePlanned m start verify have want steps → All IsDoable steps

-- the clocks of a step are one operation of a device, but of more bytes than this one can send or take
pub record IsTooLong (limits : Limits) (x : Step) : Type 0 where
  pub sent : List ℕ
  pub asked : ℕ
  pub spelled : step_clocks x ≡ operation_clocks sent asked
  pub much : (limits.sent < length sent) ⊎ (limits.asked < asked)

-- where work is planned without the quad setting, a device can't do a step only where the step is too long for it
abbrev pub RefusedForLength : Type 0
RefusedForLength = (limits : Limits) (m : Parameters) (start : Start) (verify : Bool) (have want : List ℕ) (steps : List Step) (at : ℕ)
    → IsWorkable m start have want → start.quad ≡ false → ArePlanned m start verify have want steps
    → (refused : IsFirstNotCarried limits steps at) → IsTooLong limits refused.first
