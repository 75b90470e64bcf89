-- Why steps were not written, and which device's count of failures rose.
use Rattle.std.specs.Prelude.{◌≡◌, ⊤, ℕ, Result, Ok, Err}
use Rattle.nor_base.specs.Device.{raised}
use Rattle.nor_geometry.specs.declared.fault.PlanFault.{PlanFault}
use Rattle.nor_geometry.specs.declared.fault.PlanFault.TheVariants as plan
use Rattle.nor_steps.specs.declared.fault.StepsFault.{StepsFault}
use Rattle.nor_steps.specs.declared.fault.StepsFault.TheVariants as fault

abbrev pub lifted_plan : PlanFault → StepsFault
lifted_plan plan.Memory = fault.Memory
lifted_plan why = fault.Plan why

abbrev pub of_writer : StepsFault → ℕ
of_writer fault.Write = 1
of_writer other = 0

-- the writer's count of failures rises by one exactly where Write is answered
abbrev pub CountsSteps : {T : Type 0} → ℕ → ℕ → Result T StepsFault → Type 0
CountsSteps before after (Ok x) = after ≡ before
CountsSteps before after (Err why) = after ≡ raised before (of_writer why)

-- what writing alone can meet
abbrev pub IsOfWriting : StepsFault → Type 0
IsOfWriting fault.Write = ⊤
IsOfWriting fault.Memory = ⊤
IsOfWriting other = ⊥
