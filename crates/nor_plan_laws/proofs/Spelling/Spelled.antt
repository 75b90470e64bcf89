-- There are steps that are the planned work, and no others are.
use Rattle.std.proofs.Common.{◌≡◌, Bool, List, [], ◌∷◌, refl, sym, ◌∙◌, ap}
use Rattle.nor_base.specs.declared.instruction.What.{What}
use Rattle.nor_base.specs.declared.instruction.What.TheVariants as what
use Rattle.nor_base.specs.declared.step.Step.{Step}
use Rattle.nor_base.specs.declared.step.Step.TheVariants.{Send, Poll, Verify}
use Rattle.nor_base.specs.Parameters.{Parameters}
use Rattle.nor_base.specs.Chip.{begins4}
use Rattle.nor_base.specs.Run.{poll_clocks}
use Rattle.nor_base.specs.Spelling.{Instr, Spells, IsSentBy, IsReadBy, IsStepBy, AreStepsOf, mode_after}
use Rattle.nor_base.specs.Clocks.{clocks_of, HasRow, CanAllBeSpelled}
use Rattle.nor_laws.specs.Laws.{RowFound}
use Rattle.nor_laws.specs.Spelling.{HasSpelling, SameSpelling}
use Rattle.nor_plan_laws.specs.Exists.{PlannedCanBeSpelled, ThereIsPlannedWork, OnePlannedWork}
use Rattle.nor_plan_laws.proofs.Spelling.Driven.{lowered_spelled}
use Rattle.nor_plan_laws.proofs.Spelling.Sent.{planned_done}

pub planned_spelled : RowFound → PlannedCanBeSpelled
planned_spelled found m start verify have want w = lowered_spelled found m start _ w.accepted (planned_done m start verify have want w)

-- the step of an instruction, by its clocks
abbrev sent_step : Instr → Step
sent_step i = Send (clocks_of i)

abbrev read_step : Instr → Step
read_step i = Verify (clocks_of i) i.bytes

record HasStep (m : Parameters) (mode4 : Bool) (i : Instr) (is : What) : Type 0 where
  its : Step
  by : IsStepBy m mode4 i is its

sent_has : (m : Parameters) (mode4 : Bool) (i : Instr) → Spells m mode4 i (clocks_of i) → IsSentBy m mode4 i (sent_step i)
sent_has m mode4 i spelled = record { clocks = clocks_of i; spelled = spelled; sent = refl }

read_has : (m : Parameters) (mode4 : Bool) (i : Instr) → Spells m mode4 i (clocks_of i) → IsReadBy m mode4 i (read_step i)
read_has m mode4 i spelled = record { clocks = clocks_of i; spelled = spelled; read = refl }

has_step : (m : Parameters) (mode4 : Bool) (i : Instr) (is : What) → Spells m mode4 i (clocks_of i) → HasStep m mode4 i is
has_step m mode4 i what.Enable s = record { its = sent_step i; by = sent_has m mode4 i s }
has_step m mode4 i what.Disable s = record { its = sent_step i; by = sent_has m mode4 i s }
has_step m mode4 i what.Status s = record { its = Poll poll_clocks; by = refl }
has_step m mode4 i what.Enter s = record { its = sent_step i; by = sent_has m mode4 i s }
has_step m mode4 i what.Leave s = record { its = sent_step i; by = sent_has m mode4 i s }
has_step m mode4 i (what.Erase kind) s = record { its = sent_step i; by = sent_has m mode4 i s }
has_step m mode4 i what.Program s = record { its = sent_step i; by = sent_has m mode4 i s }
has_step m mode4 i what.QuadProgram s = record { its = sent_step i; by = sent_has m mode4 i s }
has_step m mode4 i what.Read s = record { its = read_step i; by = read_has m mode4 i s }
has_step m mode4 i what.QuadRead s = record { its = read_step i; by = read_has m mode4 i s }
has_step m mode4 i what.Broken s = record { its = sent_step i; by = sent_has m mode4 i s }

have_steps : HasSpelling → (m : Parameters) (mode4 : Bool) (these : List Instr) → CanAllBeSpelled m mode4 these → (steps : List Step) × AreStepsOf m mode4 these steps
have_steps law m mode4 [] can = ([], tt)
have_steps law m mode4 (i ∷ these) can =
    let first = has_step m mode4 i i.what (law m mode4 i can.0.row can.0.fits) in
    let rest = have_steps law m (mode_after i.what mode4) these can.1 in
    (first.its ∷ rest.0, (first.by, rest.1))

pub there_is : RowFound → HasSpelling → ThereIsPlannedWork
there_is found law m start verify have want w = have_steps law m (begins4 m start) _ (planned_spelled found m start verify have want w)

-- an instruction has one step
one_sent : SameSpelling → (m : Parameters) (mode4 : Bool) (i : Instr) (x y : Step) → HasRow m mode4 i → IsSentBy m mode4 i x → IsSentBy m mode4 i y → x ≡ y
one_sent law m mode4 i x y row first second =
    first.sent ∙ ap Send (law m mode4 i first.clocks second.clocks row first.spelled second.spelled) ∙ sym second.sent

one_read : SameSpelling → (m : Parameters) (mode4 : Bool) (i : Instr) (x y : Step) → HasRow m mode4 i → IsReadBy m mode4 i x → IsReadBy m mode4 i y → x ≡ y
one_read law m mode4 i x y row first second =
    first.read ∙ ap (λ clocks. Verify clocks i.bytes) (law m mode4 i first.clocks second.clocks row first.spelled second.spelled) ∙ sym second.read

one_step : SameSpelling → (m : Parameters) (mode4 : Bool) (i : Instr) (is : What) (x y : Step) → HasRow m mode4 i → IsStepBy m mode4 i is x → IsStepBy m mode4 i is y → x ≡ y
one_step law m mode4 i what.Enable x y row first second = one_sent law m mode4 i x y row first second
one_step law m mode4 i what.Disable x y row first second = one_sent law m mode4 i x y row first second
one_step law m mode4 i what.Status x y row first second = first ∙ sym second
one_step law m mode4 i what.Enter x y row first second = one_sent law m mode4 i x y row first second
one_step law m mode4 i what.Leave x y row first second = one_sent law m mode4 i x y row first second
one_step law m mode4 i (what.Erase kind) x y row first second = one_sent law m mode4 i x y row first second
one_step law m mode4 i what.Program x y row first second = one_sent law m mode4 i x y row first second
one_step law m mode4 i what.QuadProgram x y row first second = one_sent law m mode4 i x y row first second
one_step law m mode4 i what.Read x y row first second = one_read law m mode4 i x y row first second
one_step law m mode4 i what.QuadRead x y row first second = one_read law m mode4 i x y row first second
one_step law m mode4 i what.Broken x y row first second = one_sent law m mode4 i x y row first second

one_list : SameSpelling → (m : Parameters) (mode4 : Bool) (these : List Instr) (xs ys : List Step) → CanAllBeSpelled m mode4 these
    → AreStepsOf m mode4 these xs → AreStepsOf m mode4 these ys → xs ≡ ys
one_list law m mode4 [] [] [] can first second = refl
one_list law m mode4 [] [] (y ∷ ys) can first second = absurd second
one_list law m mode4 [] (x ∷ xs) ys can first second = absurd first
one_list law m mode4 (i ∷ these) [] ys can first second = absurd first
one_list law m mode4 (i ∷ these) (x ∷ xs) [] can first second = absurd second
one_list law m mode4 (i ∷ these) (x ∷ xs) (y ∷ ys) can first second =
    let head = one_step law m mode4 i i.what x y can.0.row first.0 second.0 in
    let tail = one_list law m (mode_after i.what mode4) these xs ys can.1 first.1 second.1 in
    cc

pub one_work : RowFound → SameSpelling → OnePlannedWork
one_work found law m start verify have want xs ys w first second =
    one_list law m (begins4 m start) _ xs ys (planned_spelled found m start verify have want w) first second
