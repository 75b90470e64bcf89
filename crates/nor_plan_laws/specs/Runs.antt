-- Laws of what a run of planned work shows.
use Rattle.std.specs.Prelude.{◌≡◌, ℕ, Bool, true, false, if◌then◌else◌, List, length, is_some}
use Rattle.std.specs.List.{list_any, count_by, sum_by, range_with_len}
use Rattle.std.specs.Option.{option_map_or}
use Rattle.nor_base.specs.declared.meaning.Start.{Start}
use Rattle.nor_base.specs.declared.step.Step.{Step}
use Rattle.nor_base.specs.Parameters.{Parameters}
use Rattle.nor_base.specs.Step.{verifies}
use Rattle.nor_base.specs.Chip.{Setting, IsChipOf, ready}
use Rattle.nor_base.specs.Need.{is_due, is_needed}
use Rattle.nor_base.specs.Planned.{planned_units, ArePlanned, IsWorkable}
use Rattle.nor_base.specs.Events.{events, is_erased_by, times_erased, erases_seen, programs_seen, IsVerified}

-- on every chip a run of planned work erases just the needed area
abbrev pub PlannedErasesNeeded : Type 0
PlannedErasesNeeded = (m : Parameters) (start : Start) (verify : Bool) (have want : List ℕ) (steps : List Step)
    → IsWorkable m start have want → ArePlanned m start verify have want steps → (s : Setting) → IsChipOf m start s → (a : ℕ)
    → is_erased_by s (events s (ready s have) steps) a ≡ is_needed m (is_due m have want) a

-- each needed address once
abbrev pub ErasesOnce : Type 0
ErasesOnce = (m : Parameters) (start : Start) (verify : Bool) (have want : List ℕ) (steps : List Step)
    → IsWorkable m start have want → ArePlanned m start verify have want steps → (s : Setting) → IsChipOf m start s → (a : ℕ)
    → times_erased s (events s (ready s have) steps) a ≡ (if is_needed m (is_due m have want) a then 1 else 0)

-- where it is verified, each address that it erases or programs is read later, against the target
abbrev pub PlannedIsVerified : Type 0
PlannedIsVerified = (m : Parameters) (start : Start) (have want : List ℕ) (steps : List Step) → IsWorkable m start have want
    → ArePlanned m start true have want steps → (s : Setting) → IsChipOf m start s → IsVerified s have want steps

-- else no step verifies, whatever the content and the target
abbrev pub NoneVerifies : Type 0
NoneVerifies = (m : Parameters) (start : Start) (have want : List ℕ) (steps : List Step) → ArePlanned m start false have want steps
    → list_any verifies steps ≡ false

-- on every chip a run of planned work erases as often as units have an erase
abbrev pub ErasesCounted : Type 0
ErasesCounted = (m : Parameters) (start : Start) (verify : Bool) (have want : List ℕ) (steps : List Step)
    → IsWorkable m start have want → ArePlanned m start verify have want steps → (s : Setting) → IsChipOf m start s
    → erases_seen (events s (ready s have) steps) ≡ count_by (λ u. is_some u.erase) (planned_units m start have want)

-- and programs as often as they have programs
abbrev pub ProgramsCounted : Type 0
ProgramsCounted = (m : Parameters) (start : Start) (verify : Bool) (have want : List ℕ) (steps : List Step)
    → IsWorkable m start have want → ArePlanned m start verify have want steps → (s : Setting) → IsChipOf m start s
    → programs_seen (events s (ready s have) steps) ≡ sum_by (λ u. length u.programs) (planned_units m start have want)

-- the units' blocks have as many bytes as addresses are needed
abbrev pub ErasedBytes : Type 0
ErasedBytes = (m : Parameters) (start : Start) (have want : List ℕ) → IsWorkable m start have want
    → sum_by (λ u. option_map_or (λ b. b.size) u.erase 0) (planned_units m start have want)
    ≡ count_by (is_needed m (is_due m have want)) (range_with_len 0 m.size)
