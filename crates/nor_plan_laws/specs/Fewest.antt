-- That no script has fewer programs, and of those that erase just the needed area none fewer erases.
use Rattle.std.specs.Prelude.{◌≡◌, ℕ, Bool, true, false, ◌<◌, ◌≤◌, List, [], ◌∷◌, ◌++◌, length, replicate, slice_index, Some, is_some}
use Rattle.std.specs.List.{AllByRecursion, count_by, sum_by}
use Rattle.nor_base.specs.declared.instruction.What.TheVariants as what
use Rattle.nor_base.specs.declared.meaning.Strategy.{Strategy}
use Rattle.nor_base.specs.Decoding.{Instruction}
use Rattle.nor_base.specs.Strategies.{strategy, reaches}
use Rattle.nor_base.specs.Need.{is_due, is_needed}
use Rattle.nor_base.specs.declared.meaning.Start.{Start}
use Rattle.nor_base.specs.declared.step.Step.{Step}
use Rattle.nor_base.specs.Parameters.{Parameters}
use Rattle.nor_base.specs.Chip.{Setting, IsChipOf, chip_of, ready}
use Rattle.nor_base.specs.Effect.{is_barred, programmed}
use Rattle.nor_base.specs.Run.{DoesTask, DoesTaskOnEvery}
use Rattle.nor_base.specs.Programs.{page_programs}
use Rattle.nor_base.specs.Uniform.{uniform_of}
use Rattle.nor_base.specs.Events.{Event, events, is_erased_by, erases_seen, programs_seen}
use Rattle.nor_base.specs.Planned.{planned_units, IsWorkable}

-- without the profile of erased bytes, on a chip with the meaning's own page: a run that does the task, of any steps, has at
-- least as many programs as the planned work
abbrev pub NoScriptProgramsLess : Type 0
NoScriptProgramsLess = (m : Parameters) (start : Start) (s : Setting) (have want : List ℕ) (steps : List Step) → IsWorkable m start have want
    → ((a : ℕ) → slice_index have a < 256) → m.erased_only ≡ false → IsChipOf m start s → s.page ≡ m.page → DoesTask s have want steps
    → sum_by (λ u. length u.programs) (planned_units m start have want) ≤ programs_seen (events s (ready s have) steps)

-- each erase that was seen is one of a kind that the strategy has an erase of there
abbrev pub IsReachedSeen : Parameters → Strategy → Event → Type 0
IsReachedSeen m by e = (i : Instruction) (kind : ℕ) → e.seen ≡ Some i → i.what ≡ what.Erase kind → reaches by m kind i.address ≡ true

-- a run that does the task, of any steps on any chip, and erases nothing but the needed area, by erases that the strategy has, has
-- at least as many erases as the planned work
abbrev pub NoScriptHasFewerErases : Type 0
NoScriptHasFewerErases = (m : Parameters) (start : Start) (s : Setting) (have want : List ℕ) (steps : List Step) → IsWorkable m start have want
    → IsChipOf m start s → DoesTask s have want steps
    → ((a : ℕ) → is_erased_by s (events s (ready s have) steps) a ≡ true → is_needed m (is_due m have want) a ≡ true)
    → AllByRecursion (IsReachedSeen m (strategy m start)) (events s (ready s have) steps)
    → count_by (λ u. is_some u.erase) (planned_units m start have want) ≤ erases_seen (events s (ready s have) steps)

-- a script that does the task on every chip has at least as many programs on each that has the meaning's own page
abbrev pub NoneOnEveryChip : Type 0
NoneOnEveryChip = (m : Parameters) (start : Start) (have want : List ℕ) (steps : List Step) (busy : List ℕ) (keeps : Bool) → IsWorkable m start have want
    → ((a : ℕ) → slice_index have a < 256) → m.erased_only ≡ false → DoesTaskOnEvery m start have want steps
    → sum_by (λ u. length u.programs) (planned_units m start have want)
    ≤ programs_seen (events (chip_of m start busy keeps) (ready (chip_of m start busy keeps) have) steps)

-- under the profile of erased bytes it isn't so: of a page of 16 bytes, of which only the first and the last are FFh and must become
-- 00h, the planned work programs each by itself, and one program from the last on goes round to the first
abbrev pub wrapped_chip : Parameters
wrapped_chip = record (uniform_of 8192) { page = 16; erased_only = true }

abbrev pub ends_with : ℕ → List ℕ
ends_with end = end ∷ (replicate 14 0x12 ++ end ∷ [])

pub record OneServesTwo : Type 0 where
  pub planned : length (page_programs wrapped_chip (ends_with 255) (ends_with 0) 0) ≡ 2
  pub free : is_barred wrapped_chip 16 15 (0 ∷ 0 ∷ []) (ends_with 255) ≡ false
  pub done : programmed 16 15 (0 ∷ 0 ∷ []) (ends_with 255) ≡ ends_with 0
