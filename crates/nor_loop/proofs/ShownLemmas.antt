-- Some chip explains the log of a closed loop.
use Rattle.std.proofs.Common.{◌≡◌, ℕ, ◌==◌, true, false, List, ◌++◌, refl, eq-eqb}
use Rattle.nor_base.specs.declared.meaning.Start.{Start}
use Rattle.nor_base.specs.Parameters.{Parameters}
use Rattle.nor_base.specs.Chip.{Setting, IsChipOf, chip_of, may_page, ready}
use Rattle.nor_base.specs.Strategies.{strategy}
use Rattle.nor_base.specs.Planned.{planned_ops}
use Rattle.nor_plan_laws.specs.Laws.{PlannedDoesTask}
use Rattle.nor_loop.specs.Laws.{LoopIsExplained}
use Rattle.nor_loop.proofs.SomeLemmas.{planned_waited, times_of, run_explained, explains_both}

-- a chip of the meaning, busy for these times
abbrev busy_for : Parameters → Start → List ℕ → Setting
busy_for m start times = chip_of m start times false

its_page : (m : Parameters) → may_page m m.page ≡ true
its_page m = let same : (m.page == m.page) ≡ true = eq-eqb m.page m.page refl in rw same refl

pub loop_is_explained : PlannedDoesTask → LoopIsExplained
loop_is_explained does w c content first again work done one two its whole there =
    let by = done content whole there in
    let s = busy_for w.m w.start (times_of w.steps work its) in
    let is : IsChipOf w.m w.start s = record { its_meaning = refl; its_start = refl; its_page = its_page w.m } in
    let task = does w.m w.start w.verify content (w.goal content) w.steps by.workable by.planned s is in
    let works = run_explained s (ready s content) task.final false _ w.steps work by.planned
    (planned_waited w.m w.start (strategy w.m w.start) (planned_ops w.m w.start w.verify content (w.goal content))) task.good.runs its (refl, refl) in (
      s,
      task.final,
      record {
        is = is;
        content = whole;
        explains = explains_both s (ready s content) (ready s content) task.final first (again ++ work) (one.shows s content is whole there)
            (explains_both s (ready s content) (ready s content) task.final again work (two.shows s content is whole there) works);
      },
    )
