-- Which lines a plan writes (this project's).
use Rattle.std.specs.Prelude.{ℕ, List, flat_map}
use Rattle.nor_base.specs.declared.meaning.Start.{Start}
use Rattle.nor_base.specs.Parameters.{Parameters}
use Rattle.nor_base.specs.Planned.{planned_units}
use Rattle.nor_base.specs.Strategies.{strategy}
use Rattle.nor_job.specs.declared.fault.BuildFault.{BuildFault}
use Rattle.nor_job.specs.declared.fault.BuildFault.TheVariants as fault
use Rattle.nor_outline.specs.Outline.{unit_lines}
use Rattle.nor_outline.specs.Told.{AreLines, AreBegun}
use Rattle.nor_steps.specs.Stretch.{stretch}
use Rattle.norprog.specs.Update.{Update}

-- the lines of the units of the planned work of a content and its target
abbrev pub plan_text : Parameters → Start → List ℕ → List ℕ → List ℕ
plan_text m start content goal = flat_map (unit_lines m (strategy m start) content goal) (planned_units m start content goal)

-- all lines of a beginning of the content; some of them, from their beginning on, where the writer failed or a growth was
-- refused. No address of it is at fault
abbrev pub TellsWindows : Update → List ℕ → BuildFault → Type 0
TellsWindows u bytes fault.Write = AreBegun u.m (strategy u.m u.start) (stretch 0 u.have u.want) bytes
TellsWindows u bytes fault.Memory = AreBegun u.m (strategy u.m u.start) (stretch 0 u.have u.want) bytes
TellsWindows u bytes other = AreLines u.m (strategy u.m u.start) (stretch 0 u.have u.want) bytes
