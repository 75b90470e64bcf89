-- What the times of a plan's lines are to its work and its script.
use Rattle.std.specs.Prelude.{◌≡◌, ℕ, Bool, true, List, find, flat_map, Some}
use Rattle.nor_base.specs.declared.meaning.Start.{Start}
use Rattle.nor_base.specs.declared.meaning.Strategy.{Strategy}
use Rattle.nor_base.specs.Parameters.{Parameters}
use Rattle.nor_base.specs.Accepted.{IsAccepted}
use Rattle.nor_base.specs.Blocks.{Block, IsLegalBlock, kinds}
use Rattle.nor_base.specs.Operations.{erasing}
use Rattle.nor_base.specs.Planned.{IsWorkable, planned, planned_units}
use Rattle.nor_base.specs.Strategies.{strategy, reaches}
use Rattle.nor_outline.specs.Outline.{unit_lines, plan_of}
use Rattle.nor_outline.specs.Lines.{lines_text}
use Rattle.nor_steps.specs.Lines.{steps_of}
use Rattle.nor_times.specs.declared.times.Times.{Times}
use Rattle.nor_times.specs.Busy.{is_named, busy_of}
use Rattle.nor_times.specs.UnitTimes.{units_busy}
use Rattle.nor_times.specs.Bus.{bus_of, steps_clocks}

-- the clocks that the lines of a plan give are those of the steps of its instructions, each poll once
abbrev pub BusIsOfScript : Type 0
BusIsOfScript = (m : Parameters) (start : Start) (verify : Bool) (have want : List ℕ) → IsWorkable m start have want
    → bus_of m start verify (plan_of m start have want) ≡ steps_clocks (steps_of (planned m start verify have want))

-- the text of a plan, unit after unit, is that of its lines
abbrev pub PlanIsText : Type 0
PlanIsText = (m : Parameters) (start : Start) (have want : List ℕ)
    → flat_map (unit_lines m (strategy m start) have want) (planned_units m start have want) ≡ lines_text (plan_of m start have want)

-- the opcode that erases a block names the block's kind, and no other
abbrev pub ErasesAreNamed : Type 0
ErasesAreNamed = (m : Parameters) (by : Strategy) (b : Block) → IsAccepted m → IsLegalBlock m b → reaches by m b.kind b.start ≡ true
    → find (is_named m (erasing m by b).op) kinds ≡ Some b.kind

-- so the busy time that the lines of a plan give is that of its units: of each erase by its block's kind, and of each program
abbrev pub BusyIsOfUnits : Type 0
BusyIsOfUnits = (t : Times) (m : Parameters) (start : Start) (have want : List ℕ) → IsWorkable m start have want
    → busy_of t m (plan_of m start have want) ≡ units_busy t (planned_units m start have want)
