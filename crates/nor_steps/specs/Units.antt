-- The operations of a unit, as they are written (this project's).
use Rattle.std.specs.Prelude.{◌≡◌, ◌⊎◌, ℕ, Bool, false, true, ◌+◌, ◌-◌, ◌/◌, if◌then◌else◌, List, [], ◌∷◌, ◌++◌, length, map, None, Result, Ok, Err, slice_range}
use Rattle.std.specs.Io.KnownBytes.{Appends}
use Rattle.nor_base.specs.Blocks.{Block}
use Rattle.nor_base.specs.Parameters.{Parameters}
use Rattle.nor_base.specs.Programs.{Program, page_programs}
use Rattle.nor_base.specs.Units.{WorkUnit, pages, block_unit}
use Rattle.nor_base.specs.Operations.{Op, erases, writes, reads, unit_ops}
use Rattle.nor_geometry.specs.declared.unit.PlanUnit.{PlanUnit}
use Rattle.nor_geometry.specs.declared.unit.PlanUnit.TheVariants as unit
use Rattle.nor_geometry.specs.Plan.{HasPart}
use Rattle.nor_pages.specs.declared.run.Run.{Run}
use Rattle.nor_pages.specs.Runs.{IsBlank}
use Rattle.nor_steps.specs.declared.tally.Tally.{Tally}
use Rattle.nor_steps.specs.declared.fault.StepsFault.{StepsFault}
use Rattle.nor_steps.specs.Tally.{tally_of, IsFew}
use Rattle.nor_steps.specs.Writing.{Writing, Output, Begins, next_lines, written_on}

-- some of the bytes from a start on, which lie at an address
abbrev pub part_of : ℕ → List ℕ → ℕ → ℕ → Program
part_of start want at count = record { at = at; bytes = slice_range want (at - start) (at - start + count) }

-- the program of a run, or its read
abbrev pub run_op : Bool → ℕ → List ℕ → Run → Op
run_op read start want r = if read then reads (part_of start want r.at r.len) else writes (part_of start want r.at r.len)

abbrev pub run_ops : Bool → ℕ → List ℕ → List Run → List Op
run_ops read start want runs = map (run_op read start want) runs

-- the reads of a block's pages
abbrev pub page_read : ℕ → ℕ → List ℕ → ℕ → Op
page_read start page want at = reads (part_of start want at page)

abbrev pub page_reads : ℕ → ℕ → List ℕ → List Op
page_reads start page want = map (page_read start page want) (pages page start (length want / page))

-- where the work is verified: the reads of a block, and of runs
abbrev pub block_reads : Writing → ℕ → List ℕ → List Op
block_reads w start want = if w.verify then page_reads start w.streaming.meaning.page want else []

abbrev pub run_reads : Writing → ℕ → List ℕ → List Run → List Op
run_reads w start want runs = if w.verify then run_ops true start want runs else []

-- of a block with its runs, and of a page
abbrev pub block_ops : Writing → Block → List Run → List ℕ → List Op
block_ops w b runs want = erases b ∷ (run_ops false b.start want runs ++ block_reads w b.start want)

abbrev pub page_ops : Writing → ℕ → List Run → List ℕ → List Op
page_ops w start runs want = run_ops false start want runs ++ run_reads w start want runs

-- its bytes
abbrev pub unit_size : ℕ → PlanUnit → ℕ
unit_size page (unit.Block b) = b.size
unit_size page (unit.Page start) = page

-- the unit of the work that is planned so, over the content with its erased blocks level, and the target
abbrev pub work_unit : Parameters → List ℕ → List ℕ → PlanUnit → WorkUnit
work_unit m level target (unit.Block b) = block_unit m level target b
work_unit m level target (unit.Page start) = record { erase = None; start = start; size = m.page; programs = page_programs m level target start }

-- the target of the chip has these bytes in the unit; its levelled content has those in a page, and is blank in a block,
-- whatever was held there
abbrev pub HasBytes : PlanUnit → List ℕ → List ℕ → List ℕ → List ℕ → Type 0
HasBytes (unit.Block b) have want level target = IsBlank level b.start b.size × HasPart target want b.start
HasBytes (unit.Page start) have want level target = HasPart level have start × HasPart target want start

-- whatever the rest of the chip holds and must hold: these are the unit's operations
abbrev pub AreUnitOps : Writing → PlanUnit → List ℕ → List ℕ → List Op → Type 0
AreUnitOps w u have want ops =
    (level target : List ℕ) → HasBytes u have want level target → unit_ops w.streaming.meaning w.verify target (work_unit w.streaming.meaning level target u) ≡ ops

-- the steps of operations were written, and what is told of them
pub record Wrote (before after : Output) (units : ℕ) (ops : List Op) (told : Tally) : Type 0 where
  pub put : Appends before.held after.held (next_lines before.work ops)
  pub state : after.work ≡ written_on before.work ops
  pub its_tally : told ≡ tally_of before.work.streaming ops
  pub few : IsFew units told

-- they were, or, at a fault, some of the text from its beginning on
abbrev pub Writes : Output → Output → ℕ → List Op → Result Tally StepsFault → Type 0
Writes before after units ops (Ok told) = Wrote before after units ops told
Writes before after units ops (Err why) = Begins before.held after.held (next_lines before.work ops)

-- a planned unit, what the chip holds there and what it must hold
pub record UnitBytes : Type 0 where
  pub planned : PlanUnit
  pub have : List ℕ
  pub want : List ℕ

abbrev pub unit_bytes : PlanUnit → List ℕ → List ℕ → UnitBytes
unit_bytes planned have want = record { planned = planned; have = have; want = want }

-- so it is of a unit
pub record WroteUnit (before after : Output) (u : UnitBytes) (result : Result Tally StepsFault) : Type 0 where
  pub ops : List Op
  pub are : AreUnitOps before.work u.planned u.have u.want ops
  pub written : Writes before after 1 ops result

-- or, before anything of it was written, a growth was refused
abbrev pub WritesUnit : Output → Output → UnitBytes → Result Tally StepsFault → Type 0
WritesUnit before after u (Ok told) = WroteUnit before after u (Ok told)
WritesUnit before after u (Err why) = WroteUnit before after u (Err why) ⊎ Appends before.held after.held []
