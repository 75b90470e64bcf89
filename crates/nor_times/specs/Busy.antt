-- How long a chip is busy with a plan, in microseconds (JESD216B, FF00h DWORDs 10 and 11; the sums are this project's).
use Rattle.std.specs.Prelude.{ℕ, zero, suc, ◌+◌, ◌-◌, ◌*◌, ◌==◌, ◌&&◌, ◌||◌, Bool, false, min, List, Option, Some, None, find, sum_by, slice_index}
use Rattle.std.specs.Option.{option_map_or}
use Rattle.nor_base.specs.Parameters.{Parameters, erase_kind, is_live}
use Rattle.nor_base.specs.Instructions.{dedicated}
use Rattle.nor_base.specs.Blocks.{kinds}
use Rattle.nor_outline.specs.declared.line.PlanLine.{PlanLine}
use Rattle.nor_outline.specs.declared.line.PlanLine.TheVariants.{Erase, Because, Program}
use Rattle.nor_times.specs.declared.times.Times.{Times}
use Rattle.nor_times.specs.declared.busy.Busy.{Busy}

-- the kind is live, and the opcode is its own: the legacy one or the dedicated one
abbrev pub is_named : Parameters → ℕ → ℕ → Bool
is_named m opcode kind =
    is_live m kind
    && (option_map_or (λ erase. opcode == erase.op) (erase_kind m kind) false || option_map_or (λ op4. opcode == op4) (dedicated m kind) false)

-- an erase by an opcode: the time of the kind that it names
abbrev pub time_of : Times → Parameters → ℕ → ℕ
time_of t m opcode = option_map_or (λ kind. slice_index t.erases (kind - 1)) (find (is_named m opcode) kinds) 0

-- a program of so many bytes: the lesser of a page's time and that of the first byte and each further one
abbrev pub program_time : Times → ℕ → ℕ
program_time t zero = 0
program_time t (suc more) = min t.page (t.first_byte + more * t.further_byte)

-- a line's typical time
abbrev pub typical_of : Times → Parameters → PlanLine → ℕ
typical_of t m (Erase start size opcode) = time_of t m opcode
typical_of t m (Because start cause) = 0
typical_of t m (Program start count) = program_time t count

-- its worst time
abbrev pub worst_of : Times → Parameters → PlanLine → ℕ
worst_of t m (Erase start size opcode) = time_of t m opcode * t.erase_factor
worst_of t m (Because start cause) = 0
worst_of t m (Program start count) = program_time t count * t.program_factor

-- of all lines together
unfoldable pub busy_of : Times → Parameters → List PlanLine → Busy
busy_of t m lines = record { typical = sum_by (typical_of t m) lines; worst = sum_by (worst_of t m) lines }

-- where the chip's tables have its times; else no time is counted
abbrev pub known_busy : Option Times → Parameters → List PlanLine → Busy
known_busy None m lines = record { typical = 0; worst = 0 }
known_busy (Some t) m lines = busy_of t m lines
