-- How long a chip is busy with the units of its work, in microseconds (JESD216B, FF00h DWORDs 10 and 11; the sums are this
-- project's).
use Rattle.std.specs.Prelude.{ℕ, ◌+◌, ◌-◌, ◌*◌, List, length, sum_by, slice_index}
use Rattle.std.specs.Option.{option_map_or}
use Rattle.nor_base.specs.Blocks.{Block}
use Rattle.nor_base.specs.Programs.{Program}
use Rattle.nor_base.specs.Units.{WorkUnit}
use Rattle.nor_times.specs.declared.times.Times.{Times}
use Rattle.nor_times.specs.declared.busy.Busy.{Busy}
use Rattle.nor_times.specs.Busy.{program_time}

-- a block's erase by its kind, a program by its bytes
abbrev pub block_time : Times → Block → ℕ
block_time t b = slice_index t.erases (b.kind - 1)

abbrev pub bytes_time : Times → Program → ℕ
bytes_time t p = program_time t (length p.bytes)

abbrev pub unit_sum : (Block → ℕ) → (Program → ℕ) → WorkUnit → ℕ
unit_sum erase program u = option_map_or erase u.erase 0 + sum_by program u.programs

abbrev pub units_busy : Times → List WorkUnit → Busy
units_busy t us = record {
  typical = sum_by (unit_sum (block_time t) (bytes_time t)) us;
  worst = sum_by (unit_sum (λ b. block_time t b * t.erase_factor) (λ p. bytes_time t p * t.program_factor)) us;
}
