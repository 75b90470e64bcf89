-- The cells of a chip's map, and what the lines of a plan do to each (this project's).
use Rattle.std.specs.Prelude.{ℕ, zero, suc, ◌+◌, ◌-◌, ◌*◌, ◌^◌, Bool, false, ◌&&◌, ◌==◌, nat_le, nat_lt, max, min, if◌then◌else◌, Option, Some, None, is_some, List, map, count_by, sum_by}
use Rattle.std.specs.List.{list_any, range_with_len}
use Rattle.std.specs.Option.{option_map_or}
use Rattle.nor_hex.specs.Image.{Pairs, byte_at}
use Rattle.nor_layout.specs.Chosen.{has}
use Rattle.nor_layout.specs.declared.chosen.Interval.{Interval}
use Rattle.nor_outline.specs.declared.line.PlanLine.{PlanLine}
use Rattle.nor_outline.specs.declared.line.PlanLine.TheVariants.{Erase, Because, Program}
use Rattle.nor_map.specs.declared.cells.Work.{Work}
use Rattle.nor_map.specs.declared.cells.Work.TheVariants.{Erased, Programmed}

-- this address is one of those from the first to the last, both included
abbrev pub lies_in : ℕ × ℕ → ℕ → Bool
lies_in run a = nat_le run.0 a && nat_le a run.1

-- so many bytes from an address on, by their first and last address; no bytes have none
abbrev pub bytes_from : ℕ → ℕ → Option (ℕ × ℕ)
bytes_from start count = if count == 0 then None else Some (start, start + (count - 1))

-- the bytes that a line of a plan says are erased, or programmed
abbrev pub run_of : Work → PlanLine → Option (ℕ × ℕ)
run_of Erased (Erase start size opcode) = bytes_from start size
run_of Erased (Because start cause) = None
run_of Erased (Program start count) = None
run_of Programmed (Erase start size opcode) = None
run_of Programmed (Because start cause) = None
run_of Programmed (Program start count) = bytes_from start count

-- the line erases, or programs, the byte at this address
abbrev pub works : Work → PlanLine → ℕ → Bool
works work line a = option_map_or (λ run. lies_in run a) (run_of work line) false

-- the plan erases, or programs, the byte at this address
abbrev pub is_worked : Work → List PlanLine → ℕ → Bool
is_worked work lines a = list_any (λ line. works work line a) lines

-- what a chip is to hold: the image's byte at `base` and the address, at each chosen address
pub record Wanted : Type 0 where
  pub image : Pairs
  pub base : ℕ
  pub chosen : Option (List Interval)

-- the image gives the byte at this address, and it is chosen
abbrev pub is_new : Wanted → ℕ → Bool
is_new w a = nat_lt (w.base + a) (2 ^ 32) && (has w.chosen a && is_some (byte_at w.image (w.base + a)))

-- some byte of this cell is so, of cells of so many bytes
abbrev pub some_byte : ℕ → (ℕ → Bool) → ℕ → Bool
some_byte cell test c = list_any test (range_with_len (c * cell) cell)

-- how many bytes of this cell are so
abbrev pub bytes_so : ℕ → (ℕ → Bool) → ℕ → ℕ
bytes_so cell test c = count_by test (range_with_len (c * cell) cell)

-- of each of so many cells whether some byte of it is so
abbrev pub some_bytes : ℕ → ℕ → (ℕ → Bool) → List Bool
some_bytes cell count test = map (some_byte cell test) (range_with_len 0 count)

-- how many new bytes of a cell the lines program: a byte counts once for each line, and at most as many as the cell has
abbrev pub new_bytes : ℕ → Wanted → List PlanLine → ℕ → ℕ
new_bytes cell wanted lines c = sum_by (λ line. bytes_so cell (λ a. works Programmed line a && is_new wanted a) c) lines

abbrev pub new_in : ℕ → Wanted → List PlanLine → ℕ → ℕ
new_in cell wanted lines c = min cell (new_bytes cell wanted lines c)

-- a size doubled, at most so often, until at most 65,536 cells of it hold the chip
unfoldable pub doubled : ℕ → ℕ → ℕ → ℕ
doubled zero cell size = cell
doubled (suc more) cell size = if nat_le size (65536 * cell) then cell else doubled more (2 * cell) size

-- the bytes of a cell: the page, doubled until at most 65,536 cells hold the chip
abbrev pub cell_size : ℕ → ℕ → ℕ
cell_size size page = doubled 16 (max page 1) size
