-- What a plan does to the cells of a chip (this project's).
use Rattle.std.specs.Prelude.{◌≡◌, ℕ, ◌<◌, ◌≤◌, ◌+◌, ◌/◌, Bool, true, false, ◌&&◌, ◌||◌, nat_le, nat_lt, min, if◌then◌else◌, List, length, map, get_or, count_by}
use Rattle.std.specs.Int.{div_ceil}
use Rattle.std.specs.List.{range_with_len}
use Rattle.nor_outline.specs.declared.line.PlanLine.{PlanLine}
use Rattle.nor_outline.specs.declared.line.PlanLine.TheVariants.{Erase, Because, Program}
use Rattle.nor_map.specs.declared.cells.Work.TheVariants as work
use Rattle.nor_map.specs.declared.state.State.{State}
use Rattle.nor_map.specs.declared.state.State.TheVariants.{Kept, Erased, Restored, Changed}
use Rattle.nor_map.specs.Cells.{Wanted, cell_size, is_worked, new_in, some_byte, some_bytes}

-- what a line of a plan does
abbrev pub erases : PlanLine → Bool
erases (Erase start size opcode) = true
erases (Because start cause) = false
erases (Program start count) = false

abbrev pub programs : PlanLine → Bool
programs (Erase start size opcode) = false
programs (Because start cause) = false
programs (Program start count) = true

-- the bytes of a chip and of a cell, what the chip is to hold, of each cell whether some byte of it is erased, programmed, and how many
-- are new, and how many lines erase, and program
pub record Marks : Type 0 where
  pub size : ℕ
  pub cell : ℕ
  pub wanted : Wanted
  pub erased : List Bool
  pub programmed : List Bool
  pub fresh : List ℕ
  pub blocks : ℕ
  pub programs : ℕ

-- what a plan of these lines does to a chip of this size and page that is to hold this
unfoldable pub marks_of : ℕ → ℕ → Wanted → List PlanLine → Marks
marks_of size page wanted lines =
    let cell = cell_size size page in
    let count = div_ceil size cell in
    record {
      size = size;
      cell = cell;
      wanted = wanted;
      erased = some_bytes cell count (is_worked work.Erased lines);
      programmed = some_bytes cell count (is_worked work.Programmed lines);
      fresh = map (new_in cell wanted lines) (range_with_len 0 count);
      blocks = count_by erases lines;
      programs = count_by programs lines;
    }

-- a cell by what is so of some byte of it: the first of changed, restored and erased that holds, else it is kept
abbrev pub state_of : Bool → Bool → Bool → State
state_of erased programmed new =
    if new then Changed else if programmed then Restored else if erased then Erased else Kept

-- the state of a cell, counted from 0
abbrev pub state_at : Marks → ℕ → State
state_at m c = state_of (get_or m.erased c false) (get_or m.programmed c false) (nat_lt 0 (get_or m.fresh c 0))

abbrev pub is_state : State → State → Bool
is_state Kept Kept = true
is_state Erased Erased = true
is_state Restored Restored = true
is_state Changed Changed = true
is_state s t = false

-- what holds of all marks
pub record IsMarks (size cell : ℕ) (erased programmed : List Bool) (fresh : List ℕ) : Type 0 where
  pub some_cell : 0 < cell
  pub erased_each : length erased ≡ div_ceil size cell
  pub programmed_each : length programmed ≡ div_ceil size cell
  pub fresh_each : length fresh ≡ div_ceil size cell

-- a cell of so many bytes holds some of the addresses from the first to the last
abbrev pub touches : ℕ → ℕ × ℕ → ℕ → Bool
touches cell run c = nat_le (run.0 / cell) c && nat_le c (run.1 / cell)

-- the cells of which some byte is so are marked, and the others are as they were
pub record MarkedBy (cell : ℕ) (test : ℕ → Bool) (old new : List Bool) : Type 0 where
  pub same_length : length new ≡ length old
  pub each : (c : ℕ) → c < length old → get_or new c false ≡ (get_or old c false || some_byte cell test c)

-- to each cell, which had at most all of its bytes, were added as many as this, at most up to all
pub record CountedBy (cell : ℕ) (bytes : ℕ → ℕ) (old new : List ℕ) : Type 0 where
  pub same_length : length new ≡ length old
  pub each : (c : ℕ) → c < length old → get_or old c 0 ≤ cell → get_or new c 0 ≡ min cell (get_or old c 0 + bytes c)
