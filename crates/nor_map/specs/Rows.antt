-- The rows of a map as they are drawn: rows in which nothing is done are one line (this project's).
use Rattle.std.specs.Prelude.{◌≡◌, ℕ, ◌<◌, ◌≤◌, ◌+◌, ◌*◌, ◌/◌, ◌^◌, Bool, false, not, ◌&&◌, nat_le, nat_lt, min, max, if◌then◌else◌, List, length, map, sum, get_or}
use Rattle.std.specs.Int.{div_ceil}
use Rattle.std.specs.List.{list_any, range_with_len, slice_range}
use Rattle.nor_map.specs.declared.state.State.TheVariants.{Kept}
use Rattle.nor_map.specs.Marks.{Marks, is_state, state_at}

-- of each cell whether something is done to it, and whether a region begins there or ended just before it
pub record Cells : Type 0 where
  pub busy : List Bool
  pub edges : List Bool

pub record AreCells (busy edges : List Bool) : Type 0 where
  pub edges_each : length edges ≡ length busy
  pub few : length busy < 2 ^ 32

-- something is done to each cell that isn't kept
abbrev pub busy_of : Marks → List Bool
busy_of m = map (λ c. not (is_state (state_at m c) Kept)) (range_with_len 0 (div_ceil m.size m.cell))

-- how many rows of n cells hold them all
abbrev pub rows : Cells → ℕ → ℕ
rows k n = div_ceil (length k.busy) n

-- past the last cell of row r
abbrev pub row_end : Cells → ℕ → ℕ → ℕ
row_end k n r = min (r * n + n) (length k.busy)

-- nothing is done to any cell of row r, and no region begins or ends inside of it
abbrev pub is_plain : Cells → ℕ → ℕ → Bool
is_plain k n r =
    not (list_any (λ b. b) (slice_range k.busy (r * n) (row_end k n r)))
    && not (list_any (λ b. b) (slice_range k.edges (r * n + 1) (row_end k n r)))

-- a row and the one after it are plain, and no region begins or ends between them
abbrev pub goes_on : Cells → ℕ → ℕ → Bool
goes_on k n r =
    nat_lt ((r + 1) * n) (length k.busy) && (is_plain k n r && (is_plain k n (r + 1) && not (get_or k.edges ((r + 1) * n) false)))

-- how many rows high the line of plain rows is: as high as a text
abbrev pub fold_height : ℕ → ℕ
fold_height n = max (n / 64) 1

-- how high a row is: of plain rows that are one line the last has its height
abbrev pub row_height : Cells → ℕ → ℕ → ℕ
row_height k n r = if goes_on k n r then 0 else if is_plain k n r then fold_height n else 1

-- how high the first r rows are
abbrev pub top_of : Cells → ℕ → ℕ → ℕ
top_of k n r = sum (map (row_height k n) (range_with_len 0 r))

abbrev pub tops_of : Cells → ℕ → List ℕ
tops_of k n = map (top_of k n) (range_with_len 0 (rows k n))

abbrev pub high_of : Cells → ℕ → ℕ
high_of k n = top_of k n (rows k n)

-- the units that a cell of such rows is high: as it is wide, 32 at most
abbrev pub down_for : ℕ → ℕ
down_for n = 1024 / max n 32

-- rows of n cells are at most 1152 units high
abbrev pub is_low : Cells → ℕ → Bool
is_low k n = nat_le (high_of k n * down_for n) 1152

-- the cells of a row: the least power of two from 16 on for which the rows are so low, 256 at most
abbrev pub columns_of : Cells → ℕ
columns_of k =
    if is_low k 16 then 16
    else if is_low k 32 then 32
    else if is_low k 64 then 64
    else if is_low k 128 then 128
    else 256

-- cells in rows: how many a row has, where each row is drawn, and how high all are
pub record Grid : Type 0 where
  pub cells : Cells
  pub columns : ℕ
  pub tops : List ℕ
  pub high : ℕ

abbrev pub in_rows : Cells → Grid
in_rows k = record { cells = k; columns = columns_of k; tops = tops_of k (columns_of k); high = high_of k (columns_of k) }

-- what holds of each grid
pub record IsGrid (columns high : ℕ) : Type 0 where
  pub some_columns : 16 ≤ columns
  pub few_columns : columns ≤ 256
  pub low : high < 2 ^ 31
