-- What is drawn as one line hides no cell to which something is done.
use Rattle.std.specs.Prelude.{◌≡◌, ℕ, ◌+◌, ◌*◌, ◌<◌, ◌≤◌, true, false, Bool, List}
use Rattle.nor_map.specs.declared.state.State.TheVariants.{Kept}
use Rattle.nor_map.specs.Marks.{Marks, state_at}
use Rattle.nor_map.specs.Rows.{Cells, busy_of, goes_on, is_plain, row_end, top_of}

-- each cell of a plain row is kept
abbrev pub PlainRowsAreKept : Type 0
PlainRowsAreKept =
    (m : Marks) (edges : List Bool) (n r c : ℕ) → is_plain (record { busy = busy_of m; edges = edges }) n r ≡ true
    → r * n ≤ c → c < row_end (record { busy = busy_of m; edges = edges }) n r → state_at m c ≡ Kept

-- two rows that aren't one line are drawn apart; two that are, at one height
pub record RowsAreApart : Type 0 where
  pub apart : (k : Cells) (n r : ℕ) → goes_on k n r ≡ false → top_of k n r < top_of k n (r + 1)
  pub together : (k : Cells) (n r : ℕ) → goes_on k n r ≡ true → top_of k n (r + 1) ≡ top_of k n r
