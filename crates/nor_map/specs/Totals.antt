-- What a map says of the whole plan (this project's).
use Rattle.std.specs.Prelude.{◌≡◌, ℕ, List, ◌++◌, codes, count_by, decimal, map}
use Rattle.std.specs.Int.{div_ceil}
use Rattle.std.specs.List.{range_with_len}
use Rattle.nor_map.specs.declared.state.State.{State}
use Rattle.nor_map.specs.declared.state.State.TheVariants.{Kept, Erased, Restored, Changed}
use Rattle.nor_map.specs.Marks.{Marks, is_state, state_at}

-- how many cells are in a state
abbrev pub cells_in : Marks → State → ℕ
cells_in m s = count_by (λ t. is_state t s) (map (state_at m) (range_with_len 0 (div_ceil m.size m.cell)))

-- how many blocks are erased and pages programmed, and how many cells are in each state
abbrev pub totals_text : Marks → List ℕ
totals_text m =
    codes "erases " ++ (decimal m.blocks ++ (codes ", programs " ++ (decimal m.programs
    ++ (codes "; cells: " ++ (decimal (cells_in m Changed) ++ (codes " changed, " ++ (decimal (cells_in m Restored)
    ++ (codes " written back, " ++ (decimal (cells_in m Erased) ++ (codes " erased, " ++ (decimal (cells_in m Kept) ++ codes " as they were")))))))))))

-- the picture has this text
pub record Prints (picture text : List ℕ) : Type 0 where
  pub before : List ℕ
  pub after : List ℕ
  pub joined : picture ≡ before ++ (text ++ after)
