-- By computation.
use Rattle.std.proofs.Common.{refl}
use Rattle.nor_map.specs.Cells.{doubled}
use Rattle.nor_map.specs.Marks.{marks_of}
use Rattle.nor_map.proofs.worked.sizes_worked.Goals as goal

pub returns-clause-sizes : goal.returns-clause-sizes
unfolding doubled
returns-clause-sizes c = record { a_page = refl; sixteen = refl; one_more = refl; largest = refl }

pub returns-clause-rows : goal.returns-clause-rows
unfolding marks_of doubled
returns-clause-rows c = record { columns = refl; tops = refl; high = refl; region = refl }
