-- By computation.
use Rattle.std.proofs.Common.{refl}
use Rattle.nor_sfdp.specs.Basic.{size_of, width_of, page_of, switch_of}
use Rattle.nor_sfdp.specs.Bits.{dword_at}
use Rattle.nor_sfdp.specs.Headers.{header_count_of, header_at}
use Rattle.nor_sfdp.specs.Kinds.{dedicated_of, kind_of, kinds_of}
use Rattle.nor_sfdp.specs.Reading.{completed, meaning_of}
use Rattle.nor_sfdp.specs.SectorMap.{command_count_of, checked_map, maps_from, first_map_of, wanted_id, regions_at, mapped_regions, regions_of}
use Rattle.nor_sfdp.specs.Tables.{cut_of, cut_where_there, table_of, tables_of}
use Rattle.norprog_laws.proofs.worked.sfdp_worked.Goals as goal

pub returns : goal.returns
unfolding size_of width_of page_of switch_of dword_at header_count_of header_at dedicated_of kind_of kinds_of completed meaning_of command_count_of checked_map maps_from first_map_of wanted_id regions_at mapped_regions regions_of cut_of cut_where_there table_of tables_of
returns c = record { of_small = refl; of_mapped = refl; of_large = refl; unsigned = refl; cut = refl }
