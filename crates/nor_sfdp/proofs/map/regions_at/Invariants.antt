-- The regions so far and their bytes, which don't pass the size.
use Rattle.std.proofs.Common.{◌≡◌, ◌≤◌, length}
use Rattle.nor_sfdp.specs.SectorMap.{bytes_of}
use Rattle.nor_sfdp.proofs.RegionLemmas.{regions_from}
use Rattle.nor_sfdp.proofs.map.regions_at.Given as goal

abbrev pub invariant-loop-k : goal.invariant-loop-k
invariant-loop-k l = record {
  items : l.regions.items ≡ regions_from l.table l.map.first l.k;
  count : length l.regions.items ≡ l.k;
  total : l.total ≡ bytes_of (regions_from l.table l.map.first l.k);
  within : l.total ≤ l.size;
}
