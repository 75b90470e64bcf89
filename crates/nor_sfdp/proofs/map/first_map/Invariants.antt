-- What is still to be walked gives the answer; the measure is the DWORDs that are left.
use Rattle.std.proofs.Common.{◌+◌, ◌-◌, ◌≤◌}
use Rattle.std.specs.Prelude.{IfSome}
use Rattle.nor_sfdp.specs.Bits.{dword_count}
use Rattle.nor_sfdp.proofs.MapLemmas.{IsWalk}
use Rattle.nor_sfdp.proofs.map.first_map.Given as goal

abbrev pub invariant-loop-at : goal.invariant-loop-at
invariant-loop-at l = record {
  low : 1 ≤ l.at;
  high : l.at ≤ dword_count l.table + 1;
  walk : IsWalk l.table l.from l.id l.at l.found;
  count : IfSome l.found (λ m. m.count ≤ 256);
  within : IfSome l.found (λ m. m.first + m.count ≤ dword_count l.table + 1);
}

abbrev pub decreases-loop-at : goal.decreases-loop-at
decreases-loop-at l = dword_count l.table + 1 - l.at
