-- The commands counted and those that follow are all; the measure is the DWORDs that are left.
use Rattle.std.proofs.Common.{◌≡◌, ◌+◌, ◌-◌, ◌*◌, ◌≤◌}
use Rattle.nor_sfdp.specs.Bits.{dword_count}
use Rattle.nor_sfdp.specs.SectorMap.{commands_from}
use Rattle.nor_sfdp.proofs.map.command_count.Given as goal

abbrev pub invariant-loop-count : goal.invariant-loop-count
invariant-loop-count l = record {
  place : l.at ≡ 2 * l.count + 1;
  within : l.at ≤ dword_count l.table + 2;
  counted : l.count + commands_from (l.dwords - l.count) l.table l.at ≡ commands_from l.dwords l.table 1;
}

abbrev pub decreases-loop-count : goal.decreases-loop-count
decreases-loop-count l = l.dwords + 2 - l.at
