use Rattle.std.proofs.Common.{◌≡◌, ◌*◌, ◌≤◌, ◌^◌, drop, length}
use Rattle.nor_base.specs.Strategies.{are_dedicated}
use Rattle.nor_geometry.proofs.strategies.are_dedicated.Given as goal

-- the regions so far are dedicated: it is for the rest to say, the first of which begins at the end of those
abbrev pub invariant-loop-region : goal.invariant-loop-region
invariant-loop-region l = record {
  upto : l.end ≤ l.region-index * 2 ^ 32;
  few : length l.region-items ≤ 256;
  rest : are_dedicated l.meaning 0 l.region-items ≡ are_dedicated l.meaning l.end (drop l.region-index l.region-items);
}
