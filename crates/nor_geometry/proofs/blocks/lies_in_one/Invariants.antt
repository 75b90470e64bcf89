use Rattle.std.proofs.Common.{◌≡◌, ◌*◌, ◌≤◌, ◌^◌, drop}
use Rattle.nor_base.specs.Blocks.{lies_in_one}
use Rattle.nor_geometry.proofs.blocks.lies_in_one.Given as goal

-- no region so far holds the block: it lies in one of the rest, the first of which begins at the base
abbrev pub invariant-loop-region : goal.invariant-loop-region
invariant-loop-region l = record {
  base : l.base ≤ l.region-index * 2 ^ 32;
  rest : lies_in_one 0 l.regions l.kind l.start l.size ≡ lies_in_one l.base (drop l.region-index l.regions) l.kind l.start l.size;
}
