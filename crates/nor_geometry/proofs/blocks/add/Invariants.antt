use Rattle.std.proofs.Common.{◌≡◌, ◌++◌, take, drop}
use Rattle.nor_geometry.specs.Takes.{with_block}
use Rattle.nor_geometry.proofs.blocks.add.Given as goal

-- the blocks so far are smaller: the block goes among the rest
abbrev pub invariant-loop-i : goal.invariant-loop-i
invariant-loop-i l = record {
  same : l.blocks.items ≡ l.fn.blocks.items;
  given : l.block ≡ l.fn.block;
  rest : with_block l.block l.blocks.items ≡ take l.i l.blocks.items ++ with_block l.block (drop l.i l.blocks.items);
}
