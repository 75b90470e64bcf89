use Rattle.std.proofs.Common.{◌<◌}
use Rattle.arrayvec.specs.ArrayVec.{array_vec_len}
use Rattle.nor_geometry.proofs.PlaceLemmas.{AreBelow}
use Rattle.nor_geometry.proofs.blocks.legal.Given as goal

-- those of the kinds so far
abbrev pub invariant-loop-kind : goal.invariant-loop-kind
invariant-loop-kind l = record {
  room : array_vec_len l.blocks < l.kind;
  blocks : AreBelow l.meaning l.strategy l.at l.kind l.blocks.items;
}
