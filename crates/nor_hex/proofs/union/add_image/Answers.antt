use Rattle.std.proofs.Common.{arith}
use Rattle.nor_hex.proofs.UnionLemmas.{lays_none, lays_more, lays_all}
use Rattle.nor_hex.proofs.union.add_image.Goals as goal

pub loop-at-init : goal.loop-at-init
loop-at-init g c = record { pieces = c.requires; lays = lays_none _ c.args.image.now }

pub add_run-requires-clause-pieces : goal.add_run-requires-clause-pieces
add_run-requires-clause-pieces g c = c.loop-at.invariant.pieces

pub loop-at-smaller : goal.loop-at-smaller
loop-at-smaller g c =
    let there = c.in-Some.ensures in
    let past = there.past in
    let some = there.some in
    let fits = there.fits in
    omega arith

pub loop-at-preserved : goal.loop-at-preserved
loop-at-preserved g c = record {
  pieces = c.in_ok-add_run.ensures.pieces;
  lays = rw c.from.ensures (lays_more _ _ _ c.args.image.now c.loop-at.from c.in-Some.at c.in-Some.bytes.now c.loop-at.invariant.lays c.in-Some.ensures c.in_ok-add_run.ensures.added);
}

pub returns-clause-pieces : goal.returns-clause-pieces
returns-clause-pieces g c = c.loop-at.invariant.pieces

pub returns-clause-added : goal.returns-clause-added
returns-clause-added g c = lays_all _ _ c.args.image.now c.loop-at.from c.loop-at.invariant.lays c.in_default.ensures
