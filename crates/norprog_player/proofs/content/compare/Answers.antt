-- Piece by piece.
use Rattle.std.proofs.Common.{arith}
use Rattle.nor_cells.specs.Marks.{IsMarked}
use Rattle.nor_base.specs.Wire.{wire}
use Rattle.norprog_player.specs.Compared.{comparison}
use Rattle.norprog_player.proofs.ComparedLemmas.{none_read, piece_more, piece_stopped, all_read}
use Rattle.norprog_player.proofs.content.compare.Goals as goal

pub loop-start-init : goal.loop-start-init
loop-start-init g c = record {
  within = omega arith;
  read = none_read (wire (g.W.ByteOut.held c.args.to.now) (g.R.ByteIn.ahead c.args.from.now))
      (comparison c.args.limits.now c.args.access c.args.content.now (IsMarked c.args.marks.now));
}

pub returns-in-Err : goal.returns-in-Err
returns-in-Err g c = record {
  compared =
      let some = c.in-Some.ensures in
      let len = c.len_on_side-len.ensures in
      piece_stopped c.args.limits.now c.args.access c.args.content.now c.args.marks.now
      (wire (g.W.ByteOut.held c.args.to.now) (g.R.ByteIn.ahead c.args.from.now))
      (wire (g.W.ByteOut.held c.loop-start.to) (g.R.ByteIn.ahead c.loop-start.from))
      (wire (g.W.ByteOut.held c.compare_piece.new.to) (g.R.ByteIn.ahead c.compare_piece.new.from)) c.loop-start.done c.in-Some.start c.in-Some.most
      c.len_on_side-len.result c.in-Err.why (omega (arith, some.1.within, len.few, c.requires.cells)) some.0 some.1 len.some len.few len.sided
      c.loop-start.invariant.read c.in-Err.ensures;
}

pub loop-start-preserved : goal.loop-start-preserved
loop-start-preserved g c =
    let some = c.in-Some.ensures in
    let len = c.len_on_side-len.ensures in
    record {
      within = omega (arith, some.1.within, len.few, c.requires.cells);
      read = piece_more c.args.limits.now c.args.access c.args.content.now c.args.marks.now
          (wire (g.W.ByteOut.held c.args.to.now) (g.R.ByteIn.ahead c.args.from.now))
          (wire (g.W.ByteOut.held c.loop-start.to) (g.R.ByteIn.ahead c.loop-start.from))
          (wire (g.W.ByteOut.held c.compare_piece.new.to) (g.R.ByteIn.ahead c.compare_piece.new.from)) c.loop-start.done c.in-Some.start c.in-Some.most
          c.len_on_side-len.result some.0 some.1 len.some len.few len.sided c.loop-start.invariant.read c.in_default-compare_piece.ensures;
    }

pub returns : goal.returns
returns g c = record {
  compared =
      all_read c.args.limits.now c.args.access c.args.content.now c.args.marks.now
      (wire (g.W.ByteOut.held c.args.to.now) (g.R.ByteIn.ahead c.args.from.now))
      (wire (g.W.ByteOut.held c.loop-start.to) (g.R.ByteIn.ahead c.loop-start.from)) c.loop-start.done c.loop-start.invariant.within
      c.in_default.ensures c.loop-start.invariant.read;
}
