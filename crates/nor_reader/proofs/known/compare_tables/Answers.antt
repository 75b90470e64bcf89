-- Piece by piece.
use Rattle.std.proofs.Common.{◌≤◌, ◌<◌, ◌+◌, length, refl, ◌∙◌, arith}
use Rattle.std.specs.List.{slice_range}
use Rattle.nor_reader.specs.Known.{most_of}
use Rattle.nor_reader.proofs.PieceLemmas.{none_compared, piece_more, piece_not}
use Rattle.nor_reader.proofs.known.compare_tables.Goals as goal

pub loop-done-init : goal.loop-done-init
loop-done-init g c = record {
  within = omega arith;
  compared = none_compared (g.W.ByteOut.held c.args.to.now) (g.R.ByteIn.ahead c.args.from.now) c.args.limits.now c.args.tables.now;
  reads = refl;
  writes = refl;
}

pub loop-done-preserved : goal.loop-done-preserved
loop-done-preserved g c =
    let within : c.loop-done.done + c.min-len.result ≤ length c.args.tables.now = omega arith in
    let some : 0 < c.min-len.result = omega (arith, c.args.limits.now.some_asked) in
    let few : c.min-len.result ≤ most_of c.args.limits.now = omega arith in
    let ok = c.in_default.ensures in
    record {
      within = within;
      compared = piece_more c.args.limits.now c.args.tables.now (slice_range c.args.tables.now c.loop-done.done (c.loop-done.done + c.min-len.result)) c.loop-done.done
          c.min-len.result within refl some few c.loop-done.invariant.compared ok.compared;
      reads = ok.counts.0 ∙ c.loop-done.invariant.reads;
      writes = ok.counts.1 ∙ c.loop-done.invariant.writes;
    }

pub returns-in-Err-clause-compared : goal.returns-in-Err-clause-compared
returns-in-Err-clause-compared g c =
    let within : c.loop-done.done + c.min-len.result ≤ length c.args.tables.now = omega arith in
    let some : 0 < c.min-len.result = omega (arith, c.args.limits.now.some_asked) in
    let few : c.min-len.result ≤ most_of c.args.limits.now = omega arith in
    piece_not (g.W.ByteOut.held c.args.to.now) (g.W.ByteOut.held c.loop-done.to) (g.W.ByteOut.held c.compare_piece.new.to) (g.R.ByteIn.ahead c.args.from.now)
    (g.R.ByteIn.ahead c.loop-done.from) (g.R.ByteIn.ahead c.compare_piece.new.from) c.args.limits.now c.args.tables.now (slice_range c.args.tables.now c.loop-done.done (c.loop-done.done + c.min-len.result)) c.loop-done.done c.min-len.result
    c.in-Err.why within refl some few c.loop-done.invariant.compared c.in-Err.ensures.compared
