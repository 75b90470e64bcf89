-- Piece by piece.
use Rattle.std.proofs.Common.{◌≡◌, ◌≤◌, ◌+◌, ◌-◌, length, take, drop, refl, ◌∙◌, ap, arith, length-take}
use Rattle.std.proofs.lemmas.List.{length-take-le, take_all, take-append-le}
use borrow.Rule.Slice.PartMut.{put_mid}
use Rattle.nor_reader.specs.Reads.{reads}
use Rattle.nor_reader.proofs.AgainLemmas.{slice_long}
use Rattle.nor_reader.proofs.CutLemmas.{cut_begins, cut_reads_on, nothing_cut, read_cut}
use Rattle.nor_reader.proofs.PassLemmas.{piece_stops, put_piece}
use Rattle.nor_reader.proofs.pass.read_on.Goals as goal

pub loop-done-init : goal.loop-done-init
loop-done-init g c = record {
  after = omega arith;
  within = c.requires.start;
  size = refl;
  kept = take_all c.args.start (take c.args.start c.args.bytes.now) (omega (arith, length-take c.args.start c.args.bytes.now));
  cut = cut_begins c.args.limits.now.asked c.args.limits.now.asked (length c.args.bytes.now) (g.W.ByteOut.held c.args.to.now)
      (g.R.ByteIn.ahead c.args.from.now) c.args.by c.args.start c.args.start (drop c.args.start (take c.args.start c.args.bytes.now))
      c.args.limits.now.some_asked (omega arith) (nothing_cut c.args.start c.args.bytes.now);
  reads = refl;
  writes = refl;
}

pub loop-done-preserved : goal.loop-done-preserved
loop-done-preserved g c =
    let most = c.args.limits.now.asked in
    let old = c.loop-done.bytes in
    let done = c.loop-done.done in
    let len = c.min-len.result in
    let piece = c.read_piece.new.piece in
    let inv = c.loop-done.invariant in
    let fits : done + len ≤ length old = omega (arith, inv.size, inv.within, c.loop-done-test.true, c.min-len.ensures) in
    let long : length piece ≡ len = c.read_piece.auto.piece ∙ slice_long old done len fits in
    let new = put_mid done (done + len - done) old piece in
    let put = put_piece old piece done len fits long in
    record {
      after = omega arith;
      within = omega (arith, put.size, fits);
      size = put.size ∙ inv.size;
      kept = ap (take c.args.start) put.front
          ∙ take-append-le c.args.start (take done old) piece (omega (arith, length-take-le done old inv.within, inv.after)) ∙ inv.kept;
      cut = read_cut most (length c.args.bytes.now) _ _ _ _ _ _ c.args.by c.args.start old new piece done len inv.after inv.within c.loop-done-test.true
          c.min-len.ensures long c.args.limits.now.some_asked put.front inv.cut c.in_default.ensures.read;
      reads = c.in_default.ensures.counts.0 ∙ inv.reads;
      writes = c.in_default.ensures.counts.1 ∙ inv.writes;
    }

pub returns-in-Err-clause-read : goal.returns-in-Err-clause-read
returns-in-Err-clause-read g c =
    let r = reads c.args.limits.now.asked c.args.by in
    let old = c.loop-done.bytes in
    let done = c.loop-done.done in
    let len = c.min-len.result in
    let inv = c.loop-done.invariant in
    let fits : done + len ≤ length old = omega (arith, inv.size, inv.within, c.loop-done-test.true, c.min-len.ensures) in
    let long : length c.read_piece.new.piece ≡ len = c.read_piece.auto.piece ∙ slice_long old done len fits in
    piece_stops r _ _ _ _ _ _ (take c.args.start c.args.bytes.now) old c.read_piece.new.piece done c.in-Err.why inv.within
    (omega (arith, long, c.min-len.ensures))
    (cut_reads_on r _ _ _ _ c.args.start c.args.bytes.now (take done old) c.requires.start inv.kept inv.cut.cut) c.in-Err.ensures.read

pub returns-clause-read : goal.returns-clause-read
returns-clause-read g c =
    let done = c.loop-done.done in
    let inv = c.loop-done.invariant in
    rw (take_all done c.loop-done.bytes (omega (arith, inv.size, c.loop-done-test.false))) at
    (cut_reads_on (reads c.args.limits.now.asked c.args.by) _ _ _ _ c.args.start c.args.bytes.now (take done c.loop-done.bytes) c.requires.start inv.kept
    inv.cut.cut)
