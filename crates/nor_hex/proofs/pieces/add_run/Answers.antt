use Rattle.std.proofs.Common.{◌≡◌, ◌-◌, ◌≤◌, length, take, drop, arith}
use Rattle.std.proofs.lemmas.Result.{err_from_is_err_and}
use Rattle.nor_hex.proofs.ListLemmas.{length-part}
use Rattle.nor_hex.proofs.PieceLemmas.{adds_more, clashes_later}
use Rattle.nor_hex.proofs.pieces.add_run.Goals as goal

pub loop-done-preserved : goal.loop-done-preserved
loop-done-preserved g c =
    let within = c.loop-done.invariant.within in
    let rest : length (take (length c.args.bytes.now - c.loop-done.done) (drop c.loop-done.done c.args.bytes.now)) ≡ length c.args.bytes.now - c.loop-done.done = length-part c.args.bytes.now (length c.args.bytes.now - c.loop-done.done) c.loop-done.done (omega arith) in
    let few : c.in_ok-done.field-0 ≤ length c.args.bytes.now - c.loop-done.done = omega (arith, c.in_ok-done.ensures.count.1) in
    record {
      within = omega arith;
      pieces = c.in_ok-done.ensures.pieces;
      added = adds_more _ _ _ c.args.address c.loop-done.done c.in_ok-done.field-0 (length c.args.bytes.now - c.loop-done.done) c.args.bytes.now few c.loop-done.invariant.added c.in_ok-done.ensures.added;
    }

pub returns-in_err-done-clause-clash : goal.returns-in_err-done-clause-clash
returns-in_err-done-clause-clash g c =
    let p = err_from_is_err_and c.from_residual.result c.from_residual.ensures.1 in
    rw (p.1, p.2)
    (λ real. clashes_later _ _ c.args.address c.loop-done.done (length c.args.bytes.now - c.loop-done.done) c.args.bytes.now c.loop-done.invariant.added (c.in_err-done.ensures.clash real))
