-- One part more, one that is cut, and the end record.
use Rattle.std.proofs.Common.{◌≤◌, ◌∙◌, length, inl, refl, arith}
use Rattle.nor_base.proofs.DeviceLaws.{Writes-cut}
use Rattle.nor_hex.proofs.WriteLemmas.{none_put, up_to_put, up_to_cut, next_seam, still_seam, end_put}
use Rattle.nor_hex.proofs.writer.write_hex.Goals as goal

pub loop-done-init : goal.loop-done-init
loop-done-init g c = record { within = omega arith; seam = λ some. inl refl; put = none_put c.args.at c.args.bytes.now _; count = refl }

pub returns-in_err-write_data-clause-bytes : goal.returns-in_err-write_data-clause-bytes
returns-in_err-write_data-clause-bytes g c =
    let at = c.args.at in
    let bytes = c.args.bytes.now in
    let done = c.loop-done.done in
    let last = c.min-end.result in
    let rises : done ≤ last = omega (arith, c.min-end.ensures, c.loop-done-test.true, c.room.ensures) in
    let within : last ≤ length bytes = omega (arith, c.min-end.ensures) in
    Writes-cut _ _ _ _ c.from_residual.ensures.0
    (up_to_cut at bytes done last (c.loop-done.invariant.seam c.loop-done-test.true) rises within _ _ _
    (next_seam at done c.room.result (length bytes) last c.room.ensures c.min-end.ensures) c.loop-done.invariant.put c.in_err-write_data.ensures.bytes)

pub loop-done-preserved : goal.loop-done-preserved
loop-done-preserved g c =
    let at = c.args.at in
    let bytes = c.args.bytes.now in
    let done = c.loop-done.done in
    let last = c.min-end.result in
    let rises : done ≤ last = omega (arith, c.min-end.ensures, c.loop-done-test.true, c.room.ensures) in
    let within : last ≤ length bytes = omega (arith, c.min-end.ensures) in
    record {
      within = within;
      seam = still_seam at (length bytes) last (next_seam at done c.room.result (length bytes) last c.room.ensures c.min-end.ensures);
      put = up_to_put at bytes done last (c.loop-done.invariant.seam c.loop-done-test.true) rises within _ _ _ c.loop-done.invariant.put c.in_ok-write_data.ensures.bytes;
      count = c.in_ok-write_data.ensures.count ∙ c.loop-done.invariant.count;
    }

pub returns-clause-bytes : goal.returns-clause-bytes
returns-clause-bytes g c =
    end_put c.args.at c.args.bytes.now c.loop-done.done _ _ _ c.write_end.result (omega (arith, c.loop-done-test.false)) c.loop-done.invariant.put c.write_end.ensures.bytes
