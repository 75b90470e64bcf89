-- One more part, and a part that is cut.
use Rattle.std.proofs.Common.{◌∙◌, subst, arith}
use Rattle.std.proofs.lemmas.Grind.{common_steps}
use Rattle.nor_base.specs.Device.{Cuts}
use Rattle.std.specs.Io.KnownBytes.{Appends}
use Rattle.nor_base.proofs.DeviceLaws.{Writes-cut}
use Rattle.nor_script.proofs.HexLemmas.{written, part_fits, part_put, part_cut}
use Rattle.nor_script.proofs.hexadecimal.put_hexadecimal.Goals as goal

pub loop-done-preserved : goal.loop-done-preserved
loop-done-preserved g c =
    let digits = written c.encode_to_slice.result c.encode_to_slice.new.output _ (c.encode_to_slice.ensures.fits.1 (grind (arith, common_steps, c.min-count.array_long))) c.encode_to_slice.ensures.written
    (part_fits _ c.loop-done.done c.args.bytes.now c.type_inv.bytes) in
    record {
      within = omega arith;
      put = part_put _ _ _ c.args.bytes.now c.loop-done.done c.min-count.result _ (omega arith) c.loop-done.invariant.put
          (subst (Appends (g.W.ByteOut.held c.loop-done.out) (g.W.ByteOut.held c.put_all.new.writer)) digits c.in_ok-put_all.ensures.bytes);
      count = c.in_ok-put_all.ensures.count ∙ c.loop-done.invariant.count;
    }

pub returns-in_err-put_all-clause-bytes : goal.returns-in_err-put_all-clause-bytes
returns-in_err-put_all-clause-bytes g c =
    let digits = written c.encode_to_slice.result c.encode_to_slice.new.output _ (c.encode_to_slice.ensures.fits.1 (grind (arith, common_steps, c.min-count.array_long))) c.encode_to_slice.ensures.written
    (part_fits _ c.loop-done.done c.args.bytes.now c.type_inv.bytes) in
    Writes-cut _ _ _ _ c.from_residual.ensures.0
    (part_cut _ _ _ c.args.bytes.now c.loop-done.done _ c.loop-done.invariant.put
    (subst (Cuts (g.W.ByteOut.held c.loop-done.out) (g.W.ByteOut.held c.put_all.new.writer)) digits c.in_err-put_all.ensures.bytes))
