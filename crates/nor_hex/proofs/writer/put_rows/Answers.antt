-- One data record more, one that is cut, and the last one.
use Rattle.std.proofs.Common.{◌≡◌, ◌≤◌, ◌<◌, ◌∙◌, ◌+◌, ◌*◌, ◌/◌, length, subst, arith}
use Rattle.std.specs.Io.KnownBytes.{Appends}
use Rattle.nor_base.specs.Device.{Cuts}
use Rattle.nor_base.proofs.DeviceLaws.{Writes-cut}
use Rattle.nor_hex.specs.WrittenRecords.{of_data, record_text}
use Rattle.nor_hex.proofs.RowLemmas.{all_rows, same_part, more_rows, cut_row}
use Rattle.nor_hex.proofs.writer.put_rows.Goals as goal

pub returns-in_err-put_record-clause-bytes : goal.returns-in_err-put_record-clause-bytes
returns-in_err-put_record-clause-bytes g c =
    let bytes = c.args.bytes.now in
    let n = c.loop-number.number in
    let below : n < (length bytes + 31) / 32 = omega (arith, c.loop-number-test.true, c.div_ceil-number-end.ensures) in
    let within : 32 * n ≤ length bytes = omega (arith, below) in
    Writes-cut _ _ _ _ c.from_residual.ensures.0
    (cut_row c.args.offset bytes n _ _ _ below c.loop-number.invariant.put
    (subst (λ part. Cuts (g.W.ByteOut.held c.loop-number.out) (g.W.ByteOut.held c.put_record.new.out) (record_text (of_data (c.args.offset + 32 * n) part)))
    (same_part bytes (32 * n) c.min-end.result within c.min-end.ensures) c.in_err-put_record.ensures.bytes))

pub loop-number-preserved : goal.loop-number-preserved
loop-number-preserved g c =
    let bytes = c.args.bytes.now in
    let n = c.loop-number.number in
    let below : n < (length bytes + 31) / 32 = omega (arith, c.loop-number-test.true, c.div_ceil-number-end.ensures) in
    let within : 32 * n ≤ length bytes = omega (arith, below) in
    record {
      put = more_rows c.args.offset bytes n _ _ _ c.loop-number.invariant.put
          (subst (λ part. Appends (g.W.ByteOut.held c.loop-number.out) (g.W.ByteOut.held c.put_record.new.out) (record_text (of_data (c.args.offset + 32 * n) part)))
          (same_part bytes (32 * n) c.min-end.result within c.min-end.ensures) c.in_ok-put_record.ensures.bytes);
      count = c.in_ok-put_record.ensures.count ∙ c.loop-number.invariant.count;
    }

pub returns-clause-bytes : goal.returns-clause-bytes
returns-clause-bytes g c =
    let bytes = c.args.bytes.now in
    let all : c.loop-number.number ≡ (length bytes + 31) / 32 = omega (arith, c.loop-number-test.false, c.div_ceil-number-end.ensures) in
    subst (Appends (g.W.ByteOut.held c.args.out.now) (g.W.ByteOut.held c.loop-number.out)) (all_rows c.args.offset bytes c.loop-number.number all) c.loop-number.invariant.put
