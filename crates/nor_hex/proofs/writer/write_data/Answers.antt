-- The upper half, and then the data.
use Rattle.std.proofs.Common.{◌≡◌, ◌<◌, ◌∷◌, [], ◌/◌, ◌%◌, ◌^◌, length, sym, subst, arith}
use Rattle.std.specs.Io.KnownBytes.{Appends}
use Rattle.nor_base.specs.Device.{Cuts, Writes}
use Rattle.nor_base.proofs.DeviceLaws.{Appends-none, Cuts-more, Writes-cut, Writes-then}
use Rattle.nor_hex.specs.WrittenRecords.{record_text}
use Rattle.nor_hex.proofs.WriteLemmas.{part_text, nothing}
use Rattle.nor_hex.proofs.writer.write_data.Goals as goal

pub returns-then-is_empty-clause-bytes : goal.returns-then-is_empty-clause-bytes
returns-then-is_empty-clause-bytes g c =
    let low : c.args.at < 2 ^ 32 = omega (arith, c.ranges.at.fits) in
    let empty : length c.args.bytes.now ≡ 0 = grind (arith, c.if-is_empty.true, c.is_empty.ensures) in
    subst (Appends (g.W.ByteOut.held c.args.out.now) (g.W.ByteOut.held c.args.out.now)) (sym (nothing c.args.at c.args.bytes.now low c.requires.inside empty)) (Appends-none _)

pub returns-in_err-put_record-clause-bytes : goal.returns-in_err-put_record-clause-bytes
returns-in_err-put_record-clause-bytes g c =
    let at = c.args.at in
    let low : at < 2 ^ 32 = omega (arith, c.ranges.at.fits) in
    let some : 0 < length c.args.bytes.now = grind (arith, c.if-is_empty.false, c.is_empty.ensures) in
    let high : at / 16777216 ≡ at / 65536 / 256 = omega arith in
    Writes-cut _ _ _ _ c.from_residual.ensures.0
    (subst (Cuts (g.W.ByteOut.held c.args.out.now) (g.W.ByteOut.held c.put_record.new.out)) (part_text at c.args.bytes.now low c.requires.inside some)
    (Cuts-more _ _ _ _ (subst (λ h. Cuts (g.W.ByteOut.held c.args.out.now) (g.W.ByteOut.held c.put_record.new.out) (record_text (record { kind = 4; offset = 0; bytes = h ∷ at / 65536 % 256 ∷ [] })))
    high c.in_err-put_record.ensures.bytes)))

pub returns-clause-bytes : goal.returns-clause-bytes
returns-clause-bytes g c =
    let at = c.args.at in
    let low : at < 2 ^ 32 = omega (arith, c.ranges.at.fits) in
    let some : 0 < length c.args.bytes.now = grind (arith, c.if-is_empty.false, c.is_empty.ensures) in
    let high : at / 16777216 ≡ at / 65536 / 256 = omega arith in
    subst (Writes (g.W.ByteOut.held c.args.out.now) (g.W.ByteOut.held c.put_rows.new.out) c.put_rows.result) (part_text at c.args.bytes.now low c.requires.inside some)
    (Writes-then _ _ _ c.put_rows.result _ _ (subst (λ h. Appends (g.W.ByteOut.held c.args.out.now) (g.W.ByteOut.held c.put_record.new.out) (record_text (record { kind = 4; offset = 0; bytes = h ∷ at / 65536 % 256 ∷ [] })))
    high c.in_ok-put_record.ensures.bytes) c.put_rows.ensures.bytes)
