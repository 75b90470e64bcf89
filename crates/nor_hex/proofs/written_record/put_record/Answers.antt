-- The line is the record's.
use Rattle.std.proofs.Common.{◌∙◌, subst}
use Rattle.nor_base.specs.Device.{Writes}
use Rattle.nor_hex.specs.WrittenRecords.{Entry}
use Rattle.nor_hex.proofs.WrittenRecordLemmas.{line_put}
use Rattle.nor_hex.proofs.written_record.put_record.Goals as goal

pub returns-clause-bytes : goal.returns-clause-bytes
returns-clause-bytes g c =
    let entry : Entry = record { kind = c.args.kind; offset = c.args.offset; bytes = c.args.data.now } in
    subst (Writes (g.W.ByteOut.held c.args.out.now) (g.W.ByteOut.held c.put_all.new.writer) c.put_all.result)
    (line_put entry c.as_slice-2.result.now c.as_slice.result.now (c.as_slice-2.ensures.value ∙ c.text_of-text.ensures) (c.as_slice.ensures.value ∙ c.bytes_of-bytes.ensures.bytes))
    c.put_all.ensures.bytes
