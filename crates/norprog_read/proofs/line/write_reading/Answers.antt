-- The lines before were put, and at a failure a proper prefix of these.
use Rattle.std.proofs.Common.{ℕ, List, ◌++◌, subst, rules}
use Rattle.std.specs.Prelude.{codes}
use Rattle.std.specs.Io.KnownBytes.{Appends}
use Rattle.nor_base.specs.Device.{Cuts, Writes}
use Rattle.nor_base.proofs.DeviceLaws.{Cuts-then, Cuts-more, Writes-then, Writes-cut}
use Rattle.norprog.specs.ChipText.{meaning_text}
use Rattle.norprog_device.specs.Shown.{digits_line, status_line}
use Rattle.norprog_read.specs.Line.{content_line, note_line}
use Rattle.norprog_read.proofs.line.write_reading.Goals as goal

pub returns-in_err-write_note-clause-bytes : goal.returns-in_err-write_note-clause-bytes
returns-in_err-write_note-clause-bytes g c =
    let r = c.args.reading.now in
    let h = g.W.ByteOut.held c.args.writer.now in
    let n = g.W.ByteOut.held c.write_digits.new.writer in
    let i = g.W.ByteOut.held c.write_note.new.writer in
    let id : Appends h n (digits_line (codes "id ") r.id) = search rules in
    let cut : Cuts n i (note_line r.note) = search rules in
    let rest = status_line (codes "status ") r.part r.status ++ (meaning_text r.meaning ++ content_line r.whole r.content.items) in
    Writes-cut _ _ _ _ c.from_residual-in_err-write_note.ensures.0
    (Cuts-then h n i (digits_line (codes "id ") r.id) (note_line r.note ++ rest) id (Cuts-more n i (note_line r.note) rest cut))

pub returns-in_err-write_status-clause-bytes : goal.returns-in_err-write_status-clause-bytes
returns-in_err-write_status-clause-bytes g c =
    let r = c.args.reading.now in
    let h = g.W.ByteOut.held c.args.writer.now in
    let n = g.W.ByteOut.held c.write_digits.new.writer in
    let i = g.W.ByteOut.held c.write_note.new.writer in
    let j = g.W.ByteOut.held c.write_status.new.writer in
    let id : Appends h n (digits_line (codes "id ") r.id) = search rules in
    let note : Appends n i (note_line r.note) = search rules in
    let cut : Cuts i j (status_line (codes "status ") r.part r.status) = search rules in
    let rest = meaning_text r.meaning ++ content_line r.whole r.content.items in
    Writes-cut _ _ _ _ c.from_residual-in_err-write_status.ensures.0
    (Cuts-then h n j (digits_line (codes "id ") r.id) (note_line r.note ++ (status_line (codes "status ") r.part r.status ++ rest)) id
    (Cuts-then n i j (note_line r.note) (status_line (codes "status ") r.part r.status ++ rest) note (Cuts-more i j (status_line (codes "status ") r.part r.status) rest cut)))

pub returns-in_err-sfdp_text-clause-bytes : goal.returns-in_err-sfdp_text-clause-bytes
returns-in_err-sfdp_text-clause-bytes g c =
    let r = c.args.reading.now in
    let h = g.W.ByteOut.held c.args.writer.now in
    let n = g.W.ByteOut.held c.write_digits.new.writer in
    let i = g.W.ByteOut.held c.write_note.new.writer in
    let j = g.W.ByteOut.held c.write_status.new.writer in
    let k = g.W.ByteOut.held c.sfdp_text.new.writer in
    let id : Appends h n (digits_line (codes "id ") r.id) = search rules in
    let note : Appends n i (note_line r.note) = search rules in
    let status : Appends i j (status_line (codes "status ") r.part r.status) = search rules in
    let cut : Cuts j k (meaning_text r.meaning) = search rules in
    let last = content_line r.whole r.content.items in
    let rest = status_line (codes "status ") r.part r.status ++ (meaning_text r.meaning ++ last) in
    Writes-cut _ _ _ _ c.from_residual-in_err-sfdp_text.ensures.0
    (Cuts-then h n k (digits_line (codes "id ") r.id) (note_line r.note ++ rest) id
    (Cuts-then n i k (note_line r.note) rest note
    (Cuts-then i j k (status_line (codes "status ") r.part r.status) (meaning_text r.meaning ++ last) status (Cuts-more j k (meaning_text r.meaning) last cut))))

pub returns-clause-bytes : goal.returns-clause-bytes
returns-clause-bytes g c =
    let r = c.args.reading.now in
    let h = g.W.ByteOut.held c.args.writer.now in
    let n = g.W.ByteOut.held c.write_digits.new.writer in
    let i = g.W.ByteOut.held c.write_note.new.writer in
    let j = g.W.ByteOut.held c.write_status.new.writer in
    let k = g.W.ByteOut.held c.sfdp_text.new.writer in
    let l = g.W.ByteOut.held c.write_count.new.writer in
    let id : Appends h n (digits_line (codes "id ") r.id) = search rules in
    let note : Appends n i (note_line r.note) = search rules in
    let status : Appends i j (status_line (codes "status ") r.part r.status) = search rules in
    let meaning : Appends j k (meaning_text r.meaning) = search rules in
    let last = content_line r.whole r.content.items in
    let count : Writes k l c.write_count.result last =
    subst (λ (bytes : List ℕ). Writes k l c.write_count.result (content_line r.whole bytes)) c.as_slice.ensures.value c.write_count.ensures.bytes in
    let rest = status_line (codes "status ") r.part r.status ++ (meaning_text r.meaning ++ last) in
    Writes-then h n l c.write_count.result (digits_line (codes "id ") r.id) (note_line r.note ++ rest) id
    (Writes-then n i l c.write_count.result (note_line r.note) rest note
    (Writes-then i j l c.write_count.result (status_line (codes "status ") r.part r.status) (meaning_text r.meaning ++ last) status
    (Writes-then j k l c.write_count.result (meaning_text r.meaning) last meaning count)))
