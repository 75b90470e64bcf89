-- The note, and how to go on.
use Rattle.nor_base.proofs.DeviceLaws.{Writes-then}
use Rattle.norprog_flash.specs.Task.{works}
use Rattle.norprog_flash.specs.Way.{way_text}
use Rattle.norprog_read.specs.Line.{note_line}
use Rattle.norprog_flash.proofs.way.write_last.Goals as goal

pub returns-clause-bytes : goal.returns-clause-bytes
returns-clause-bytes g c =
    Writes-then _ _ _ c.write_way.result (note_line c.args.reading.now.note)
    (way_text (works c.args.job.now.aim) c.args.steps c.args.job.now.texts.now) c.in_ok-write_note.ensures.bytes c.write_way.ensures.bytes
