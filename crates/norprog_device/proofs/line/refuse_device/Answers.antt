-- The line was written, or a part of it by a writer that failed.
use Rattle.norprog_common.proofs.TellsLemmas.{wrote}
use Rattle.norprog_device.specs.Line.{device_line}
use Rattle.norprog_device.proofs.line.refuse_device.Goals as goal

pub returns-clause-told : goal.returns-clause-told
returns-clause-told g c =
    wrote g.E.ByteOut.held g.E.ByteOut.count _ _ c.write_device.result (device_line c.args.fault) c.write_device.ensures.bytes c.write_device.ensures.count
