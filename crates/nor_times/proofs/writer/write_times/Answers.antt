-- The first line was put, and at a failure a proper prefix of the two.
use Rattle.nor_base.proofs.DeviceLaws.{Cuts-more, Writes-then, Writes-cut}
use Rattle.nor_times.specs.Text.{bus_line, busy_line, times_text}
use Rattle.nor_times.proofs.writer.write_times.Goals as goal

pub returns-in_err-put_busy-clause-bytes : goal.returns-in_err-put_busy-clause-bytes
unfolding times_text
returns-in_err-put_busy-clause-bytes g c =
    Writes-cut _ _ _ _ c.from_residual.ensures.0
    (Cuts-more _ _ (busy_line c.args.busy) (bus_line c.args.clocks) c.in_err-put_busy.ensures.bytes)

pub returns-clause-bytes : goal.returns-clause-bytes
unfolding times_text
returns-clause-bytes g c =
    Writes-then _ _ _ _ (busy_line c.args.busy) (bus_line c.args.clocks) c.in_ok-put_busy.ensures.bytes c.put_bus.ensures.bytes
