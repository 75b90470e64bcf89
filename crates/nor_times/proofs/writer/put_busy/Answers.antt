-- Nothing is told.
use Rattle.std.proofs.Common.{sym, subst}
use Rattle.nor_base.specs.Device.{Writes}
use Rattle.nor_times.specs.Text.{busy_line}
use Rattle.nor_times.proofs.writer.put_busy.Goals as goal

pub returns-in-None-clause-bytes : goal.returns-in-None-clause-bytes
returns-in-None-clause-bytes g c =
    subst (λ b. Writes (g.W.ByteOut.held c.args.out.now) (g.W.ByteOut.held c.put_all.new.writer) c.put_all.result (busy_line b)) (sym c.in-None.is)
    c.put_all.ensures.bytes
