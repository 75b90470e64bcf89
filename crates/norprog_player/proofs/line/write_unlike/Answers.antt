-- What each cause is reported by.
use Rattle.std.proofs.Common.{subst}
use Rattle.nor_base.specs.Device.{Writes}
use Rattle.norprog_player.proofs.LineLemmas.{moved_parts}
use Rattle.norprog_player.proofs.line.write_unlike.Goals as goal

pub returns-in-Busy-clause-bytes : goal.returns-in-Busy-clause-bytes
returns-in-Busy-clause-bytes g c = rw c.in-Busy.is c.put_all.ensures.bytes

pub returns-in-Status-clause-bytes : goal.returns-in-Status-clause-bytes
returns-in-Status-clause-bytes g c = rw c.in-Status.is c.write_status.ensures.bytes

pub returns-in-Registers-clause-bytes : goal.returns-in-Registers-clause-bytes
returns-in-Registers-clause-bytes g c = rw c.in-Registers.is c.write_status-in-Registers.ensures.bytes

pub returns-in-Moved-clause-bytes : goal.returns-in-Moved-clause-bytes
returns-in-Moved-clause-bytes g c =
    rw c.in-Moved.is (subst (Writes (g.W.ByteOut.held c.args.writer.now) (g.W.ByteOut.held c.put_parts.new.writer) c.put_parts.result)
    (moved_parts c.in-Moved.value _ c.hex_pair.ensures) c.put_parts.ensures.bytes)
