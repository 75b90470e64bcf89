-- What each cause is reported by.
use Rattle.std.proofs.Common.{ℕ, List, subst}
use Rattle.std.specs.Prelude.{codes}
use Rattle.nor_base.specs.Device.{Writes}
use Rattle.norprog_device.specs.Shown.{digits_line}
use Rattle.norprog_read.proofs.LineLemmas.{moved_parts}
use Rattle.norprog_read.proofs.line.write_unlike.Goals as goal

pub returns-in-Busy-clause-bytes : goal.returns-in-Busy-clause-bytes
returns-in-Busy-clause-bytes g c = rw c.in-Busy.is c.put_all.ensures.bytes

pub returns-in-Mode-clause-bytes : goal.returns-in-Mode-clause-bytes
returns-in-Mode-clause-bytes g c =
    rw c.in-Mode.is (subst (λ (l : List ℕ). Writes (g.W.ByteOut.held c.args.writer.now) (g.W.ByteOut.held c.write_digits.new.writer) c.write_digits.result
    (digits_line (codes "unlike status ") l)) c.registers.ensures c.write_digits.ensures.bytes)

pub returns-in-Tables-clause-bytes : goal.returns-in-Tables-clause-bytes
returns-in-Tables-clause-bytes g c = rw c.in-Tables.is c.write_difference.ensures.bytes

pub returns-in-Line-clause-bytes : goal.returns-in-Line-clause-bytes
returns-in-Line-clause-bytes g c = rw c.in-Line.is c.put_all-in-Line.ensures.bytes

pub returns-in-Repeats-clause-bytes : goal.returns-in-Repeats-clause-bytes
returns-in-Repeats-clause-bytes g c = rw c.in-Repeats.is c.put_all-in-Repeats.ensures.bytes

pub returns-in-Unreadable-clause-bytes : goal.returns-in-Unreadable-clause-bytes
returns-in-Unreadable-clause-bytes g c = rw c.in-Unreadable.is c.put_all-in-Unreadable.ensures.bytes

pub returns-in-Hidden-clause-bytes : goal.returns-in-Hidden-clause-bytes
returns-in-Hidden-clause-bytes g c = rw c.in-Hidden.is c.put_all-in-Hidden.ensures.bytes

pub returns-in-Size-clause-bytes : goal.returns-in-Size-clause-bytes
returns-in-Size-clause-bytes g c = rw c.in-Size.is c.write_size.ensures.bytes

pub returns-in-Moved-clause-bytes : goal.returns-in-Moved-clause-bytes
returns-in-Moved-clause-bytes g c =
    rw c.in-Moved.is (subst (Writes (g.W.ByteOut.held c.args.writer.now) (g.W.ByteOut.held c.put_parts-in-Moved.new.writer) c.put_parts-in-Moved.result)
    (moved_parts c.in-Moved.value _ c.hex_pair.ensures) c.put_parts-in-Moved.ensures.bytes)
