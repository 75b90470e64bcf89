-- All three registers.
use Rattle.std.proofs.Common.{ℕ, List, subst}
use Rattle.nor_base.specs.Device.{Writes}
use Rattle.norprog_device.specs.Shown.{digits_line}
use Rattle.norprog_device.proofs.shown.write_status.Goals as goal

pub returns-in-W25q256jv-clause-bytes : goal.returns-in-W25q256jv-clause-bytes
returns-in-W25q256jv-clause-bytes g c =
    rw c.in-W25q256jv.is (subst (λ (l : List ℕ). Writes (g.W.ByteOut.held c.args.writer.now) (g.W.ByteOut.held c.write_digits.new.writer) c.write_digits.result
    (digits_line c.args.front.now l)) c.registers.ensures c.write_digits.ensures.bytes)
