-- The line of the verdict, and then that of the chip.
use Rattle.std.proofs.Common.{subst}
use Rattle.nor_base.specs.Device.{Writes}
use Rattle.nor_base.proofs.DeviceLaws.{Writes-then}
use Rattle.norprog_check.proofs.LineLemmas.{shown_parts}
use Rattle.norprog_check.proofs.line.write_finding.Goals as goal

pub returns-in-Some-clause-bytes : goal.returns-in-Some-clause-bytes
returns-in-Some-clause-bytes g c =
    Writes-then _ _ _ c.write_chip.result _ _ c.in_ok-write_verdict.ensures.bytes
    (subst (Writes (g.W.ByteOut.held c.write_verdict.new.out) (g.W.ByteOut.held c.write_chip.new.out) c.write_chip.result)
    (shown_parts c.args.found.now c.args.witness c.in-Some.chip c.in-Some.is c.if-witness.true) c.write_chip.ensures.bytes)
