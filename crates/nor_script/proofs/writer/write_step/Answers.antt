-- The line of a step by its kind.
use Rattle.std.proofs.Common.{subst}
use Rattle.nor_base.specs.Device.{Writes}
use Rattle.nor_script.proofs.VerifyLemmas.{send_line, poll_line, verify_line_lem}
use Rattle.nor_script.proofs.writer.write_step.Goals as goal

pub returns-in-Send-clause-bytes : goal.returns-in-Send-clause-bytes
returns-in-Send-clause-bytes g c =
    subst (Writes (g.W.ByteOut.held c.args.writer.now) (g.W.ByteOut.held c.write_send.new.writer) c.write_send.result)
    (send_line c.args.step.now c.in-Send.clocks c.as_slice.result.now c.in-Send.is c.as_slice.ensures) c.write_send.ensures.bytes

pub returns-in-Poll-clause-bytes : goal.returns-in-Poll-clause-bytes
returns-in-Poll-clause-bytes g c =
    subst (Writes (g.W.ByteOut.held c.args.writer.now) (g.W.ByteOut.held c.write_poll.new.writer) c.write_poll.result)
    (poll_line c.args.step.now c.in-Poll.clocks c.as_slice-in-Poll.result.now c.in-Poll.is c.as_slice-in-Poll.ensures) c.write_poll.ensures.bytes

pub returns-in-Verify-clause-bytes : goal.returns-in-Verify-clause-bytes
returns-in-Verify-clause-bytes g c =
    subst (Writes (g.W.ByteOut.held c.args.writer.now) (g.W.ByteOut.held c.write_verify.new.writer) c.write_verify.result)
    (verify_line_lem c.args.step.now c.in-Verify.clocks c.in-Verify.expect c.as_slice-in-Verify.result.now c.as_slice-in-Verify-2.result.now c.in-Verify.is
    c.as_slice-in-Verify.ensures c.as_slice-in-Verify-2.ensures) c.write_verify.ensures.bytes
