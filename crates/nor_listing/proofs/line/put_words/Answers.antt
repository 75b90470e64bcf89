-- The words of the step by its kind.
use Rattle.std.proofs.Common.{◌≡◌, subst}
use Rattle.std.specs.Prelude.{IfOk}
use Rattle.std.specs.Io.KnownBytes.{Appends}
use Rattle.nor_base.specs.Device.{Cuts, Writes}
use Rattle.nor_base.proofs.DeviceLaws.{Writes-cut}
use Rattle.nor_listing.proofs.StepLemmas.{send_words_are, send_mode_is, poll_words_are, poll_mode_is, verify_words_are, verify_mode_is}
use Rattle.nor_listing.proofs.line.put_words.Goals as goal

pub returns-in-Send-clause-bytes : goal.returns-in-Send-clause-bytes
returns-in-Send-clause-bytes g c =
    subst (Writes (g.W.ByteOut.held c.args.out.now) (g.W.ByteOut.held c.put_sent.new.out) c.put_sent.result)
    (send_words_are c.args.meaning.now c.args.mode4 c.args.step.now c.in-Send.clocks c.as_slice.result.now c.as_slice.ensures c.in-Send.is) c.put_sent.ensures.bytes

pub returns-in-Send-clause-mode : goal.returns-in-Send-clause-mode
returns-in-Send-clause-mode g c =
    subst (λ k. IfOk c.put_sent.result (λ after. after ≡ k))
    (send_mode_is c.args.meaning.now c.args.mode4 c.args.step.now c.in-Send.clocks c.as_slice.result.now c.as_slice.ensures c.in-Send.is) c.put_sent.ensures.mode

pub returns-in_err-put_poll-in-Poll-clause-bytes : goal.returns-in_err-put_poll-in-Poll-clause-bytes
returns-in_err-put_poll-in-Poll-clause-bytes g c =
    Writes-cut _ _ _ _ c.from_residual.ensures.0
    (subst (Cuts (g.W.ByteOut.held c.args.out.now) (g.W.ByteOut.held c.put_poll.new.out))
    (poll_words_are c.args.meaning.now c.args.mode4 c.args.step.now c.in-Poll.clocks c.as_slice-in-Poll.result.now c.as_slice-in-Poll.ensures c.in-Poll.is) c.in_err-put_poll-in-Poll.ensures.bytes)

pub returns-in_ok-put_poll-in-Poll-clause-bytes : goal.returns-in_ok-put_poll-in-Poll-clause-bytes
returns-in_ok-put_poll-in-Poll-clause-bytes g c =
    subst (Appends (g.W.ByteOut.held c.args.out.now) (g.W.ByteOut.held c.put_poll.new.out))
    (poll_words_are c.args.meaning.now c.args.mode4 c.args.step.now c.in-Poll.clocks c.as_slice-in-Poll.result.now c.as_slice-in-Poll.ensures c.in-Poll.is) c.in_ok-put_poll-in-Poll.ensures.bytes

pub returns-in_ok-put_poll-in-Poll-clause-mode : goal.returns-in_ok-put_poll-in-Poll-clause-mode
returns-in_ok-put_poll-in-Poll-clause-mode g c = poll_mode_is c.args.meaning.now c.args.mode4 c.args.step.now c.in-Poll.clocks c.as_slice-in-Poll.result.now c.as_slice-in-Poll.ensures c.in-Poll.is

pub returns-in_err-put_verified-in-Verify-clause-bytes : goal.returns-in_err-put_verified-in-Verify-clause-bytes
returns-in_err-put_verified-in-Verify-clause-bytes g c =
    Writes-cut _ _ _ _ c.from_residual-in_err-put_verified-in-Verify.ensures.0
    (subst (Cuts (g.W.ByteOut.held c.args.out.now) (g.W.ByteOut.held c.put_verified.new.out))
    (verify_words_are c.args.meaning.now c.args.mode4 c.args.step.now c.in-Verify.clocks c.as_slice-in-Verify.result.now c.as_slice-in-Verify.ensures
    c.in-Verify.expect c.as_slice-in-Verify-2.result.now c.as_slice-in-Verify-2.ensures c.in-Verify.is) c.in_err-put_verified-in-Verify.ensures.bytes)

pub returns-in_ok-put_verified-in-Verify-clause-bytes : goal.returns-in_ok-put_verified-in-Verify-clause-bytes
returns-in_ok-put_verified-in-Verify-clause-bytes g c =
    subst (Appends (g.W.ByteOut.held c.args.out.now) (g.W.ByteOut.held c.put_verified.new.out))
    (verify_words_are c.args.meaning.now c.args.mode4 c.args.step.now c.in-Verify.clocks c.as_slice-in-Verify.result.now c.as_slice-in-Verify.ensures
    c.in-Verify.expect c.as_slice-in-Verify-2.result.now c.as_slice-in-Verify-2.ensures c.in-Verify.is) c.in_ok-put_verified-in-Verify.ensures.bytes

pub returns-in_ok-put_verified-in-Verify-clause-mode : goal.returns-in_ok-put_verified-in-Verify-clause-mode
returns-in_ok-put_verified-in-Verify-clause-mode g c = verify_mode_is c.args.meaning.now c.args.mode4 c.args.step.now c.in-Verify.clocks c.as_slice-in-Verify.result.now c.as_slice-in-Verify.ensures c.in-Verify.expect c.in-Verify.is
