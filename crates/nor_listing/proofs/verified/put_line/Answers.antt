-- The word was put, and then the line.
use Rattle.std.proofs.Common.{subst}
use Rattle.nor_base.specs.declared.step.Step.TheVariants.{Verify}
use Rattle.nor_base.specs.Device.{Writes}
use Rattle.nor_base.specs.Script.{closed, step_line}
use Rattle.nor_base.proofs.DeviceLaws.{Writes-then}
use Rattle.nor_listing.proofs.LineLemmas.{closed_then}
use Rattle.nor_listing.proofs.verified.put_line.Goals as goal

pub returns-clause-bytes : goal.returns-clause-bytes
returns-clause-bytes g c =
    let script = step_line (Verify c.args.clocks.now c.args.expect.now) in
    subst (Writes (g.W.ByteOut.held c.args.out.now) (g.W.ByteOut.held c.write_verify.new.writer) c.write_verify.result) (closed_then c.args.word.now script)
    (Writes-then _ _ _ _ c.args.word.now (closed script) c.in_ok-put_all.ensures.bytes c.write_verify.ensures.bytes)
