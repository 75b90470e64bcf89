-- What was written is what is to be written of the ending.
use Rattle.std.proofs.Common.{Bool, [], if◌then◌else◌, subst}
use Rattle.nor_base.specs.Device.{Writes}
use Rattle.norprog_flash.specs.State.{state_line}
use Rattle.norprog_flash.proofs.report.write_state.Goals as goal

pub returns-then-is_partial-clause-bytes : goal.returns-then-is_partial-clause-bytes
returns-then-is_partial-clause-bytes g c =
    subst (λ (b : Bool). Writes (g.E.ByteOut.held c.args.err.now) (g.E.ByteOut.held c.write_line.new.err) c.write_line.result
    (if b then state_line c.args.given.now else [])) c.if-is_partial.ensures c.write_line.ensures.bytes
