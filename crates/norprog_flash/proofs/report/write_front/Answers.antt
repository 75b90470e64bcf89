-- The name is between the two texts.
use Rattle.std.proofs.Common.{ℕ, List, subst}
use Rattle.nor_base.specs.Device.{Writes}
use Rattle.norprog_flash.specs.State.{state_front}
use Rattle.norprog_flash.proofs.report.write_front.Goals as goal

pub returns-clause-bytes : goal.returns-clause-bytes
returns-clause-bytes g c =
    subst (λ (name : List ℕ). Writes (g.E.ByteOut.held c.args.err.now) (g.E.ByteOut.held c.put_parts.new.writer) c.put_parts.result
    (state_front name)) c.as_bytes.ensures.value c.put_parts.ensures.bytes
