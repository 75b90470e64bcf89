-- What was written is what is to be written of the ending.
use Rattle.std.proofs.Common.{Bool, [], if◌then◌else◌, subst}
use Rattle.nor_base.specs.Device.{Writes}
use Rattle.norprog_player.specs.State.{state_line}
use Rattle.norprog_player.proofs.state.write_state.Goals as goal

pub returns-then-is_partial-clause-bytes : goal.returns-then-is_partial-clause-bytes
returns-then-is_partial-clause-bytes g c =
    subst (λ (b : Bool). Writes (g.E.ByteOut.held c.args.err.now) (g.E.ByteOut.held c.put_all.new.writer) c.put_all.result (if b then state_line else []))
    c.if-is_partial.ensures c.put_all.ensures.bytes
