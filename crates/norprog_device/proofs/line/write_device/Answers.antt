-- The parts joined are the line.
use Rattle.std.proofs.Common.{ℕ, List, [], ◌∷◌, ◌++◌, subst}
use Rattle.std.specs.Prelude.{codes}
use Rattle.nor_base.specs.Device.{Writes}
use Rattle.norprog_device.proofs.line.write_device.Goals as goal

pub returns-clause-bytes : goal.returns-clause-bytes
returns-clause-bytes g c =
    subst (λ (word : List ℕ). Writes (g.E.ByteOut.held c.args.err.now) (g.E.ByteOut.held c.put_parts.new.writer) c.put_parts.result
    (codes "norprog: device " ++ (word ++ (0x0A ∷ []))))
    c.device_word.ensures c.put_parts.ensures.bytes
