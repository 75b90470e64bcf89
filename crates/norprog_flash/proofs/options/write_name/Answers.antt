-- A blank, and the word.
use Rattle.std.proofs.Common.{ℕ, List, subst}
use Rattle.std.specs.Prelude.{codes}
use Rattle.nor_base.specs.Device.{Writes}
use Rattle.nor_base.proofs.DeviceLaws.{Writes-then}
use Rattle.norprog_device.specs.Shell.{shell_word}
use Rattle.norprog_flash.proofs.options.write_name.Goals as goal

pub returns-clause-bytes : goal.returns-clause-bytes
returns-clause-bytes g c =
    Writes-then _ _ _ c.write_word.result (codes " ") (shell_word c.args.name.now) c.in_ok-put_all.ensures.bytes
    (subst (λ (t : List ℕ). Writes (g.W.ByteOut.held c.put_all.new.writer) (g.W.ByteOut.held c.write_word.new.writer) c.write_word.result (shell_word t))
    c.as_slice.ensures c.write_word.ensures.bytes)
