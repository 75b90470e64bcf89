-- The words around the name.
use Rattle.std.proofs.Common.{ℕ, List, ◌++◌, subst}
use Rattle.std.specs.Prelude.{codes}
use Rattle.std.specs.Io.KnownBytes.{Appends}
use Rattle.nor_base.specs.Device.{Cuts}
use Rattle.norprog_device.specs.Shell.{shell_word}
use Rattle.norprog_device.proofs.PartLemmas.{all_three, first_cut, second_cut}
use Rattle.norprog_device.proofs.setting.write_front.Goals as goal

pub returns-in_err-put_all-clause-bytes : goal.returns-in_err-put_all-clause-bytes
returns-in_err-put_all-clause-bytes g c =
    first_cut _ _ c.from_residual.result (codes "waiting for ") (shell_word c.args.device.now ++ codes "; if nothing follows, set it: ")
    c.from_residual.ensures.0 c.in_err-put_all.ensures.bytes

pub returns-in_err-write_word-clause-bytes : goal.returns-in_err-write_word-clause-bytes
returns-in_err-write_word-clause-bytes g c =
    second_cut _ _ _ c.from_residual-in_err-write_word.result (codes "waiting for ") (shell_word c.args.device.now) (codes "; if nothing follows, set it: ")
    c.from_residual-in_err-write_word.ensures.0 c.in_ok-put_all.ensures.bytes
    (subst (λ (t : List ℕ). Cuts (g.W.ByteOut.held c.put_all.new.writer) (g.W.ByteOut.held c.write_word.new.writer) (shell_word t))
    c.as_bytes.ensures.value c.in_err-write_word.ensures.bytes)

pub returns-clause-bytes : goal.returns-clause-bytes
returns-clause-bytes g c =
    all_three _ _ _ _ c.put_all-2.result (codes "waiting for ") (shell_word c.args.device.now) (codes "; if nothing follows, set it: ") c.in_ok-put_all.ensures.bytes
    (subst (λ (t : List ℕ). Appends (g.W.ByteOut.held c.put_all.new.writer) (g.W.ByteOut.held c.write_word.new.writer) (shell_word t))
    c.as_bytes.ensures.value c.in_ok-write_word.ensures.bytes) c.put_all-2.ensures.bytes
