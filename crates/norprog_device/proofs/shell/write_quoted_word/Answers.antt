-- The quotes, and the text between them.
use Rattle.std.proofs.Common.{[], ◌∷◌}
use Rattle.std.specs.Prelude.{flat_map}
use Rattle.norprog_device.specs.Shell.{quoted}
use Rattle.norprog_device.proofs.PartLemmas.{all_three, second_cut}
use Rattle.norprog_device.proofs.shell.write_quoted_word.Goals as goal

pub returns-in_err-write_quoted-clause-bytes : goal.returns-in_err-write_quoted-clause-bytes
returns-in_err-write_quoted-clause-bytes g c =
    second_cut _ _ _ c.from_residual-in_err-write_quoted.result (0x27 ∷ []) (flat_map quoted c.args.text.now) (0x27 ∷ [])
    c.from_residual-in_err-write_quoted.ensures.0 c.in_ok-put_all.ensures.bytes c.in_err-write_quoted.ensures.bytes

pub returns-clause-bytes : goal.returns-clause-bytes
returns-clause-bytes g c =
    all_three _ _ _ _ c.put_all-2.result (0x27 ∷ []) (flat_map quoted c.args.text.now) (0x27 ∷ []) c.in_ok-put_all.ensures.bytes
    c.in_ok-write_quoted.ensures.bytes c.put_all-2.ensures.bytes
