-- What comes before the command, the command, and LF.
use Rattle.std.proofs.Common.{◌++◌}
use Rattle.std.specs.Prelude.{codes}
use Rattle.norprog_flash.specs.State.{way_on}
use Rattle.norprog_flash.specs.Way.{way_front}
use Rattle.norprog_device.proofs.PartLemmas.{all_three, first_cut, second_cut}
use Rattle.norprog_flash.proofs.way.write_line.Goals as goal

pub returns-in_err-put_all-clause-bytes : goal.returns-in_err-put_all-clause-bytes
returns-in_err-put_all-clause-bytes g c =
    first_cut _ _ c.from_residual.result way_front (way_on c.args.texts.now ++ codes "\n") c.from_residual.ensures.0
    c.in_err-put_all.ensures.bytes

pub returns-in_err-write_way_on-clause-bytes : goal.returns-in_err-write_way_on-clause-bytes
returns-in_err-write_way_on-clause-bytes g c =
    second_cut _ _ _ c.from_residual-in_err-write_way_on.result way_front (way_on c.args.texts.now) (codes "\n")
    c.from_residual-in_err-write_way_on.ensures.0 c.in_ok-put_all.ensures.bytes c.in_err-write_way_on.ensures.bytes

pub returns-clause-bytes : goal.returns-clause-bytes
returns-clause-bytes g c =
    all_three _ _ _ _ c.put_all-2.result way_front (way_on c.args.texts.now) (codes "\n") c.in_ok-put_all.ensures.bytes
    c.in_ok-write_way_on.ensures.bytes c.put_all-2.ensures.bytes
