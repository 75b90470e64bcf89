-- The command, and what joins it to the next one.
use Rattle.std.proofs.Common.{◌++◌}
use Rattle.std.specs.Prelude.{codes}
use Rattle.nor_base.proofs.DeviceLaws.{Cuts-more, Writes-cut, Writes-then}
use Rattle.norprog_device.specs.Setting.{stty_command}
use Rattle.norprog_flash.proofs.options.write_setting.Goals as goal

pub returns-in_err-write_stty-clause-bytes : goal.returns-in_err-write_stty-clause-bytes
returns-in_err-write_stty-clause-bytes g c =
    Writes-cut _ _ _ (stty_command c.args.device.now ++ codes " && ") c.from_residual.ensures.0
    (Cuts-more _ _ (stty_command c.args.device.now) (codes " && ") c.in_err-write_stty.ensures.bytes)

pub returns-clause-bytes : goal.returns-clause-bytes
returns-clause-bytes g c =
    Writes-then _ _ _ c.put_all.result (stty_command c.args.device.now) (codes " && ") c.in_ok-write_stty.ensures.bytes c.put_all.ensures.bytes
