-- What comes before the command, the command, and LF.
use Rattle.std.proofs.Common.{◌++◌}
use Rattle.std.specs.Prelude.{codes}
use Rattle.norprog_device.specs.Setting.{stty_command, waiting_front}
use Rattle.norprog_device.proofs.PartLemmas.{all_three, first_cut, second_cut}
use Rattle.norprog_device.proofs.setting.write_waiting.Goals as goal

pub returns-in_err-write_front-clause-bytes : goal.returns-in_err-write_front-clause-bytes
returns-in_err-write_front-clause-bytes g c =
    first_cut _ _ c.from_residual.result (waiting_front c.args.device.now) (stty_command c.args.device.now ++ codes "\n") c.from_residual.ensures.0
    c.in_err-write_front.ensures.bytes

pub returns-in_err-write_stty-clause-bytes : goal.returns-in_err-write_stty-clause-bytes
returns-in_err-write_stty-clause-bytes g c =
    second_cut _ _ _ c.from_residual-in_err-write_stty.result (waiting_front c.args.device.now) (stty_command c.args.device.now) (codes "\n")
    c.from_residual-in_err-write_stty.ensures.0 c.in_ok-write_front.ensures.bytes c.in_err-write_stty.ensures.bytes

pub returns-clause-bytes : goal.returns-clause-bytes
returns-clause-bytes g c =
    all_three _ _ _ _ c.put_all.result (waiting_front c.args.device.now) (stty_command c.args.device.now) (codes "\n")
    c.in_ok-write_front.ensures.bytes c.in_ok-write_stty.ensures.bytes c.put_all.ensures.bytes
