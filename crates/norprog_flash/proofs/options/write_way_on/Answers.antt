-- What sets the terminal, and the command.
use Rattle.std.proofs.Common.{option_map}
use Rattle.nor_base.proofs.DeviceLaws.{Writes-then}
use Rattle.norprog_flash.specs.State.{next_command, set_text}
use Rattle.norprog_flash.proofs.options.write_way_on.Goals as goal

pub returns-clause-bytes : goal.returns-clause-bytes
returns-clause-bytes g c =
    Writes-then _ _ _ c.write_command.result (set_text (option_map (λ t. t.now) c.args.given.now.device)) (next_command c.args.given.now)
    c.in_ok-write_set.ensures.bytes c.write_command.ensures.bytes
