-- The settings of the program, and one more command.
use Rattle.std.proofs.Common.{ap}
use Rattle.clap.specs.Words.{App}
use Rattle.norprog_options.proofs.TableLemmas.{is_local, one_more, settled}
use Rattle.norprog_options.proofs.commands.norprog.Goals as goal

pub loop-form-init : goal.loop-form-init
loop-form-init c =
    settled _ _ _ _ _ _ _ _ _ c.in_ok-bin_name.ensures.0 c.about.ensures c.no_binary_name.ensures c.subcommand_required.ensures
    c.version-program.ensures c.new.ensures.app

pub loop-form-preserved : goal.loop-form-preserved
loop-form-preserved c =
    one_more _ _ _ _ _ _ c.loop-form-test.true c.loop-form.invariant
    (c.in_ok-program.ensures.shape (is_local _ (ap (λ (a : App). a.top.is_plain) c.in_ok-command_of.ensures)))
    (ap (λ (a : App). a.top) c.in_ok-command_of.ensures)
