-- The options of the first groups were added.
use Rattle.std.proofs.Common.{◌≡◌, take}
use Rattle.std.specs.Prelude.{flat_map}
use Rattle.clap.specs.Words.{app_of}
use Rattle.norprog_options.specs.Table.{alone, options_of}
use Rattle.norprog_options.proofs.commands.command_of.Given as goal

abbrev pub invariant-loop-group : goal.invariant-loop-group
invariant-loop-group l = app_of l.command ≡ alone (l.fn.form.name.now, flat_map options_of (take l.group-index l.fn.form.groups.now))
