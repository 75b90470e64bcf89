-- The first options were added.
use Rattle.std.proofs.Common.{◌≡◌, map, take}
use Rattle.clap.specs.Words.{app_of}
use Rattle.norprog_options.specs.Table.{option_of, with_options}
use Rattle.norprog_options.proofs.commands.with_choices.Given as goal

abbrev pub invariant-loop-choice : goal.invariant-loop-choice
invariant-loop-choice l = app_of l.command ≡ with_options (app_of l.initial.command) (map option_of (take l.choice-index l.choices))
