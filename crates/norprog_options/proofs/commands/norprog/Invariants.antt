-- The first commands were added.
use Rattle.std.proofs.Common.{◌≡◌, map, take}
use Rattle.clap.specs.Words.{app_of}
use Rattle.norprog_options.specs.Table.{command_of}
use Rattle.norprog_options.proofs.TableLemmas.{so_far}
use Rattle.norprog_options.proofs.commands.norprog.Given as goal

abbrev pub invariant-loop-form : goal.invariant-loop-form
invariant-loop-form l = app_of l.program ≡ so_far (map command_of (take l.form-index l.form-items))
