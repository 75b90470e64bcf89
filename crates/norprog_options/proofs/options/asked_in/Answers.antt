-- The command that was used is the one whose options are read.
use Rattle.std.proofs.Common.{refl}
use Rattle.clap.specs.Words.{found_of}
use Rattle.norprog_options.proofs.UsedLemmas.{used_by}
use Rattle.norprog_options.proofs.options.asked_in.Goals as goal

pub returns-in-Some-clause-asked : goal.returns-in-Some-clause-asked
returns-in-Some-clause-asked c = record {
  found = found_of c.in-Some.build.now;
  used = used_by _ _ _ (c.in-Some.ensures.found.0 refl) c.in-Some.ensures.rows;
  so = c.in_ok-build_in.ensures.done;
}

pub returns-in-Some-subcommand_matches-clause-asked : goal.returns-in-Some-subcommand_matches-clause-asked
returns-in-Some-subcommand_matches-clause-asked c = record {
  found = found_of c.in-Some-subcommand_matches.plan.now;
  used = used_by _ _ _ (c.in-Some-subcommand_matches.ensures.found.0 refl) c.in-Some-subcommand_matches.ensures.rows;
  so = c.in_ok-plan_in.ensures.done;
}

pub returns-in-Some-subcommand_matches-2-clause-asked : goal.returns-in-Some-subcommand_matches-2-clause-asked
returns-in-Some-subcommand_matches-2-clause-asked c = record {
  found = found_of c.in-Some-subcommand_matches-2.check.now;
  used = used_by _ _ _ (c.in-Some-subcommand_matches-2.ensures.found.0 refl) c.in-Some-subcommand_matches-2.ensures.rows;
  so = c.in_ok-check_in.ensures.done;
}
