-- The command that was used is the one whose options are read.
use Rattle.std.proofs.Common.{◌∙◌, ap₂, refl}
use Rattle.clap.specs.Words.{found_of}
use Rattle.norprog_options.specs.Options.{flash_name}
use Rattle.norprog_options.proofs.UsedLemmas.{used_as, used_by}
use Rattle.norprog_options.proofs.options.meaning_asked.Goals as goal

pub returns-in-Some-clause-asked : goal.returns-in-Some-clause-asked
returns-in-Some-clause-asked c = record {
  found = found_of c.in-Some.read.now;
  used = used_by _ _ _ (c.in-Some.ensures.found.0 refl) c.in-Some.ensures.rows;
  so = c.read_in.ensures;
}

pub returns-in-Some-subcommand_matches-clause-asked : goal.returns-in-Some-subcommand_matches-clause-asked
returns-in-Some-subcommand_matches-clause-asked c = record {
  found = found_of c.in-Some-subcommand_matches.flash.now;
  used = used_as _ _ _ _ (used_by _ _ _ (c.in-Some-subcommand_matches.ensures.found.0 refl) c.in-Some-subcommand_matches.ensures.rows)
      (ap₂ flash_name c.in_ok-flash_in.ensures.aim.0 c.in_ok-flash_in.ensures.aim.1 ∙ c.aim_in.ensures.named.1);
  so = c.in_ok-flash_in.ensures.done;
}

pub returns-in-Some-subcommand_matches-2-clause-asked : goal.returns-in-Some-subcommand_matches-2-clause-asked
returns-in-Some-subcommand_matches-2-clause-asked c = record {
  found = found_of c.in-Some-subcommand_matches-2.erase.now;
  used = used_as _ _ _ _ (used_by _ _ _ (c.in-Some-subcommand_matches-2.ensures.found.0 refl) c.in-Some-subcommand_matches-2.ensures.rows)
      (ap₂ flash_name c.in_ok-flash_in-2.ensures.aim.0 c.in_ok-flash_in-2.ensures.aim.1 ∙ c.aim_in-in-Some-subcommand_matches-2.ensures.named.0);
  so = c.in_ok-flash_in-2.ensures.done;
}

pub returns-in-Some-subcommand_matches-3-clause-asked : goal.returns-in-Some-subcommand_matches-3-clause-asked
returns-in-Some-subcommand_matches-3-clause-asked c = record {
  found = found_of c.in-Some-subcommand_matches-3.compare.now;
  used = used_as _ _ _ _ (used_by _ _ _ (c.in-Some-subcommand_matches-3.ensures.found.0 refl) c.in-Some-subcommand_matches-3.ensures.rows)
      (ap₂ flash_name c.in_ok-flash_in-3.ensures.aim.0 c.in_ok-flash_in-3.ensures.aim.1);
  so = c.in_ok-flash_in-3.ensures.done;
}

pub returns-in-Some-subcommand_matches-4-clause-asked : goal.returns-in-Some-subcommand_matches-4-clause-asked
returns-in-Some-subcommand_matches-4-clause-asked c = record {
  found = found_of c.in-Some-subcommand_matches-4.chip.now;
  used = used_by _ _ _ (c.in-Some-subcommand_matches-4.ensures.found.0 refl) c.in-Some-subcommand_matches-4.ensures.rows;
  so = c.chip_in.ensures;
}

pub returns-in-Some-subcommand_matches-5-clause-asked : goal.returns-in-Some-subcommand_matches-5-clause-asked
returns-in-Some-subcommand_matches-5-clause-asked c = record {
  found = found_of c.in-Some-subcommand_matches-5.hex.now;
  used = used_by _ _ _ (c.in-Some-subcommand_matches-5.ensures.found.0 refl) c.in-Some-subcommand_matches-5.ensures.rows;
  so = c.hex_in.ensures;
}

pub returns-in-Some-subcommand_matches-6-clause-asked : goal.returns-in-Some-subcommand_matches-6-clause-asked
returns-in-Some-subcommand_matches-6-clause-asked c = record {
  found = found_of c.in-Some-subcommand_matches-6.script.now;
  used = used_by _ _ _ (c.in-Some-subcommand_matches-6.ensures.found.0 refl) c.in-Some-subcommand_matches-6.ensures.rows;
  so = c.script_in.ensures;
}

pub returns-in-Some-2-clause-asked : goal.returns-in-Some-2-clause-asked
returns-in-Some-2-clause-asked c = record {
  found = found_of c.in-Some-subcommand_matches-7.explain.now;
  used = used_by _ _ _ (c.in-Some-subcommand_matches-7.ensures.found.0 refl) c.in-Some-subcommand_matches-7.ensures.rows;
  so = rw c.in-Some-2.is at c.in_ok-text.ensures.help;
}

pub returns-in-Some-subcommand_matches-7-clause-asked : goal.returns-in-Some-subcommand_matches-7-clause-asked
returns-in-Some-subcommand_matches-7-clause-asked c = record {
  found = found_of c.in-Some-subcommand_matches-7.explain.now;
  used = used_by _ _ _ (c.in-Some-subcommand_matches-7.ensures.found.0 refl) c.in-Some-subcommand_matches-7.ensures.rows;
  so = c.in_ok-texts_in.ensures.done;
}
