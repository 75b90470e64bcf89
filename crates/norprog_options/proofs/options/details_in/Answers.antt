-- The command that was used has this name, and these options.
use Rattle.std.proofs.Common.{◌≡◌, ℕ, List, Option, Some, None, Result, Ok, Err, IfOk}
use Rattle.std.specs.Prelude.{option_map}
use Rattle.clap.specs.Words.{found_of, rows_of, subcommand_name_of, subcommand_rows_of}
use Rattle.clap.specs.declared.parser.matches.ArgMatches.{ArgMatches}
use Rattle.clap.specs.declared.parser.matches.Found.{Found}
use Rattle.norprog_common.specs.declared.faults.Refusal.{Refusal}
use Rattle.norprog_options.specs.declared.typed.TypedLine.{TypedLine}
use Rattle.norprog_options.specs.Typed.{IsDetailed, IsDetailedBy}
use Rattle.norprog_options.proofs.UsedLemmas.{detailed, undetailed}
use Rattle.norprog_options.proofs.options.details_in.Goals as goal

lifted : (matches : ArgMatches) (command : List ℕ) (found : Found) (r : Result (Option TypedLine) Refusal)
    → Some command ≡ subcommand_name_of matches → Some (rows_of found) ≡ option_map (λ used. used.1) (subcommand_rows_of matches)
    → IfOk r (IsDetailedBy command found) → IfOk r (IsDetailed matches)
lifted matches command found (Ok details) named rows is = detailed matches command found details named rows is
lifted matches command found (Err why) named rows is = tt

pub returns-in-Some-clause-done : goal.returns-in-Some-clause-done
returns-in-Some-clause-done c =
    lifted c.args.matches.now c.in-Some.command.now (found_of c.in-Some.used.now) c.details_of.result c.in-Some.ensures.name c.in-Some.ensures.rows c.details_of.ensures.done

pub returns-in-None-clause-done : goal.returns-in-None-clause-done
returns-in-None-clause-done c = undetailed c.args.matches.now None c.in-None.ensures.name
