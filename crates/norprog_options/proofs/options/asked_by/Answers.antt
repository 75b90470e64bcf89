-- The matches of the words are those of the program.
use Rattle.std.proofs.Common.{map, rules, string_bytes}
use Rattle.norprog_options.proofs.SpelledLemmas.{refused, spelled, unasked}
use Rattle.norprog_options.proofs.options.asked_by.Goals as goal

pub returns-in_ok-details_in-in-Ok-clause-line : goal.returns-in_ok-details_in-in-Ok-clause-line
returns-in_ok-details_in-in-Ok-clause-line c =
    spelled _ _ _ _ c.in_ok-command.ensures c.in-Ok.ensures.matches c.in-Ok.ensures.kinds c.in_ok-asked_in-in-Ok.ensures.asked c.in_ok-details_in-in-Ok.ensures.done

pub returns-in_err-asked_in-in-Ok-clause-refused : goal.returns-in_err-asked_in-in-Ok-clause-refused
returns-in_err-asked_in-in-Ok-clause-refused c =
    let told = unasked _ (map string_bytes c.args.words.now) _ _ c.in_ok-command.ensures c.in-Ok.ensures.matches c.in-Ok.ensures.kinds c.in_err-asked_in-in-Ok.ensures.refused in
    search (told, rules)

pub returns-in-Err-clause-refused : goal.returns-in-Err-clause-refused
returns-in-Err-clause-refused c = refused _ _ c.in-Err.error _ c.in_ok-command.ensures c.in-Err.ensures.kinds c.refusal_of.ensures
