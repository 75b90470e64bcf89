-- The older dump in its place.
use Rattle.std.proofs.Common.{ap, option_map, refl}
use Rattle.norprog_flash.specs.Stops.{NoPlace}
use Rattle.norprog_flash.proofs.StopsLemmas.{other_part}
use Rattle.norprog_flash.proofs.begun.laid_on.Goals as goal

pub returns-then-not-is_of_part-clause-refused : goal.returns-then-not-is_of_part-clause-refused
returns-then-not-is_of_part-clause-refused c = λ text.
    other_part c.args.job.now c.args.reading.now text _ _ _ (ap (option_map (λ dump. dump.now)) c.in-Some.is) c.as_slice-content.ensures.value c.is_of_part.ensures
    c.if-not-is_of_part.true

pub returns-in-Err-clause-refused : goal.returns-in-Err-clause-refused
returns-in-Err-clause-refused c = λ text. NoPlace refl
