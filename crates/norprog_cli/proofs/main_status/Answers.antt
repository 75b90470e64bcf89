-- How the words' command ended, and what is told of the object behind it.
use Rattle.norprog_cli.specs.Ends.{AsAnswered}
use Rattle.norprog_cli.proofs.EndsLemmas.{accounted}
use Rattle.norprog_cli.proofs.main_status.Goals as goal

pub returns-in-Some : goal.returns-in-Some
returns-in-Some g c =
    accounted (λ s. g.E.ByteOut.held s.out) (λ s. g.E.ByteOut.count s.out) c.answer_system-status.ensures.quiet c.answer_system-status.ensures.ends c.add_object.ensures

pub returns : goal.returns
returns g c = AsAnswered _ c.answer_system-status.ensures.ends
