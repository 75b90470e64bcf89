-- They do the same on every chip; or what they do is told from their clocks.
use Rattle.norprog_player.proofs.TakenLemmas.{left_same}
use Rattle.norprog_player.proofs.rehearsal.rehearse.Goals as goal

pub returns-in-Some : goal.returns-in-Some
returns-in-Some c = left_same c.args.meaning.now c.args.start c.args.content.now c.in-Some.left c.args.steps.now (rw c.in-Some.is at c.in_ok-left.ensures)
