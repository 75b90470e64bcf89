-- The quad setting isn't seen.
use Rattle.nor_loop.proofs.QuadLemmas.{quad_unseen, whatever_quad, whatever_quad_part}
use Rattle.nor_loop.proofs.quad.Goals as goal

pub returns-clause-unseen : goal.returns-clause-unseen
returns-clause-unseen c = quad_unseen

pub returns-clause-whatever : goal.returns-clause-whatever
returns-clause-whatever c = whatever_quad

pub returns-clause-part : goal.returns-clause-part
returns-clause-part c = whatever_quad_part
