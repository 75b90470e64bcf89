-- The picture is drawn where there are marks.
use Rattle.norprog_plan.proofs.drawing.draw_where_asked.Goals as goal

pub returns-in-Some-clause-drawn : goal.returns-in-Some-clause-drawn
returns-in-Some-clause-drawn c = rw c.in-Some.is c.draw.ensures.drawn
