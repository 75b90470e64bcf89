-- Nothing is marked.
use Rattle.nor_map.proofs.MarkLemmas.{marks_begun}
use Rattle.nor_map.proofs.marks.PlanMarks.new.Goals as goal

pub returns : goal.returns
returns c =
    marks_begun c.args.size c.args.page c.cell_size-cell.result c.div_ceil-count.result c.args.wanted _ _ _ c.cell_size-cell.ensures.value c.div_ceil-count.ensures
    c.in_ok-unmarked.ensures c.in_ok-unmarked-2.ensures c.in_ok-uncounted.ensures
