-- The cells of these lines are marked too.
use Rattle.std.proofs.Common.{◌+◌, ◌∙◌, ap, arith}
use Rattle.nor_map.proofs.MarkLemmas.{all_counted, all_marked, marks_added}
use Rattle.nor_map.proofs.marks.PlanMarks.add.Goals as goal

pub returns-clause-added : goal.returns-clause-added
returns-clause-added c = λ size page wanted told is.
    marks_added size page wanted told c.args.lines.now _ _ _ _ _ _ (c.self.view_is ∙ is)
    (all_marked _ _ _ _ _ _ _ _ c.from-cell.ensures c.as_mut_slice.ensures.value (omega arith) c.mark_lines.ensures)
    (all_marked _ _ _ _ _ _ _ _ c.from-cell.ensures c.as_mut_slice-2.ensures.value (omega arith) c.mark_lines-2.ensures)
    (all_counted _ _ _ _ _ _ _ c.as_mut_slice-3.ensures.value (omega arith) c.count_lines.ensures)
    (ap (λ n. c.self.inside.blocks + n) c.erase_count.ensures) (ap (λ n. c.self.inside.programs + n) c.program_count.ensures)
