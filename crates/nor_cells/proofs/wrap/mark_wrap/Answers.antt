-- Both bytes are marked.
use Rattle.nor_cells.proofs.WrapLemmas.{both_marked}
use Rattle.nor_cells.proofs.wrap.mark_wrap.Goals as goal

pub returns-in-Some : goal.returns-in-Some
returns-in-Some c =
    both_marked c.args.content.now c.args.far c.in-Some.at c.args.marks.now c.mark.new.marks c.mark-in-Some.new.marks c.in-Some.ensures c.mark.ensures c.mark-in-Some.ensures
