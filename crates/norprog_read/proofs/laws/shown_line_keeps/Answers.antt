-- By the bytes that each setting leaves out.
use Rattle.norprog_read.proofs.LawLemmas as law
use Rattle.norprog_read.proofs.laws.shown_line_keeps.Goals as goal

pub returns : goal.returns
returns c = law.shown_line_keeps
