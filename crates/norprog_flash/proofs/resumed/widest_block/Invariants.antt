-- The widest block of the cells so far.
use Rattle.norprog_flash.proofs.ResumedLemmas.{FineBelow}
use Rattle.norprog_flash.proofs.resumed.widest_block.Given as goal

abbrev pub invariant-loop-cell : goal.invariant-loop-cell
invariant-loop-cell l = FineBelow l.meaning l.cell l.size
