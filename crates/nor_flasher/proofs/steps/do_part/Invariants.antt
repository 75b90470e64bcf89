-- The rows so far were done.
use Rattle.std.proofs.Common.{◌≡◌, ◌++◌, List, length}
use Rattle.nor_base.specs.declared.step.Step.{Step}
use Rattle.nor_base.specs.Wire.{wire}
use Rattle.nor_serprog.specs.Done.{HasDoneAll}
use Rattle.nor_flasher.proofs.steps.do_part.Given as goal

abbrev pub invariant-loop-rest : goal.invariant-loop-rest
invariant-loop-rest g l = record {
  does : (front : List Step) × (l.steps ≡ front ++ l.rest)
      × HasDoneAll (wire (g.W.ByteOut.held l.fn.to) (g.R.ByteIn.ahead l.fn.from)) (wire (g.W.ByteOut.held l.to) (g.R.ByteIn.ahead l.from)) l.limits l.turns front;
  reads : g.R.ByteIn.count l.from ≡ g.R.ByteIn.count l.fn.from;
  writes : g.W.ByteOut.count l.to ≡ g.W.ByteOut.count l.fn.to;
}

abbrev pub decreases-loop-rest : goal.decreases-loop-rest
decreases-loop-rest g l = length l.rest
