-- The bytes so far are written.
use Rattle.nor_chip.specs.Sent.{sent}
use Rattle.nor_chip.proofs.KernelLemmas.{IsWrittenUpTo}
use Rattle.nor_chip.proofs.program.program.Given as goal

abbrev pub invariant-loop-index : goal.invariant-loop-index
invariant-loop-index l = IsWrittenUpTo l.page l.seen.address (sent l.seen) l.fn.array l.array l.index
