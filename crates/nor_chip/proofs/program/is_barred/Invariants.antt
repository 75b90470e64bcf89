-- Each byte so far may be programmed where it goes.
use Rattle.nor_chip.specs.Sent.{sent}
use Rattle.nor_chip.proofs.KernelLemmas.{MayAllUpTo}
use Rattle.nor_chip.proofs.program.is_barred.Given as goal

abbrev pub invariant-loop-index : goal.invariant-loop-index
invariant-loop-index l = MayAllUpTo l.meaning l.page l.seen.address (sent l.seen) l.array l.index
