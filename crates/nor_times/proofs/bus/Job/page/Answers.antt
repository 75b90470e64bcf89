-- A page has at most 4096 bytes.
use Rattle.nor_times.proofs.SizeLemmas.{page_at_most}
use Rattle.nor_times.proofs.bus.Job.page.Goals as goal

pub returns-clause-small : goal.returns-clause-small
returns-clause-small c = page_at_most _ c.meaning.invariant
