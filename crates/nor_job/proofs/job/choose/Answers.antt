-- Without a layout the whole chip is chosen.
use Rattle.std.proofs.Common.{rules}
use Rattle.nor_job.proofs.LayoutLemmas.{all_without_a_layout}
use Rattle.nor_job.proofs.job.choose.Goals as goal

pub returns-in-None-clause-chosen : goal.returns-in-None-clause-chosen
returns-in-None-clause-chosen c = λ image imaged. rw c.whole.ensures (all_without_a_layout c.args.inputs.now image (search rules) imaged)
