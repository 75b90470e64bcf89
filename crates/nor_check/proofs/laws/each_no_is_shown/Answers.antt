-- By the chips of the page whose verdict is the earliest.
use Rattle.nor_check.proofs.Shows.{each_no_is_shown, few_reads}
use Rattle.nor_check.proofs.laws.each_no_is_shown.Goals as goal

pub returns-clause-shown : goal.returns-clause-shown
returns-clause-shown c = each_no_is_shown c.polls.ensures.ends c.verifying_reads.ensures

pub returns-clause-few : goal.returns-clause-few
returns-clause-few c = few_reads
