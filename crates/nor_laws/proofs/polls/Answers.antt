-- A poll counts down the status reads that are left.
use Rattle.nor_laws.proofs.PollLaws.{poll_ends, poll_count, poll_needs_all}
use Rattle.nor_laws.proofs.polls.Goals as goal

pub returns-clause-ends : goal.returns-clause-ends
returns-clause-ends c s chip = poll_ends s chip chip.left

pub returns-clause-count : goal.returns-clause-count
returns-clause-count c s chip = poll_count s chip chip.left

pub returns-clause-all : goal.returns-clause-all
returns-clause-all c s chip turns fits = poll_needs_all s chip turns chip.left fits
