-- What came back of reads by 13h.
use Rattle.nor_loop.proofs.FourLemmas.{four_reads_read, both_read}
use Rattle.nor_loop.proofs.four_reads.Goals as goal

pub returns-clause-four : goal.returns-clause-four
returns-clause-four c = four_reads_read c.spelling.ensures.has

pub returns-clause-both : goal.returns-clause-both
returns-clause-both c = both_read
