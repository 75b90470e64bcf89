-- Two readings say what the laws of logs say of one.
use Rattle.nor_reader.proofs.LawLemmas as law
use Rattle.nor_reader.proofs.laws.twice_knows.Goals as goal

pub returns : goal.returns
returns c = law.twice_knows c.reads.ensures.reading c.four_reads.ensures.four c.reads.ensures.entered_reading
