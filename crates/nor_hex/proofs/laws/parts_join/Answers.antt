-- The seam is where a segment begins.
use Rattle.nor_hex.proofs.WrittenSegmentLemmas.{no_segment_of_none}
use Rattle.nor_hex.proofs.WriteLemmas.{parts_of}
use Rattle.nor_hex.proofs.laws.parts_join.Goals as goal

pub returns-clause-join : goal.returns-clause-join
returns-clause-join c = λ at front rest seam. parts_of at front rest seam

pub returns-clause-none : goal.returns-clause-none
returns-clause-none c = λ at. no_segment_of_none 65536 at
