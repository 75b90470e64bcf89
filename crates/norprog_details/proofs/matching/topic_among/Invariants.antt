-- None of the first topics is it.
use Rattle.std.proofs.Common.{◌≡◌, None, take}
use Rattle.std.specs.List.{find}
use Rattle.norprog_details.specs.Explained.{told, is_about}
use Rattle.norprog_details.specs.Matching.{row_of}
use Rattle.norprog_details.proofs.matching.topic_among.Given as goal

abbrev pub invariant-loop-topic : goal.invariant-loop-topic
invariant-loop-topic l = find (is_about (row_of l.asked)) (told (take l.topic-index l.topics)) ≡ None
