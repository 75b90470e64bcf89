-- None of the first subjects has such a topic.
use Rattle.std.proofs.Common.{◌≡◌, None, take}
use Rattle.std.specs.List.{find}
use Rattle.norprog_details.specs.Explained.{in_order, is_about}
use Rattle.norprog_details.specs.Matching.{row_of}
use Rattle.norprog_details.proofs.matching.topic_of.Given as goal

abbrev pub invariant-loop-topics : goal.invariant-loop-topics
invariant-loop-topics l = find (is_about (row_of l.asked)) (in_order (take l.topics-index l.subjects)) ≡ None
