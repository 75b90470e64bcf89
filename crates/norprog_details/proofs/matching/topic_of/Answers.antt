-- This subject has it, or not.
use Rattle.std.proofs.Common.{ℕ, sym, ◌∙◌, ap, add-one, take}
use Rattle.std.specs.List.{find}
use Rattle.norprog_details.specs.Explained.{is_about, told, in_order}
use Rattle.norprog_details.specs.Matching.{row_of}
use Rattle.norprog_details.proofs.SubjectLemmas.{found_at, none_more}
use Rattle.norprog_details.proofs.matching.topic_of.Goals as goal

pub returns-in-Some : goal.returns-in-Some
returns-in-Some c =
    sym (found_at (is_about (row_of c.args.asked)) (λ topics. told topics.now) c.args.subjects.now c.loop-topics.topics-index _ _ c.loop-topics-test.true c.loop-topics.invariant
    (sym c.in-Some.ensures))

pub loop-topics-preserved : goal.loop-topics-preserved
loop-topics-preserved c =
    ap (λ (n : ℕ). find (is_about (row_of c.args.asked)) (in_order (take n c.args.subjects.now))) (add-one c.loop-topics.topics-index)
    ∙ none_more (is_about (row_of c.args.asked)) (λ topics. told topics.now) c.args.subjects.now c.loop-topics.topics-index _ c.loop-topics-test.true c.loop-topics.invariant
    (sym c.in-None.ensures)
