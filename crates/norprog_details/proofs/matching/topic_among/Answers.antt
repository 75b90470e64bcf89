-- This topic is it, or isn't.
use Rattle.std.proofs.Common.{ℕ, List, [], ◌∷◌, ◌++◌, sym, ◌∙◌, ap, add-one, take}
use Rattle.std.specs.Prelude.{nat_eq}
use Rattle.std.specs.List.{starts_with, find}
use Rattle.norprog_details.specs.Explained.{is_about, told}
use Rattle.norprog_details.specs.Matching.{row_of}
use Rattle.norprog_details.proofs.SubjectLemmas.{found_one, none_yet}
use Rattle.norprog_details.proofs.matching.topic_among.Goals as goal

pub returns-then-begins : goal.returns-then-begins
returns-then-begins c =
    sym (found_one (is_about (row_of c.args.asked)) (λ topic. (topic.0.now, topic.1.now)) c.args.topics.now c.loop-topic.topic-index _ c.loop-topic-test.true c.loop-topic.invariant
    (ap (λ (words : List ℕ). starts_with nat_eq (row_of c.args.asked) (words ++ 32 ∷ [])) (sym c.as_bytes.ensures.value) ∙ sym c.if-begins.ensures))

pub loop-topic-preserved : goal.loop-topic-preserved
loop-topic-preserved c =
    ap (λ (n : ℕ). find (is_about (row_of c.args.asked)) (told (take n c.args.topics.now))) (add-one c.loop-topic.topic-index)
    ∙ none_yet (is_about (row_of c.args.asked)) (λ topic. (topic.0.now, topic.1.now)) c.args.topics.now c.loop-topic.topic-index _ c.loop-topic-test.true c.loop-topic.invariant
    (ap (λ (words : List ℕ). starts_with nat_eq (row_of c.args.asked) (words ++ 32 ∷ [])) (sym c.as_bytes.ensures.value) ∙ sym c.if-begins.ensures)
