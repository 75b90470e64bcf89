-- Each subject's topics are its own.
use Rattle.norprog_details.specs.Topics.{topics}
use Rattle.norprog_details.proofs.SubjectLemmas.{eight}
use Rattle.norprog_details.proofs.topics.subjects.Goals as goal

pub returns : goal.returns
unfolding topics
returns c = eight c.topics.ensures c.topics-2.ensures c.topics-3.ensures c.topics-4.ensures c.topics-5.ensures c.topics-6.ensures c.topics-7.ensures c.topics-8.ensures
