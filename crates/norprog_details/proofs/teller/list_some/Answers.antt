-- At a failure the lines before this one were put, and a proper prefix of it.
use Rattle.std.proofs.Common.{ℕ, List, [], ◌∷◌, ◌++◌, take, sym, subst}
use Rattle.std.specs.Io.KnownBytes.{Appends}
use Rattle.nor_base.specs.Device.{Cuts}
use Rattle.nor_base.proofs.DeviceLaws.{Cuts-at, Writes-cut}
use Rattle.norprog_details.specs.Explained.{listed}
use Rattle.norprog_details.proofs.SubjectLemmas.{flat_seen}
use Rattle.norprog_details.proofs.teller.list_some.Goals as goal

pub returns-in_err-put_parts-clause-bytes : goal.returns-in_err-put_parts-clause-bytes
returns-in_err-put_parts-clause-bytes g c =
    let before = g.O.ByteOut.held c.args.out.now in
    let so_far = g.O.ByteOut.held c.loop-words.out in
    let after = g.O.ByteOut.held c.put_parts.new.writer in
    Writes-cut _ _ _ _ c.from_residual.ensures.0
    (subst (Cuts before after) (sym (flat_seen listed (λ topic. (topic.0.now, topic.1.now)) c.args.topics.now))
    (Cuts-at (λ topic. listed (topic.0.now, topic.1.now)) c.args.topics.now _ c.loop-words.words-index before so_far after c.loop-words-test.true
    (subst (Appends before so_far) (flat_seen listed (λ topic. (topic.0.now, topic.1.now)) (take c.loop-words.words-index c.args.topics.now)) c.loop-words.invariant.put)
    (subst (λ (words : List ℕ). Cuts so_far after (words ++ 10 ∷ [])) c.as_bytes.ensures.value c.in_err-put_parts.ensures.bytes)))
