-- At a failure the lines of the subjects before this one were put, and a proper prefix of its lines.
use Rattle.std.proofs.Common.{take, sym, subst}
use Rattle.std.specs.Prelude.{flat_map}
use Rattle.std.specs.Io.KnownBytes.{Appends}
use Rattle.nor_base.specs.Device.{Cuts}
use Rattle.nor_base.proofs.DeviceLaws.{Cuts-at, Writes-cut}
use Rattle.norprog_details.specs.Explained.{listed, told}
use Rattle.norprog_details.proofs.SubjectLemmas.{flat_joined}
use Rattle.norprog_details.proofs.teller.list.Goals as goal

pub returns-in_err-list_some-clause-bytes : goal.returns-in_err-list_some-clause-bytes
returns-in_err-list_some-clause-bytes g c =
    let before = g.O.ByteOut.held c.args.out.now in
    let so_far = g.O.ByteOut.held c.loop-topics.out in
    let after = g.O.ByteOut.held c.list_some.new.out in
    Writes-cut _ _ _ _ c.from_residual.ensures.0
    (subst (Cuts before after) (sym (flat_joined listed (λ topics. told topics.now) c.args.subjects.now))
    (Cuts-at (λ topics. flat_map listed (told topics.now)) c.args.subjects.now _ c.loop-topics.topics-index before so_far after c.loop-topics-test.true
    (subst (Appends before so_far) (flat_joined listed (λ topics. told topics.now) (take c.loop-topics.topics-index c.args.subjects.now)) c.loop-topics.invariant.put)
    c.in_err-list_some.ensures.bytes))
