-- What went out ahead, and its answers.
use Rattle.std.proofs.Common.{◌≡◌, [], refl, ◌∙◌, subst, arith, rules}
use Rattle.std.specs.Prelude.{MatchResult}
use Rattle.std.specs.Io.KnownBytes.{Appends}
use Rattle.nor_base.specs.declared.step.Step.TheVariants.{Poll}
use Rattle.nor_base.specs.Device.{Cuts}
use Rattle.nor_base.proofs.FaultLaws.{answered}
use Rattle.nor_base.specs.Wire.{wire}
use Rattle.nor_serprog.specs.Done.{HasDoneAll}
use Rattle.nor_serprog.specs.Follow.{status_requests}
use Rattle.nor_serprog.specs.Row.{HasHalted}
use Rattle.nor_serprog.proofs.RowLemmas.{IsTail, tail_some, tail_none, the_poll, done_upto, polled, all_front, sent_few, halts_front, halts_last, halts_cut}
use Rattle.nor_serprog.proofs.WaitLemmas.{may_go_after}
use Rattle.nor_serprog.proofs.row.do_ahead.Goals as goal
use Rattle.nor_serprog.proofs.row.do_ahead.Goals.{then-polls, else-polls}

pub returns-then-is_err-clause-done : goal.returns-then-is_err-clause-done
returns-then-is_err-clause-done g c =
    let tail : IsTail c.args.limits.now c.args.turns c.args.row.now c.args.front.now c.args.requests.items c.if-polls.requests.items c.if-polls.reads =
    elim c.if-polls.branch [
      | then-polls w ↦ rw (w.requests-is, w.reads-is)
          (tail_some c.args.limits.now c.args.turns w.add_reads-reads.result c.args.row.now c.args.front.now c.args.requests.items w.add_reads-reads.new.requests.items
          c.requires.front.parts w.if-polls.true c.requires.form w.add_reads-reads.ensures.few w.add_reads-reads.ensures.within w.add_reads-reads.ensures.added
          w.add_reads-reads.ensures.fits c.requires.front.fits)
      | else-polls w ↦ rw (w.requests-is, w.reads-is)
          (tail_none c.args.limits.now c.args.turns c.args.row.now c.args.front.now c.args.requests.items c.requires.front.parts (λ h. absurd (omega (arith, h, w.if-polls.false)))
          c.requires.front.fits)
    ] in
    let some_of_it : Cuts (g.W.ByteOut.held c.args.to.now) (g.W.ByteOut.held c.put_all.new.writer) c.as_slice.result.now = search rules in
    let cut = subst (Cuts (g.W.ByteOut.held c.args.to.now) (g.W.ByteOut.held c.put_all.new.writer)) (c.as_slice.ensures.value ∙ tail.put) some_of_it in
    halts_cut _ _ _ c.args.limits.now c.args.turns c.if-polls.reads c.args.row.now c.args.front.now tail.polls _ c.args.requests.items (status_requests c.if-polls.reads)
    c.requires.row tail.whole tail.few tail.within c.requires.front.sent tail.asked tail.fits cut refl refl

pub take_answers-requires : goal.take_answers-requires
take_answers-requires g c = record { few = sent_few c.args.limits.now c.args.front.now c.args.requests.items c.requires.front.sent }

pub returns-in_err-take_answers-clause-done : goal.returns-in_err-take_answers-clause-done
returns-in_err-take_answers-clause-done g c =
    let tail : IsTail c.args.limits.now c.args.turns c.args.row.now c.args.front.now c.args.requests.items c.if-polls.requests.items c.if-polls.reads =
    elim c.if-polls.branch [
      | then-polls w ↦ rw (w.requests-is, w.reads-is)
          (tail_some c.args.limits.now c.args.turns w.add_reads-reads.result c.args.row.now c.args.front.now c.args.requests.items w.add_reads-reads.new.requests.items
          c.requires.front.parts w.if-polls.true c.requires.form w.add_reads-reads.ensures.few w.add_reads-reads.ensures.within w.add_reads-reads.ensures.added
          w.add_reads-reads.ensures.fits c.requires.front.fits)
      | else-polls w ↦ rw (w.requests-is, w.reads-is)
          (tail_none c.args.limits.now c.args.turns c.args.row.now c.args.front.now c.args.requests.items c.requires.front.parts (λ h. absurd (omega (arith, h, w.if-polls.false)))
          c.requires.front.fits)
    ] in
    let put = c.as_slice.ensures.value ∙ tail.put in
    let all : Appends (g.W.ByteOut.held c.args.to.now) (g.W.ByteOut.held c.put_all.new.writer) c.as_slice.result.now = search rules in
    let out = subst (Appends (g.W.ByteOut.held c.args.to.now) (g.W.ByteOut.held c.put_all.new.writer)) put all in
    let halt = c.in_err-take_answers.field-0.0 in
    answered c.from_residual.result
    (λ r. MatchResult r
    (λ u. HasDoneAll (wire (g.W.ByteOut.held c.args.to.now) (g.R.ByteIn.ahead c.args.from.now)) (wire (g.W.ByteOut.held c.put_all.new.writer) (g.R.ByteIn.ahead c.take_answers.new.from)) c.args.limits.now
    c.args.turns c.args.row.now)
    (λ h. HasHalted (wire (g.W.ByteOut.held c.args.to.now) (g.R.ByteIn.ahead c.args.from.now)) (wire (g.W.ByteOut.held c.put_all.new.writer) (g.R.ByteIn.ahead c.take_answers.new.from)) c.args.limits.now
    c.args.turns c.args.row.now h))
    halt (halts_front _ _ _ _ c.args.limits.now c.args.turns c.if-polls.reads c.args.row.now c.args.front.now tail.polls halt c.args.requests.items (status_requests c.if-polls.reads)
    c.requires.row tail.whole tail.few tail.within c.requires.front.sent tail.asked tail.fits out c.in_err-take_answers.ensures.done) c.from_residual.ensures.1

pub wait_on-requires-clause-few : goal.wait_on-requires-clause-few
wait_on-requires-clause-few g c =
    let tail : IsTail c.args.limits.now c.args.turns c.args.row.now c.args.front.now c.args.requests.items c.if-polls.requests.items c.if-polls.reads =
    elim c.if-polls.branch [
      | then-polls w ↦ rw (w.requests-is, w.reads-is)
          (tail_some c.args.limits.now c.args.turns w.add_reads-reads.result c.args.row.now c.args.front.now c.args.requests.items w.add_reads-reads.new.requests.items
          c.requires.front.parts w.if-polls.true c.requires.form w.add_reads-reads.ensures.few w.add_reads-reads.ensures.within w.add_reads-reads.ensures.added
          w.add_reads-reads.ensures.fits c.requires.front.fits)
      | else-polls w ↦ rw (w.requests-is, w.reads-is)
          (tail_none c.args.limits.now c.args.turns c.args.row.now c.args.front.now c.args.requests.items c.requires.front.parts (λ h. absurd (omega (arith, h, w.if-polls.false)))
          c.requires.front.fits)
    ] in
    may_go_after c.args.limits.now c.if-polls.reads c.args.requests.items tail.few tail.fits

pub returns-in-Err-clause-done : goal.returns-in-Err-clause-done
returns-in-Err-clause-done g c =
    let tail : IsTail c.args.limits.now c.args.turns c.args.row.now c.args.front.now c.args.requests.items c.if-polls.requests.items c.if-polls.reads =
    elim c.if-polls.branch [
      | then-polls w ↦ rw (w.requests-is, w.reads-is)
          (tail_some c.args.limits.now c.args.turns w.add_reads-reads.result c.args.row.now c.args.front.now c.args.requests.items w.add_reads-reads.new.requests.items
          c.requires.front.parts w.if-polls.true c.requires.form w.add_reads-reads.ensures.few w.add_reads-reads.ensures.within w.add_reads-reads.ensures.added
          w.add_reads-reads.ensures.fits c.requires.front.fits)
      | else-polls w ↦ rw (w.requests-is, w.reads-is)
          (tail_none c.args.limits.now c.args.turns c.args.row.now c.args.front.now c.args.requests.items c.requires.front.parts (λ h. absurd (omega (arith, h, w.if-polls.false)))
          c.requires.front.fits)
    ] in
    let put = c.as_slice.ensures.value ∙ tail.put in
    let all : Appends (g.W.ByteOut.held c.args.to.now) (g.W.ByteOut.held c.put_all.new.writer) c.as_slice.result.now = search rules in
    let out = subst (Appends (g.W.ByteOut.held c.args.to.now) (g.W.ByteOut.held c.put_all.new.writer)) put all in
    let p = the_poll c.args.row.now c.args.front.now c.requires.front.parts c.if-polls-2.true c.requires.form in
    let upto = done_upto _ _ _ _ c.args.limits.now c.args.turns c.args.front.now c.args.requests.items (status_requests c.if-polls.reads) c.requires.front.sent out
    c.in_ok-take_answers.ensures.done in
    halts_last _ upto.held _ _ _ _ c.args.limits.now c.args.turns c.args.row.now c.args.front.now (Poll p.0) [] _ p.1 refl upto.done
    (p.2, c.in-Err.ensures.waits upto.held upto.out)

pub returns-in_default-clause-done : goal.returns-in_default-clause-done
returns-in_default-clause-done g c =
    let tail : IsTail c.args.limits.now c.args.turns c.args.row.now c.args.front.now c.args.requests.items c.if-polls.requests.items c.if-polls.reads =
    elim c.if-polls.branch [
      | then-polls w ↦ rw (w.requests-is, w.reads-is)
          (tail_some c.args.limits.now c.args.turns w.add_reads-reads.result c.args.row.now c.args.front.now c.args.requests.items w.add_reads-reads.new.requests.items
          c.requires.front.parts w.if-polls.true c.requires.form w.add_reads-reads.ensures.few w.add_reads-reads.ensures.within w.add_reads-reads.ensures.added
          w.add_reads-reads.ensures.fits c.requires.front.fits)
      | else-polls w ↦ rw (w.requests-is, w.reads-is)
          (tail_none c.args.limits.now c.args.turns c.args.row.now c.args.front.now c.args.requests.items c.requires.front.parts (λ h. absurd (omega (arith, h, w.if-polls.false)))
          c.requires.front.fits)
    ] in
    let put = c.as_slice.ensures.value ∙ tail.put in
    let all : Appends (g.W.ByteOut.held c.args.to.now) (g.W.ByteOut.held c.put_all.new.writer) c.as_slice.result.now = search rules in
    let out = subst (Appends (g.W.ByteOut.held c.args.to.now) (g.W.ByteOut.held c.put_all.new.writer)) put all in
    let p = the_poll c.args.row.now c.args.front.now c.requires.front.parts c.if-polls-2.true c.requires.form in
    let upto = done_upto _ _ _ _ c.args.limits.now c.args.turns c.args.front.now c.args.requests.items (status_requests c.if-polls.reads) c.requires.front.sent out
    c.in_ok-take_answers.ensures.done in
    polled _ upto.held _ _ _ _ c.args.limits.now c.args.turns c.args.row.now c.args.front.now p.0 p.1 p.2 upto.done (c.in_default.ensures.waits upto.held upto.out)

pub returns-else-polls-2-clause-done : goal.returns-else-polls-2-clause-done
returns-else-polls-2-clause-done g c =
    let same : c.if-polls.requests.items ≡ c.args.requests.items =
    elim c.if-polls.branch [
      | then-polls w ↦ absurd (omega (arith, w.if-polls.true, c.if-polls-2.false))
      | else-polls w ↦ rw w.requests-is refl
    ] in
    let all : Appends (g.W.ByteOut.held c.args.to.now) (g.W.ByteOut.held c.put_all.new.writer) c.as_slice.result.now = search rules in
    let out = subst (Appends (g.W.ByteOut.held c.args.to.now) (g.W.ByteOut.held c.put_all.new.writer)) (c.as_slice.ensures.value ∙ same) all in
    all_front _ _ _ _ c.args.limits.now c.args.turns c.args.row.now c.args.front.now c.args.requests.items c.requires.front.parts
    (λ h. absurd (omega (arith, h, c.if-polls-2.false))) c.requires.row.some c.requires.front.sent out c.in_ok-take_answers.ensures.done
