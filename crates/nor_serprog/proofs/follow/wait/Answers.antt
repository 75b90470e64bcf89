-- Some reads at a time.
use Rattle.std.proofs.Common.{◌≡◌, ◌+◌, inl, refl, ◌∙◌, subst, arith, rules, Ok, Err}
use Rattle.std.specs.Io.KnownBytes.{Appends}
use Rattle.nor_base.specs.Device.{Cuts}
use Rattle.nor_base.proofs.FaultLaws.{answered}
use Rattle.nor_base.specs.Wire.{wire}
use Rattle.nor_serprog.specs.declared.fault.Fault.TheVariants.{Write}
use Rattle.nor_serprog.specs.declared.fault.Reason.TheVariants.{Exchange}
use Rattle.nor_serprog.specs.Follow.{Waits, TakesStatuses, status_requests}
use Rattle.nor_serprog.proofs.WaitLemmas.{may_go, waits_none, waits_after, waits_more, waits_never, reads_idle, reads_busy, reads_stop, reads_cut}
use Rattle.nor_serprog.proofs.follow.wait.Goals as goal

pub loop-left-init : goal.loop-left-init
loop-left-init g c = record { busy = (0, omega arith, waits_none (g.W.ByteOut.held c.args.to.now) (g.R.ByteIn.ahead c.args.from.now)); reads = refl; writes = refl }

pub returns-then-is_err-clause-waits : goal.returns-then-is_err-clause-waits
returns-then-is_err-clause-waits g c =
    let busy = c.loop-left.invariant.busy in
    let n = c.add_reads-reads.result in
    let bytes : c.as_slice.result.now ≡ status_requests n = search rules in
    let may = may_go c.args.limits.now n c.max-ahead.result c.new-requests.result.items c.add_reads-reads.new.requests.items c.add_reads-reads.ensures.few
    c.max-ahead.ensures c.new-requests.ensures c.add_reads-reads.ensures.added c.add_reads-reads.ensures.fits in
    let cut : Cuts (g.W.ByteOut.held c.loop-left.to) (g.W.ByteOut.held c.put_all.new.writer) c.as_slice.result.now = search rules in
    waits_after _ _ _ _ _ _ c.args.limits.now busy.0 c.loop-left.left c.args.turns (Err (Exchange Write)) busy.1 busy.2
    (reads_cut _ _ (g.R.ByteIn.ahead c.loop-left.from) c.args.limits.now n c.loop-left.left c.add_reads-reads.ensures.within may
    (subst (Cuts (g.W.ByteOut.held c.loop-left.to) (g.W.ByteOut.held c.put_all.new.writer)) bytes cut))

pub returns-in_err-take_statuses-clause-waits : goal.returns-in_err-take_statuses-clause-waits
returns-in_err-take_statuses-clause-waits g c =
    let busy = c.loop-left.invariant.busy in
    let n = c.add_reads-reads.result in
    let bytes : c.as_slice.result.now ≡ status_requests n = search rules in
    let all : Appends (g.W.ByteOut.held c.loop-left.to) (g.W.ByteOut.held c.put_all.new.writer) c.as_slice.result.now = search rules in
    let out = subst (Appends (g.W.ByteOut.held c.loop-left.to) (g.W.ByteOut.held c.put_all.new.writer)) bytes all in
    let may = may_go c.args.limits.now n c.max-ahead.result c.new-requests.result.items c.add_reads-reads.new.requests.items c.add_reads-reads.ensures.few
    c.max-ahead.ensures c.new-requests.ensures c.add_reads-reads.ensures.added c.add_reads-reads.ensures.fits in
    let why = c.in_err-take_statuses.field-0.0 in
    answered c.from_residual.result
    (λ r. Waits (wire (g.W.ByteOut.held c.args.to.now) (g.R.ByteIn.ahead c.args.from.now)) (wire (g.W.ByteOut.held c.put_all.new.writer) (g.R.ByteIn.ahead c.take_statuses.new.from)) r c.args.limits.now c.args.turns)
    why (waits_after _ _ _ _ _ _ c.args.limits.now busy.0 c.loop-left.left c.args.turns (Err why) busy.1 busy.2
    (reads_stop _ _ _ _ c.args.limits.now n c.loop-left.left why c.add_reads-reads.ensures.within may out c.in_err-take_statuses.ensures.takes))
    c.from_residual.ensures.1

pub returns-then-branch-clause-waits : goal.returns-then-branch-clause-waits
returns-then-branch-clause-waits g c =
    let busy = c.loop-left.invariant.busy in
    let n = c.add_reads-reads.result in
    let bytes : c.as_slice.result.now ≡ status_requests n = search rules in
    let all : Appends (g.W.ByteOut.held c.loop-left.to) (g.W.ByteOut.held c.put_all.new.writer) c.as_slice.result.now = search rules in
    let out = subst (Appends (g.W.ByteOut.held c.loop-left.to) (g.W.ByteOut.held c.put_all.new.writer)) bytes all in
    let idle = subst (λ b. TakesStatuses (g.R.ByteIn.ahead c.loop-left.from) (g.R.ByteIn.ahead c.take_statuses.new.from) (Ok b) n) c.if-branch.true c.in_ok-take_statuses.ensures.takes in
    waits_after _ _ _ _ _ _ c.args.limits.now busy.0 c.loop-left.left c.args.turns (Ok tt) busy.1 busy.2
    (reads_idle _ _ _ _ n c.loop-left.left c.add_reads-reads.ensures.within out idle)

pub loop-left-preserved : goal.loop-left-preserved
loop-left-preserved g c =
    let busy = c.loop-left.invariant.busy in
    let n = c.add_reads-reads.result in
    let bytes : c.as_slice.result.now ≡ status_requests n = search rules in
    let all : Appends (g.W.ByteOut.held c.loop-left.to) (g.W.ByteOut.held c.put_all.new.writer) c.as_slice.result.now = search rules in
    let out = subst (Appends (g.W.ByteOut.held c.loop-left.to) (g.W.ByteOut.held c.put_all.new.writer)) bytes all in
    let more = subst (λ b. TakesStatuses (g.R.ByteIn.ahead c.loop-left.from) (g.R.ByteIn.ahead c.take_statuses.new.from) (Ok b) n) c.if-branch.false c.in_ok-take_statuses.ensures.takes in
    record {
      busy = (busy.0 + n, omega (arith, busy.1, c.add_reads-reads.ensures.within), waits_more _ _ _ _ _ _ busy.0 n busy.2 (reads_busy _ _ _ _ n out more));
      reads = c.in_ok-take_statuses.ensures.reads ∙ c.loop-left.invariant.reads;
      writes = search rules;
    }

pub returns-clause-waits : goal.returns-clause-waits
returns-clause-waits g c =
    let busy = c.loop-left.invariant.busy in
    inl (waits_never _ _ _ _ busy.0 c.args.turns (omega (arith, busy.1, c.loop-left-test.false)) busy.2)
