-- Turn by turn.
use Rattle.std.proofs.Common.{refl, sym, ◌∙◌, arith}
use Rattle.nor_base.specs.Wire.{wire}
use Rattle.nor_serprog.specs.declared.fault.Reason.TheVariants.{Exchange}
use Rattle.nor_base.proofs.FaultLaws.{answered}
use Rattle.nor_reader.specs.Status.{Settles}
use Rattle.nor_reader.proofs.StatusLemmas.{waits_none, waits_on, settles_at, waits_fail, waits_never}
use Rattle.nor_reader.proofs.status.idle_status.Goals as goal

pub loop-init : goal.loop-init
loop-init g c = record { busy = waits_none (g.W.ByteOut.held c.args.to.now) (g.R.ByteIn.ahead c.args.from.now); reads = refl; writes = refl }

pub loop-preserved : goal.loop-preserved
loop-preserved g c =
    let ok = c.in_ok-status.ensures in
    record {
      busy = waits_on c.loop.counter c.in_ok-status.status c.loop.invariant.busy ok.register (sym c.ends_wait.ensures ∙ c.if-ends_wait.false);
      reads = ok.counts.0 ∙ c.loop.invariant.reads;
      writes = ok.counts.1 ∙ c.loop.invariant.writes;
    }

pub returns-in_err-status-clause-settles : goal.returns-in_err-status-clause-settles
returns-in_err-status-clause-settles g c =
    let why = c.in_err-status.field-0.0 in
    answered c.from_residual.result
    (λ r. Settles (wire (g.W.ByteOut.held c.args.to.now) (g.R.ByteIn.ahead c.args.from.now)) (wire (g.W.ByteOut.held c.read_register.new.to) (g.R.ByteIn.ahead c.read_register.new.from)) r c.args.turns)
    (Exchange why) (waits_fail c.loop.counter c.args.turns why (omega (arith, c.loop-test.true)) c.loop.invariant.busy c.in_err-status.ensures.register)
    c.from_residual.ensures.1

pub returns-then-ends_wait-clause-settles : goal.returns-then-ends_wait-clause-settles
returns-then-ends_wait-clause-settles g c =
    settles_at c.loop.counter c.args.turns c.in_ok-status.status (omega (arith, c.loop-test.true)) c.loop.invariant.busy c.in_ok-status.ensures.register (sym c.ends_wait.ensures ∙ c.if-ends_wait.true)

pub returns-clause-settles : goal.returns-clause-settles
returns-clause-settles g c = waits_never c.loop.counter c.args.turns (omega (arith, c.loop-test.false)) c.loop.invariant.busy
