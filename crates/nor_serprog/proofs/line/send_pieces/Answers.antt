-- One more piece.
use Rattle.std.proofs.Common.{◌≡◌, ◌≤◌, ◌<◌, ◌+◌, ◌-◌, ◌∙◌, refl, arith, rules}
use Rattle.std.specs.Prelude.{min}
use Rattle.nor_base.specs.Wire.{wire}
use Rattle.nor_serprog.specs.Line.{SendsValues}
use Rattle.nor_base.proofs.FaultLaws.{answered}
use Rattle.nor_serprog.proofs.LineLemmas.{none_sent, sent_more, sent_not, sent_all}
use Rattle.nor_serprog.proofs.line.send_pieces.Goals as goal

pub loop-done-init : goal.loop-done-init
loop-done-init g c = record {
  sent = none_sent (g.W.ByteOut.held c.args.to.now) (g.R.ByteIn.ahead c.args.from.now) (c.args.room + 1) (omega arith);
  values = c.all_values-values.ensures;
  reads = refl;
  writes = refl;
}

pub returns-in_err-send_ignored-clause-sends : goal.returns-in_err-send_ignored-clause-sends
returns-in_err-send_ignored-clause-sends g c =
    let why = c.in_err-send_ignored.field-0.0 in
    let few : c.loop-done.done < 256 = search rules in
    let len : c.min-len.result ≡ min (256 - c.loop-done.done) (c.args.room + 1 - 1) = search rules in
    answered c.from_residual.result
    (λ r. SendsValues (wire (g.W.ByteOut.held c.args.to.now) (g.R.ByteIn.ahead c.args.from.now)) (wire (g.W.ByteOut.held c.send_ignored.new.to) (g.R.ByteIn.ahead c.send_ignored.new.from)) r (c.args.room + 1))
    why (sent_not _ _ _ _ _ _ (c.args.room + 1) c.loop-done.done c.min-len.result _ why c.loop-done.invariant.values few len c.loop-done.invariant.sent c.in_err-send_ignored.ensures.does)
    c.from_residual.ensures.1

pub loop-done-preserved : goal.loop-done-preserved
loop-done-preserved g c =
    let few : c.loop-done.done < 256 = search rules in
    let len : c.min-len.result ≡ min (256 - c.loop-done.done) (c.args.room + 1 - 1) = search rules in
    record {
      sent = sent_more _ _ _ _ _ _ (c.args.room + 1) c.loop-done.done c.min-len.result _ c.loop-done.invariant.values few len c.loop-done.invariant.sent c.in_ok-send_ignored.ensures.does;
      values = c.loop-done.invariant.values;
      reads = c.in_ok-send_ignored.ensures.counts.0 ∙ c.loop-done.invariant.reads;
      writes = c.in_ok-send_ignored.ensures.counts.1 ∙ c.loop-done.invariant.writes;
    }

pub returns-clause-sends : goal.returns-clause-sends
returns-clause-sends g c =
    let all : 256 ≤ c.loop-done.done = search rules in
    sent_all _ _ _ _ (c.args.room + 1) c.loop-done.done all c.loop-done.invariant.sent
