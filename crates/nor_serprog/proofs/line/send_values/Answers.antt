-- Where 05h alone has room.
use Rattle.nor_serprog.proofs.LineLemmas.{sent_none}
use Rattle.nor_serprog.proofs.line.send_values.Goals as goal

pub returns-then-limits-eq1-clause-sends : goal.returns-then-limits-eq1-clause-sends
returns-then-limits-eq1-clause-sends g c = sent_none (g.W.ByteOut.held c.args.to.now) (g.R.ByteIn.ahead c.args.from.now) c.args.limits.now.sent c.if-limits-eq1.true
