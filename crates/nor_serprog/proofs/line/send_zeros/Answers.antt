-- Where the device sends so many.
use Rattle.std.proofs.Common.{◌≡◌, ◌-◌, take, arith}
use Rattle.std.specs.Prelude.{replicate}
use Rattle.std.proofs.lemmas.List.{take-replicate}
use Rattle.nor_serprog.proofs.LineLemmas.{zeros_none, zeros_sent}
use Rattle.nor_serprog.proofs.line.send_zeros.Goals as goal

pub returns-then-sent-count-clause-does : goal.returns-then-sent-count-clause-does
returns-then-sent-count-clause-does g c = zeros_none (g.W.ByteOut.held c.args.to.now) (g.R.ByteIn.ahead c.args.from.now) c.args.sent c.args.count c.if-sent-count.true

pub returns-clause-does : goal.returns-clause-does
returns-clause-does g c =
    let is : take (c.args.count - 1) (replicate 128 0) ≡ replicate (c.args.count - 1) 0 = take-replicate (c.args.count - 1) 128 0 (omega arith) in
    zeros_sent (g.W.ByteOut.held c.args.to.now) (g.W.ByteOut.held c.send_ignored.new.to) (g.R.ByteIn.ahead c.args.from.now) (g.R.ByteIn.ahead c.send_ignored.new.from)
    c.send_ignored.result c.args.sent c.args.count (take (c.args.count - 1) (replicate 128 0)) c.if-sent-count.false is c.send_ignored.ensures.does
