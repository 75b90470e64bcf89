-- One operation.
use Rattle.std.proofs.Common.{◌≡◌, length, rules}
use Rattle.nor_reader.proofs.SwitchLemmas.{one_sent}
use Rattle.nor_reader.proofs.switch.send.Goals as goal

pub returns-clause-sends : goal.returns-clause-sends
returns-clause-sends g c =
    let none : length c.operate.new.got ≡ 0 = search rules in
    one_sent (g.W.ByteOut.held c.args.to.now) (g.W.ByteOut.held c.operate.new.to) (g.R.ByteIn.ahead c.args.from.now) (g.R.ByteIn.ahead c.operate.new.from) c.operate.result
    c.args.opcode c.operate.new.got none c.operate.ensures.asked
