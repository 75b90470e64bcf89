-- Write enable, the opcode, write disable.
use Rattle.nor_base.proofs.FaultLaws.{answered}
use Rattle.nor_base.specs.Wire.{wire}
use Rattle.nor_loop.specs.Reads.{switch_ops}
use Rattle.nor_reader.specs.Switched.{Operates}
use Rattle.nor_reader.proofs.SwitchLemmas.{enable_ends, opcode_ends, switched}
use Rattle.nor_reader.proofs.switch.switch_mode.Goals as goal

pub returns-in_err-send-in-Latched-clause-switches : goal.returns-in_err-send-in-Latched-clause-switches
returns-in_err-send-in-Latched-clause-switches g c =
    let h = g.W.ByteOut.held c.args.to.now in
    let h' = g.W.ByteOut.held c.send-in-Latched.new.to in
    let a = g.R.ByteIn.ahead c.args.from.now in
    let b = g.R.ByteIn.ahead c.send-in-Latched.new.from in
    let why = c.in_err-send-in-Latched.field-0.0 in
    answered c.from_residual.result (λ r. Operates (wire h a) (wire h' b) r (switch_ops c.args.switch c.args.opcode)) why
    (enable_ends h h' a b c.args.switch c.args.opcode c.in-Latched.is why c.in_err-send-in-Latched.ensures.sends) c.from_residual.ensures.1

pub returns-in_err-send-in-Latched-2-clause-switches : goal.returns-in_err-send-in-Latched-2-clause-switches
returns-in_err-send-in-Latched-2-clause-switches g c =
    let h = g.W.ByteOut.held c.args.to.now in
    let k = g.W.ByteOut.held c.send-in-Latched.new.to in
    let h' = g.W.ByteOut.held c.send-in-Latched-2.new.to in
    let a = g.R.ByteIn.ahead c.args.from.now in
    let d = g.R.ByteIn.ahead c.send-in-Latched.new.from in
    let b = g.R.ByteIn.ahead c.send-in-Latched-2.new.from in
    let why = c.in_err-send-in-Latched-2.field-0.0 in
    answered c.from_residual-in_err-send-in-Latched-2.result (λ r. Operates (wire h a) (wire h' b) r (switch_ops c.args.switch c.args.opcode)) why
    (opcode_ends h h' a b c.args.switch c.args.opcode c.in-Latched.is k d why c.in_ok-send-in-Latched.ensures.sends c.in_err-send-in-Latched-2.ensures.sends)
    c.from_residual-in_err-send-in-Latched-2.ensures.1

pub returns-in_ok-send-in-Latched-2-clause-switches : goal.returns-in_ok-send-in-Latched-2-clause-switches
returns-in_ok-send-in-Latched-2-clause-switches g c =
    switched (g.W.ByteOut.held c.args.to.now) (g.W.ByteOut.held c.send-in-Latched-3.new.to) (g.R.ByteIn.ahead c.args.from.now) (g.R.ByteIn.ahead c.send-in-Latched-3.new.from)
    c.args.switch c.args.opcode c.in-Latched.is (g.W.ByteOut.held c.send-in-Latched.new.to) (g.W.ByteOut.held c.send-in-Latched-2.new.to)
    (g.R.ByteIn.ahead c.send-in-Latched.new.from) (g.R.ByteIn.ahead c.send-in-Latched-2.new.from) c.send-in-Latched-3.result
    c.in_ok-send-in-Latched.ensures.sends c.in_ok-send-in-Latched-2.ensures.sends c.send-in-Latched-3.ensures.sends
