-- One length after the other.
use Rattle.std.proofs.Common.{◌++◌, Err}
use Rattle.nor_base.proofs.FaultLaws.{answered}
use Rattle.nor_base.specs.Wire.{wire}
use Rattle.nor_serprog.specs.Line.{Exchanges, zeros_if, lengths_test}
use Rattle.nor_serprog.proofs.LineLemmas.{does_then, stops_before}
use Rattle.nor_serprog.proofs.line.send_lengths.Goals as goal

pub returns-in_err-send_zeros-clause-does : goal.returns-in_err-send_zeros-clause-does
returns-in_err-send_zeros-clause-does g c =
    let why = c.in_err-send_zeros.field-0.0 in
    let z = zeros_if c.args.sent in
    let h = g.W.ByteOut.held c.args.to.now in
    let h' = g.W.ByteOut.held c.send_zeros.new.to in
    let a = g.R.ByteIn.ahead c.args.from.now in
    let a' = g.R.ByteIn.ahead c.send_zeros.new.from in
    answered c.from_residual.result (λ r. Exchanges (wire h a) (wire h' a') r (lengths_test c.args.sent)) why
    (stops_before h h' a a' why (z 0x0D) (z 0x61 ++ z 0x80) c.in_err-send_zeros.ensures.does) c.from_residual.ensures.1

pub returns-in_err-send_zeros-2-clause-does : goal.returns-in_err-send_zeros-2-clause-does
returns-in_err-send_zeros-2-clause-does g c =
    let why = c.in_err-send_zeros-2.field-0.0 in
    let z = zeros_if c.args.sent in
    let h = g.W.ByteOut.held c.args.to.now in
    let m = g.W.ByteOut.held c.send_zeros.new.to in
    let h' = g.W.ByteOut.held c.send_zeros-2.new.to in
    let a = g.R.ByteIn.ahead c.args.from.now in
    let b = g.R.ByteIn.ahead c.send_zeros.new.from in
    let a' = g.R.ByteIn.ahead c.send_zeros-2.new.from in
    answered c.from_residual-in_err-send_zeros-2.result (λ r. Exchanges (wire h a) (wire h' a') r (lengths_test c.args.sent)) why
    (does_then h m h' a b a' (Err why) (z 0x0D) (z 0x61 ++ z 0x80) c.in_ok-send_zeros.ensures.does
    (stops_before m h' b a' why (z 0x61) (z 0x80) c.in_err-send_zeros-2.ensures.does)) c.from_residual-in_err-send_zeros-2.ensures.1

pub returns-clause-does : goal.returns-clause-does
returns-clause-does g c =
    let z = zeros_if c.args.sent in
    let h = g.W.ByteOut.held c.args.to.now in
    let m = g.W.ByteOut.held c.send_zeros.new.to in
    let n = g.W.ByteOut.held c.send_zeros-2.new.to in
    let h' = g.W.ByteOut.held c.send_zeros-3.new.to in
    let a = g.R.ByteIn.ahead c.args.from.now in
    let b = g.R.ByteIn.ahead c.send_zeros.new.from in
    let d = g.R.ByteIn.ahead c.send_zeros-2.new.from in
    let a' = g.R.ByteIn.ahead c.send_zeros-3.new.from in
    does_then h m h' a b a' c.send_zeros-3.result (z 0x0D) (z 0x61 ++ z 0x80) c.in_ok-send_zeros.ensures.does
    (does_then m n h' b d a' c.send_zeros-3.result (z 0x61) (z 0x80) c.in_ok-send_zeros-2.ensures.does c.send_zeros-3.ensures.does)
