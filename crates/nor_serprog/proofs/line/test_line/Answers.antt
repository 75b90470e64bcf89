-- The values, the lengths, and the end.
use Rattle.std.proofs.Common.{◌++◌, Err}
use Rattle.nor_base.proofs.FaultLaws.{answered}
use Rattle.nor_base.specs.Wire.{wire}
use Rattle.nor_serprog.specs.Line.{TestsLine, values_test, lengths_test, end_test}
use Rattle.nor_serprog.proofs.LineLemmas.{does_then, stops_before, tested}
use Rattle.nor_serprog.proofs.line.test_line.Goals as goal

pub returns-in_err-send_values-clause-tests : goal.returns-in_err-send_values-clause-tests
returns-in_err-send_values-clause-tests g c =
    let why = c.in_err-send_values.field-0.0 in
    let limits = c.args.limits.now in
    let v = c.in_err-send_values.ensures.sends in
    let h = g.W.ByteOut.held c.args.to.now in
    let h' = g.W.ByteOut.held c.send_values.new.to in
    let a = g.R.ByteIn.ahead c.args.from.now in
    let a' = g.R.ByteIn.ahead c.send_values.new.from in
    answered c.from_residual.result (λ r. TestsLine (wire h a) (wire h' a') r limits) why
    (tested h h' a a' (Err why) limits v.0 v.1 (stops_before h h' a a' why (values_test v.0) (lengths_test limits.sent ++ end_test) v.2)) c.from_residual.ensures.1

pub returns-in_err-send_lengths-clause-tests : goal.returns-in_err-send_lengths-clause-tests
returns-in_err-send_lengths-clause-tests g c =
    let why = c.in_err-send_lengths.field-0.0 in
    let limits = c.args.limits.now in
    let v = c.in_ok-send_values.ensures.sends in
    let h = g.W.ByteOut.held c.args.to.now in
    let m = g.W.ByteOut.held c.send_values.new.to in
    let h' = g.W.ByteOut.held c.send_lengths.new.to in
    let a = g.R.ByteIn.ahead c.args.from.now in
    let b = g.R.ByteIn.ahead c.send_values.new.from in
    let a' = g.R.ByteIn.ahead c.send_lengths.new.from in
    answered c.from_residual-in_err-send_lengths.result (λ r. TestsLine (wire h a) (wire h' a') r limits) why
    (tested h h' a a' (Err why) limits v.0 v.1 (does_then h m h' a b a' (Err why) (values_test v.0) (lengths_test limits.sent ++ end_test) v.2
    (stops_before m h' b a' why (lengths_test limits.sent) end_test c.in_err-send_lengths.ensures.does))) c.from_residual-in_err-send_lengths.ensures.1

pub returns-clause-tests : goal.returns-clause-tests
returns-clause-tests g c =
    let limits = c.args.limits.now in
    let v = c.in_ok-send_values.ensures.sends in
    let h = g.W.ByteOut.held c.args.to.now in
    let m = g.W.ByteOut.held c.send_values.new.to in
    let n = g.W.ByteOut.held c.send_lengths.new.to in
    let h' = g.W.ByteOut.held c.end.new.to in
    let a = g.R.ByteIn.ahead c.args.from.now in
    let b = g.R.ByteIn.ahead c.send_values.new.from in
    let d = g.R.ByteIn.ahead c.send_lengths.new.from in
    let a' = g.R.ByteIn.ahead c.end.new.from in
    tested h h' a a' c.end.result limits v.0 v.1 (does_then h m h' a b a' c.end.result (values_test v.0) (lengths_test limits.sent ++ end_test) v.2
    (does_then m n h' b d a' c.end.result (lengths_test limits.sent) end_test c.in_ok-send_lengths.ensures.does c.end.ensures.does))
