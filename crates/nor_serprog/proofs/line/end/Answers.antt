-- NOP, and then the word.
use Rattle.std.proofs.Common.{◌≡◌, [], ◌∷◌, ◌++◌, Ok, Err, refl, ap}
use Rattle.nor_base.proofs.FaultLaws.{answered}
use Rattle.nor_base.specs.Wire.{wire}
use Rattle.nor_serprog.specs.Protocol.{ACK, NAK}
use Rattle.nor_serprog.specs.Line.{Exchanges, acknowledged, end_test}
use Rattle.nor_serprog.proofs.LineLemmas.{command_one, does_then, stops_before}
use Rattle.nor_serprog.proofs.line.end.Goals as goal

pub returns-in_err-exchange-clause-does : goal.returns-in_err-exchange-clause-does
returns-in_err-exchange-clause-does g c =
    let why = c.in_err-exchange.field-0.0 in
    let h = g.W.ByteOut.held c.args.to.now in
    let h' = g.W.ByteOut.held c.exchange.new.to in
    let a = g.R.ByteIn.ahead c.args.from.now in
    let a' = g.R.ByteIn.ahead c.exchange.new.from in
    answered c.from_residual.result (λ r. Exchanges (wire h a) (wire h' a') r end_test) why
    (stops_before h h' a a' why (acknowledged (0x00 ∷ []) ∷ []) (record { put = 0x10 ∷ []; given = NAK ∷ ACK ∷ [] } ∷ [])
    (command_one h h' a a' (Err why) (0x00 ∷ []) (0x00 ∷ []) (ACK ∷ []) refl c.in_err-exchange.ensures.asked)) c.from_residual.ensures.1

pub returns-clause-does : goal.returns-clause-does
returns-clause-does g c =
    let h = g.W.ByteOut.held c.args.to.now in
    let m = g.W.ByteOut.held c.exchange.new.to in
    let h' = g.W.ByteOut.held c.exchange-2.new.to in
    let a = g.R.ByteIn.ahead c.args.from.now in
    let b = g.R.ByteIn.ahead c.exchange.new.from in
    let a' = g.R.ByteIn.ahead c.exchange-2.new.from in
    let word : c.bytes.result.now ++ [] ≡ 0x10 ∷ [] = ap (λ xs. xs ++ []) c.bytes.ensures in
    does_then h m h' a b a' c.exchange-2.result (acknowledged (0x00 ∷ []) ∷ []) (record { put = 0x10 ∷ []; given = NAK ∷ ACK ∷ [] } ∷ [])
    (command_one h m a b (Ok tt) (0x00 ∷ []) (0x00 ∷ []) (ACK ∷ []) refl c.in_ok-exchange.ensures.asked)
    (command_one m h' b a' c.exchange-2.result (c.bytes.result.now ++ []) (0x10 ∷ []) (NAK ∷ ACK ∷ []) word c.exchange-2.ensures.asked)
