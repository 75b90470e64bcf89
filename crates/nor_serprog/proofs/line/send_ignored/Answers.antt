-- The request in its parts.
use Rattle.std.proofs.Common.{◌≡◌, ◌+◌, [], ◌∷◌, ◌++◌, length, rules}
use Rattle.nor_serprog.specs.Protocol.{ACK, head, request}
use Rattle.nor_serprog.proofs.LineLemmas.{command_one, ignored_parts}
use Rattle.nor_serprog.proofs.line.send_ignored.Goals as goal

pub returns-clause-does : goal.returns-clause-does
returns-clause-does g c =
    let bytes = c.args.bytes.now in
    let front : c.head-head.result ≡ head (length bytes + 1) 0 = search rules in
    command_one (g.W.ByteOut.held c.args.to.now) (g.W.ByteOut.held c.exchange.new.to) (g.R.ByteIn.ahead c.args.from.now) (g.R.ByteIn.ahead c.exchange.new.from)
    c.exchange.result (c.head-head.result ++ (0x05 ∷ (bytes ++ []))) (request (0x05 ∷ bytes) 0) (ACK ∷ []) (ignored_parts c.head-head.result bytes front) c.exchange.ensures.asked
