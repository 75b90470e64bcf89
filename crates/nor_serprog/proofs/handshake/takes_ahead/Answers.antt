-- What the device takes ahead.
use Rattle.std.proofs.Common.{arith, rules}
use Rattle.nor_serprog.proofs.GreetLemmas.{ahead_some}
use Rattle.nor_serprog.proofs.handshake.takes_ahead.Goals as goal

pub returns-in-Ok-clause-tells : goal.returns-in-Ok-clause-tells
returns-in-Ok-clause-tells g c =
    ahead_some _ _ _ _ c.args.offered c.ask.new.got c.from_le_bytes.result (search rules) (omega arith) (search rules) (search rules) (search rules)
