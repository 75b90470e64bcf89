-- The command, and then its answer.
use Rattle.std.proofs.Common.{rules}
use Rattle.std.specs.Prelude.{flat_map}
use Rattle.std.specs.Io.KnownBytes.{Appends}
use Rattle.nor_serprog.proofs.ExchangeLemmas.{asks_told}
use Rattle.nor_serprog.proofs.exchange.ask.Goals as goal

pub returns-clause-asked : goal.returns-clause-asked
returns-clause-asked g c =
    let put : Appends (g.W.ByteOut.held c.args.to.now) (g.W.ByteOut.held c.put_command.new.to) (flat_map (λ part. part.now) c.args.command.now) = search rules in
    asks_told _ _ _ _ c.told.result _ c.told.new.got put c.told.ensures.answers
