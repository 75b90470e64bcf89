-- ACK, and then the bytes that are wanted.
use Rattle.nor_serprog.specs.declared.fault.Reason.TheVariants.{Exchange}
use Rattle.nor_serprog.specs.Exchange.{AnswersKnown}
use Rattle.nor_base.proofs.FaultLaws.{answered}
use Rattle.nor_serprog.proofs.ExchangeLemmas.{known_then, known_not}
use Rattle.nor_serprog.proofs.exchange.answered.Goals as goal

pub returns-in_err-acknowledged-clause-known : goal.returns-in_err-acknowledged-clause-known
returns-in_err-acknowledged-clause-known g c =
    let why = c.in_err-acknowledged.field-0.0 in
    answered c.from_residual.result (λ r. AnswersKnown (g.R.ByteIn.ahead c.args.from.now) (g.R.ByteIn.ahead c.acknowledged.new.from) r c.args.want.now)
    (Exchange why) (known_not _ _ why c.args.want.now c.in_err-acknowledged.ensures.answers) c.from_residual.ensures.1

pub returns-clause-known : goal.returns-clause-known
returns-clause-known g c = known_then _ _ _ c.compared.result c.args.want.now c.in_ok-acknowledged.ensures.answers c.compared.ensures.takes
