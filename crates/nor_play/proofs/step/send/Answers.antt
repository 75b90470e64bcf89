-- Clocks sent once.
use Rattle.std.proofs.Common.{ℕ, Vec, Global, sym}
use Rattle.nor_base.specs.declared.step.Step.TheVariants.{Send}
use Rattle.nor_play.specs.Turns.{PlaysStep}
use Rattle.nor_base.proofs.FaultLaws.{answered}
use Rattle.nor_play.proofs.StepLemmas.{send_ends, send_halts}
use Rattle.nor_chip.specs.Asked.{AsksMore}
use Rattle.nor_play.specs.Asks.{AsksStep}
use Rattle.nor_play.proofs.AskLemmas.{of_one, send_one}
use Rattle.nor_play.proofs.step.send.Goals as goal

pub returns-in_err-_bytes-clause-played : goal.returns-in_err-_bytes-clause-played
returns-in_err-_bytes-clause-played g c =
    answered c.from_residual.result (PlaysStep (g.P.Port.shown c.args.port.now) (g.P.Port.shown c.transact.new.port) c.args.limit (Send c.args.clocks.now)) c.in_err-_bytes.field-0.0
    (send_halts _ _ c.args.limit c.args.clocks.now c.in_err-_bytes.field-0.0 c.in_err-_bytes.ensures.given) c.from_residual.ensures.1

pub returns-clause-played : goal.returns-clause-played
returns-clause-played g c = send_ends _ _ c.args.limit c.args.clocks.now _ c.requires.limit c.in_ok-_bytes.ensures.given.0 c.in_ok-_bytes.ensures.given.1

pub returns-in_err-_bytes-clause-asked : goal.returns-in_err-_bytes-clause-asked
returns-in_err-_bytes-clause-asked g c =
    let shown = g.P.Port.shown c.args.port.now in
    answered c.from_residual.result (AsksStep shown (AsksMore (g.P.Port.asked c.args.port.now) (g.P.Port.asked c.transact.new.port)) c.args.limit (Send c.args.clocks.now)) c.in_err-_bytes.field-0.0
    (of_one (Vec ℕ Global) shown (g.P.Port.asked c.args.port.now) (g.P.Port.asked c.transact.new.port) c.args.limit (Send c.args.clocks.now) c.in_err-_bytes.field-0.0 (send_one shown c.args.limit c.args.clocks.now) c.in_err-_bytes.ensures.asked)
    c.from_residual.ensures.1

pub returns-clause-asked : goal.returns-clause-asked
returns-clause-asked g c = (sym (send_one (g.P.Port.shown c.args.port.now) c.args.limit c.args.clocks.now), c.in_ok-_bytes.ensures.asked)
