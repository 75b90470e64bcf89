-- Command by command.
use Rattle.std.proofs.Common.{None, [], refl, sym, ◌∙◌, ap, arith}
use Rattle.nor_base.specs.Wire.{wire}
use Rattle.nor_serprog.specs.declared.fault.Command.TheVariants as command
use Rattle.nor_serprog.specs.Greeting.{Greeted, ahead_told, most}
use Rattle.nor_base.proofs.FaultLaws.{answered}
use Rattle.nor_serprog.proofs.GreetLemmas.{greeting_by, tells_not, buffer_not, bus_done, buffer_done, sends_done, gives_done, pins_done}
use Rattle.nor_serprog.proofs.handshake.go_on.Goals as goal

pub returns-in_err-tell-clause-greeted : goal.returns-in_err-tell-clause-greeted
returns-in_err-tell-clause-greeted g c held ahead known =
    let e = c.in_err-tell.field-0.0 in
    answered c.from_residual.result (λ r. Greeted (wire held ahead) (wire (g.W.ByteOut.held c.tell.new.to) (g.R.ByteIn.ahead c.tell.new.from)) r)
    e (tells_not _ _ _ _ _ _ command.SetBus c.tell.new.got e (greeting_by known None [] []) (λ why stops. stops) known.word (refl, known.operation) (omega arith) known.before c.in_err-tell.ensures.tells)
    c.from_residual.ensures.1

pub returns-in_err-ahead-clause-greeted : goal.returns-in_err-ahead-clause-greeted
returns-in_err-ahead-clause-greeted g c held ahead known =
    let words = greeting_by known None [] [] in
    let p4 = bus_done words c.tell.new.got (omega arith) known.before c.in_ok-tell.ensures.tells in
    let e = c.in_err-ahead.field-0.0 in
    let tells = c.in_err-ahead.ensures.tells in
    answered c.from_residual-in_err-ahead.result (λ r. Greeted (wire held ahead) (wire (g.W.ByteOut.held c.takes_ahead.new.to) (g.R.ByteIn.ahead c.takes_ahead.new.from)) r)
    e (buffer_not _ _ _ _ _ _ tells.2.0 e words tells.1 known.word (refl, known.operation, sym c.offers.ensures ∙ tells.0) tells.2.1 p4 tells.2.2)
    c.from_residual-in_err-ahead.ensures.1

pub returns-in_err-tell_if-clause-greeted : goal.returns-in_err-tell_if-clause-greeted
returns-in_err-tell_if-clause-greeted g c held ahead known =
    let words = greeting_by known c.in_ok-ahead.ensures.tells.0 [] [] in
    let p3 = bus_done words c.tell.new.got (omega arith) known.before c.in_ok-tell.ensures.tells in
    let p4 = buffer_done words c.offers.result c.offers.ensures p3 c.in_ok-ahead.ensures.tells.3 in
    let e = c.in_err-tell_if.field-0.0 in
    answered c.from_residual-in_err-tell_if.result (λ r. Greeted (wire held ahead) (wire (g.W.ByteOut.held c.tell_if.new.to) (g.R.ByteIn.ahead c.tell_if.new.from)) r)
    e (tells_not _ _ _ _ _ _ command.QueryWriteMax c.tell_if.new.got e words (λ why stops. stops) known.word (refl, known.operation, sym c.offers-has_sends.ensures ∙ c.in_err-tell_if.ensures.tells.0) (omega arith) p4 c.in_err-tell_if.ensures.tells.1)
    c.from_residual-in_err-tell_if.ensures.1

pub returns-in_err-tell_if-2-clause-greeted : goal.returns-in_err-tell_if-2-clause-greeted
returns-in_err-tell_if-2-clause-greeted g c held ahead known =
    let words = greeting_by known c.in_ok-ahead.ensures.tells.0 c.tell_if.new.got [] in
    let p3 = bus_done words c.tell.new.got (omega arith) known.before c.in_ok-tell.ensures.tells in
    let p4 = buffer_done words c.offers.result c.offers.ensures p3 c.in_ok-ahead.ensures.tells.3 in
    let p5 = sends_done words c.offers-has_sends.result c.offers-has_sends.ensures p4 c.in_ok-tell_if.ensures.tells in
    let e = c.in_err-tell_if-2.field-0.0 in
    answered c.from_residual-in_err-tell_if-2.result (λ r. Greeted (wire held ahead) (wire (g.W.ByteOut.held c.tell_if-2.new.to) (g.R.ByteIn.ahead c.tell_if-2.new.from)) r)
    e (tells_not _ _ _ _ _ _ command.QueryReadMax c.tell_if-2.new.got e words (λ why stops. stops) known.word (refl, known.operation, sym c.offers-has_gives.ensures ∙ c.in_err-tell_if-2.ensures.tells.0) (omega arith) p5 c.in_err-tell_if-2.ensures.tells.1)
    c.from_residual-in_err-tell_if-2.ensures.1

pub returns-in_err-tell_if-3-clause-greeted : goal.returns-in_err-tell_if-3-clause-greeted
returns-in_err-tell_if-3-clause-greeted g c held ahead known =
    let words = greeting_by known c.in_ok-ahead.ensures.tells.0 c.tell_if.new.got c.tell_if-2.new.got in
    let p3 = bus_done words c.tell.new.got (omega arith) known.before c.in_ok-tell.ensures.tells in
    let p4 = buffer_done words c.offers.result c.offers.ensures p3 c.in_ok-ahead.ensures.tells.3 in
    let p5 = sends_done words c.offers-has_sends.result c.offers-has_sends.ensures p4 c.in_ok-tell_if.ensures.tells in
    let p6 = gives_done words c.offers-has_gives.result c.offers-has_gives.ensures p5 c.in_ok-tell_if-2.ensures.tells in
    let e = c.in_err-tell_if-3.field-0.0 in
    answered c.from_residual-in_err-tell_if-3.result (λ r. Greeted (wire held ahead) (wire (g.W.ByteOut.held c.tell_if-3.new.to) (g.R.ByteIn.ahead c.tell_if-3.new.from)) r)
    e (tells_not _ _ _ _ _ _ command.SetPins c.tell_if-3.new.got e words (λ why stops. stops) known.word (refl, known.operation, sym c.offers-has_pins.ensures ∙ c.in_err-tell_if-3.ensures.tells.0) (omega arith) p6 c.in_err-tell_if-3.ensures.tells.1)
    c.from_residual-in_err-tell_if-3.ensures.1

pub returns-clause-greeted : goal.returns-clause-greeted
returns-clause-greeted g c held ahead known =
    let words = greeting_by known c.in_ok-ahead.ensures.tells.0 c.tell_if.new.got c.tell_if-2.new.got in
    let p3 = bus_done words c.tell.new.got (omega arith) known.before c.in_ok-tell.ensures.tells in
    let p4 = buffer_done words c.offers.result c.offers.ensures p3 c.in_ok-ahead.ensures.tells.3 in
    let p5 = sends_done words c.offers-has_sends.result c.offers-has_sends.ensures p4 c.in_ok-tell_if.ensures.tells in
    let p6 = gives_done words c.offers-has_gives.result c.offers-has_gives.ensures p5 c.in_ok-tell_if-2.ensures.tells in
    let p7 = pins_done words c.tell_if-3.new.got c.offers-has_pins.result (omega arith) c.offers-has_pins.ensures p6 c.in_ok-tell_if-3.ensures.tells in
    record {
      greeting = words;
      word = known.word;
      talked = p7;
      version = refl;
      operation = known.operation;
      commands = known.room;
      buffer = c.in_ok-ahead.ensures.tells.1;
      sends = omega arith;
      gives = omega arith;
      sent = c.most.ensures.most ∙ ap (λ o. most o c.tell_if.new.got) c.offers-has_sends.ensures;
      asked = c.most-2.ensures.most ∙ ap (λ o. most o c.tell_if-2.new.got) c.offers-has_gives.ensures;
      ahead = c.in_ok-ahead.ensures.tells.2 ∙ ap (λ o. ahead_told o c.in_ok-ahead.ensures.tells.0) c.offers.ensures;
      pins = c.offers-has_pins.ensures;
    }
