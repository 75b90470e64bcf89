-- Command by command.
use Rattle.std.proofs.Common.{◌≡◌, ◌≢◌, true, false, [], refl, arith, rules}
use Rattle.nor_base.specs.Wire.{wire}
use Rattle.nor_serprog.specs.declared.fault.Command.TheVariants as command
use Rattle.nor_serprog.specs.Greeting.{Learns, offers, first_version}
use Rattle.nor_base.proofs.FaultLaws.{answered}
use Rattle.nor_serprog.proofs.GreetLemmas.{greeting_of, tells_not, word_done, version_done, version_is, commands_done}
use Rattle.nor_serprog.proofs.handshake.learn.Goals as goal

pub returns-in_err-tell-clause-learns : goal.returns-in_err-tell-clause-learns
returns-in_err-tell-clause-learns g c =
    let begun = c.in_ok-begin.ensures.begins in
    let e = c.in_err-tell.field-0.0 in
    answered c.from_residual-in_err-tell.result
    (λ r. Learns (wire (g.W.ByteOut.held c.args.to.now) (g.R.ByteIn.ahead c.args.from.now)) (wire (g.W.ByteOut.held c.tell.new.to) (g.R.ByteIn.ahead c.tell.new.from)) r)
    e (tells_not _ _ _ _ _ _ command.QueryInterface c.tell.new.got e (greeting_of begun [] [] [] []) (λ why stops. stops) begun.word tt (omega arith) (word_done begun [] [] [] []) c.in_err-tell.ensures.tells)
    c.from_residual-in_err-tell.ensures.1

pub returns-then-ne-clause-learns : goal.returns-then-ne-clause-learns
returns-then-ne-clause-learns g c =
    let begun = c.in_ok-begin.ensures.begins in
    let words = greeting_of begun c.tell.new.got [] [] [] in
    let other : c.tell.new.got ≢ first_version = search rules in
    record { greeting = words; word = begun.word; before = version_done words (word_done begun c.tell.new.got [] [] []) c.in_ok-tell.ensures.tells; told = (omega arith, other) }

pub returns-in_err-tell-2-clause-learns : goal.returns-in_err-tell-2-clause-learns
returns-in_err-tell-2-clause-learns g c =
    let begun = c.in_ok-begin.ensures.begins in
    let one : c.tell.new.got ≡ first_version = search rules in
    let e = c.in_err-tell-2.field-0.0 in
    answered c.from_residual-in_err-tell-2.result
    (λ r. Learns (wire (g.W.ByteOut.held c.args.to.now) (g.R.ByteIn.ahead c.args.from.now)) (wire (g.W.ByteOut.held c.tell-2.new.to) (g.R.ByteIn.ahead c.tell-2.new.from)) r)
    e (tells_not _ _ _ _ _ _ command.QueryCommands c.tell-2.new.got e (greeting_of begun first_version [] [] []) (λ why stops. stops) begun.word refl (omega arith) (version_is begun [] one c.in_ok-tell.ensures.tells) c.in_err-tell-2.ensures.tells)
    c.from_residual-in_err-tell-2.ensures.1

pub returns-then-not-offers-clause-learns : goal.returns-then-not-offers-clause-learns
returns-then-not-offers-clause-learns g c =
    let begun = c.in_ok-begin.ensures.begins in
    let one : c.tell.new.got ≡ first_version = search rules in
    let words = greeting_of begun first_version c.tell-2.new.got [] [] in
    let none : offers c.tell-2.new.got 0x13 ≡ false = search rules in
    record { greeting = words; word = begun.word; before = commands_done words (version_is begun c.tell-2.new.got one c.in_ok-tell.ensures.tells) c.in_ok-tell-2.ensures.tells; told = (refl, omega arith, none) }

pub returns-clause-learns : goal.returns-clause-learns
returns-clause-learns g c =
    let begun = c.in_ok-begin.ensures.begins in
    let one : c.tell.new.got ≡ first_version = search rules in
    let offered : offers c.tell-2.new.got 0x13 ≡ true = search rules in
    record {
      tries = begun.tries;
      noise = begun.noise;
      late = begun.late;
      word = begun.word;
      operation = offered;
      room = omega arith;
      before = commands_done (greeting_of begun first_version c.tell-2.new.got [] []) (version_is begun c.tell-2.new.got one c.in_ok-tell.ensures.tells) c.in_ok-tell-2.ensures.tells;
    }
