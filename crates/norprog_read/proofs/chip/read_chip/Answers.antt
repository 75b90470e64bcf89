-- Whatever the result, what was sent is harmless.
use Rattle.nor_base.specs.Wire.{wire}
use Rattle.norprog_read.proofs.HarmlessLemmas.{reading_sends}
use Rattle.norprog_read.proofs.chip.read_chip.Goals as goal

pub returns-clause-harmless : goal.returns-clause-harmless
returns-clause-harmless g c =
    reading_sends c.for_reading-limits.result.asked (wire (g.W.ByteOut.held c.args.to.now) (g.R.ByteIn.ahead c.args.from.now))
    (wire (g.W.ByteOut.held c.ask_chip.new.to) (g.R.ByteIn.ahead c.ask_chip.new.from)) c.args.ask.now c.ask_chip.result c.ask_chip.ensures.read
    c.ask_chip.ensures.stops
