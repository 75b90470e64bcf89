-- The test of the line, and then the chip.
use Rattle.nor_base.specs.Wire.{wire}
use Rattle.norprog_read.proofs.ReadLemmas.{tested_stops}
use Rattle.norprog_read.proofs.opened.read_tested.Goals as goal

pub returns-in-Ok-clause-stops : goal.returns-in-Ok-clause-stops
returns-in-Ok-clause-stops g c =
    tested_stops (wire (g.W.ByteOut.held c.args.to.now) (g.R.ByteIn.ahead c.args.from.now))
    (wire (g.W.ByteOut.held c.test_line.new.to) (g.R.ByteIn.ahead c.test_line.new.from))
    (wire (g.W.ByteOut.held c.read_chip.new.to) (g.R.ByteIn.ahead c.read_chip.new.from)) c.args.limits.now c.args.ask.now c.read_chip.result
    c.in-Ok.ensures.tests c.read_chip.ensures.stops
