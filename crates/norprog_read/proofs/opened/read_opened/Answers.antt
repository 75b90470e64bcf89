-- The handshake, the chip, the pins.
use Rattle.nor_base.specs.Wire.{wire}
use Rattle.norprog_read.proofs.ReadLemmas.{opened_by, stops_by}
use Rattle.norprog_read.proofs.opened.read_opened.Goals as goal

pub returns-clause-read : goal.returns-clause-read
returns-clause-read g c =
    opened_by (wire (g.W.ByteOut.held c.args.to.now) (g.R.ByteIn.ahead c.args.from.now))
    (wire (g.W.ByteOut.held c.greet.new.to) (g.R.ByteIn.ahead c.greet.new.from))
    (wire (g.W.ByteOut.held c.read_tested-read.new.to) (g.R.ByteIn.ahead c.read_tested-read.new.from))
    (wire (g.W.ByteOut.held c.let_go.new.to) (g.R.ByteIn.ahead c.let_go.new.from)) c.in-Ok.limits c.args.ask.now c.read_tested-read.result
    c.frees_pins-pins.result c.in-Ok.ensures.greeted c.read_tested-read.ensures.read c.frees_pins-pins.ensures c.let_go.ensures.goes

pub returns-clause-stops : goal.returns-clause-stops
returns-clause-stops g c =
    stops_by (wire (g.W.ByteOut.held c.args.to.now) (g.R.ByteIn.ahead c.args.from.now))
    (wire (g.W.ByteOut.held c.greet.new.to) (g.R.ByteIn.ahead c.greet.new.from))
    (wire (g.W.ByteOut.held c.read_tested-read.new.to) (g.R.ByteIn.ahead c.read_tested-read.new.from))
    (wire (g.W.ByteOut.held c.let_go.new.to) (g.R.ByteIn.ahead c.let_go.new.from)) c.in-Ok.limits c.args.ask.now c.read_tested-read.result
    c.frees_pins-pins.result c.in-Ok.ensures.greeted c.read_tested-read.ensures.stops c.frees_pins-pins.ensures c.let_go.ensures.goes
