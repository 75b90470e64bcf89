-- Eight clocks for a byte on one lane, two on four.
use Rattle.nor_decode.proofs.ByteLemmas.{count_of_bits, count_of_nibbles}
use Rattle.nor_decode.proofs.seen.Seen.count.Goals as goal

pub returns-in-Program : goal.returns-in-Program
returns-in-Program c = count_of_bits c.args.self.now.body.now c.args.self.now.what c.in-Program.is

pub returns-in-QuadProgram : goal.returns-in-QuadProgram
returns-in-QuadProgram c = count_of_nibbles c.args.self.now.body.now c.args.self.now.what c.in-QuadProgram.is
