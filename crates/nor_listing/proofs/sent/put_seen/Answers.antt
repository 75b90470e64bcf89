-- Programs and reads by their words.
use Rattle.std.proofs.Common.{subst}
use Rattle.nor_base.specs.Device.{Writes}
use Rattle.nor_listing.proofs.WordLemmas.{program_is, quad_program_is, read_is, quad_read_is}
use Rattle.nor_listing.proofs.sent.put_seen.Goals as goal

pub returns-in-Program-clause-bytes : goal.returns-in-Program-clause-bytes
returns-in-Program-clause-bytes g c =
    let s = c.args.seen.now in
    subst (Writes (g.W.ByteOut.held c.args.out.now) (g.W.ByteOut.held c.put_program.new.out) c.put_program.result)
    (program_is c.args.meaning.now c.args.clocks.now s.address s.body.now c.opcode-op.result c.opcode-op.ensures s.what c.in-Program.is) c.put_program.ensures.bytes

pub returns-in-QuadProgram-clause-bytes : goal.returns-in-QuadProgram-clause-bytes
returns-in-QuadProgram-clause-bytes g c =
    let s = c.args.seen.now in
    subst (Writes (g.W.ByteOut.held c.args.out.now) (g.W.ByteOut.held c.put_program-in-QuadProgram.new.out) c.put_program-in-QuadProgram.result)
    (quad_program_is c.args.meaning.now c.args.clocks.now s.address s.body.now c.opcode-op.result c.opcode-op.ensures s.what c.in-QuadProgram.is) c.put_program-in-QuadProgram.ensures.bytes

pub returns-in-Read-clause-bytes : goal.returns-in-Read-clause-bytes
returns-in-Read-clause-bytes g c =
    let s = c.args.seen.now in
    subst (Writes (g.W.ByteOut.held c.args.out.now) (g.W.ByteOut.held c.put_place.new.out) c.put_place.result)
    (read_is c.args.meaning.now c.args.clocks.now s.address s.body.now c.opcode-op.result c.opcode-op.ensures c.count-in-Read.result s.what c.in-Read.is c.count-in-Read.ensures)
    c.put_place.ensures.bytes

pub returns-in-QuadRead-clause-bytes : goal.returns-in-QuadRead-clause-bytes
returns-in-QuadRead-clause-bytes g c =
    let s = c.args.seen.now in
    subst (Writes (g.W.ByteOut.held c.args.out.now) (g.W.ByteOut.held c.put_place-in-QuadRead.new.out) c.put_place-in-QuadRead.result)
    (quad_read_is c.args.meaning.now c.args.clocks.now s.address s.body.now c.opcode-op.result c.opcode-op.ensures c.count-in-QuadRead.result s.what c.in-QuadRead.is c.count-in-QuadRead.ensures)
    c.put_place-in-QuadRead.ensures.bytes
