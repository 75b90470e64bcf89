-- Reads by their words.
use Rattle.std.proofs.Common.{subst}
use Rattle.nor_base.specs.Device.{Writes}
use Rattle.nor_listing.proofs.WordLemmas.{verify_is, quad_verify_is}
use Rattle.nor_listing.proofs.verified.put_seen.Goals as goal

pub returns-in-Read-clause-bytes : goal.returns-in-Read-clause-bytes
returns-in-Read-clause-bytes g c =
    let s = c.args.seen.now in
    subst (Writes (g.W.ByteOut.held c.args.out.now) (g.W.ByteOut.held c.put_read.new.out) c.put_read.result)
    (verify_is c.args.clocks.now c.args.expect.now s.address s.body.now c.opcode-op.result c.opcode-op.ensures c.count.result s.what c.in-Read.is c.count.ensures)
    c.put_read.ensures.bytes

pub returns-in-QuadRead-clause-bytes : goal.returns-in-QuadRead-clause-bytes
returns-in-QuadRead-clause-bytes g c =
    let s = c.args.seen.now in
    subst (Writes (g.W.ByteOut.held c.args.out.now) (g.W.ByteOut.held c.put_read-in-QuadRead.new.out) c.put_read-in-QuadRead.result)
    (quad_verify_is c.args.clocks.now c.args.expect.now s.address s.body.now c.opcode-op.result c.opcode-op.ensures c.count-in-QuadRead.result s.what c.in-QuadRead.is
    c.count-in-QuadRead.ensures) c.put_read-in-QuadRead.ensures.bytes
