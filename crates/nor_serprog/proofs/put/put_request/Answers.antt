-- The head, and then the bytes.
use Rattle.std.proofs.Common.{◌≡◌, length, subst, rules}
use Rattle.std.specs.Io.KnownBytes.{Appends}
use Rattle.nor_base.specs.Decoding.{bytes_of_bits}
use Rattle.nor_base.proofs.DeviceLaws.{Writes-then}
use Rattle.nor_serprog.specs.Protocol.{head}
use Rattle.nor_serprog.proofs.put.put_request.Goals as goal

pub returns-clause-bytes : goal.returns-clause-bytes
returns-clause-bytes g c =
    let bytes = bytes_of_bits c.args.bits.now in
    let is : c.head.result ≡ head (length bytes) c.args.asked = search rules in
    Writes-then _ _ _ c.put_sent.result (head (length bytes) c.args.asked) bytes
    (subst (Appends (g.W.ByteOut.held c.args.to.now) (g.W.ByteOut.held c.put_all-2.new.writer)) is c.in_ok-put_all.ensures.bytes) c.put_sent.ensures.bytes
