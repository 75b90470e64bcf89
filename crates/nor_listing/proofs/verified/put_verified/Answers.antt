-- What a chip sees in the clocks, if they may verify.
use Rattle.std.proofs.Common.{◌≡◌, true, Some, None, subst}
use Rattle.nor_base.specs.Decoding.{instruction}
use Rattle.nor_base.specs.Device.{Writes}
use Rattle.nor_base.specs.Run.{is_verify}
use Rattle.nor_decode.specs.Seen.{transaction_of}
use Rattle.nor_decode.proofs.DecodedLemmas.{decoded, not_decoded}
use Rattle.nor_listing.proofs.SeenLemmas.{has_eight, verified_by}
use Rattle.nor_listing.proofs.verified.put_verified.Goals as goal

pub put_seen-requires : goal.put_seen-requires
put_seen-requires g c = record { opcode = has_eight c.args.meaning.now c.args.mode4 c.args.clocks.now _ c.in-Some.ensures }

pub returns-in-Some-clause-bytes : goal.returns-in-Some-clause-bytes
returns-in-Some-clause-bytes g c =
    let may : is_verify c.args.clocks.now ≡ true = cc in
    subst (Writes (g.W.ByteOut.held c.args.out.now) (g.W.ByteOut.held c.put_seen.new.out) c.put_seen.result)
    (verified_by c.args.meaning.now c.args.mode4 c.args.clocks.now c.args.expect.now (Some (instruction (transaction_of c.in-Some.seen))) may
    (decoded c.args.meaning.now c.args.mode4 c.args.clocks.now (transaction_of c.in-Some.seen) c.in-Some.ensures)) c.put_seen.ensures.bytes

pub returns-in-None-clause-bytes : goal.returns-in-None-clause-bytes
returns-in-None-clause-bytes g c =
    let may : is_verify c.args.clocks.now ≡ true = cc in
    subst (Writes (g.W.ByteOut.held c.args.out.now) (g.W.ByteOut.held c.put_line-in-None.new.out) c.put_line-in-None.result)
    (verified_by c.args.meaning.now c.args.mode4 c.args.clocks.now c.args.expect.now None may
    (not_decoded c.args.meaning.now c.args.mode4 c.args.clocks.now c.in-None.ensures)) c.put_line-in-None.ensures.bytes
