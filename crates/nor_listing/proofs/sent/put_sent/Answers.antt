-- What a chip sees in the clocks, and the mode after it.
use Rattle.std.proofs.Common.{◌∙◌, sym, ap, subst}
use Rattle.std.specs.Io.KnownBytes.{Appends}
use Rattle.nor_base.specs.Device.{Cuts}
use Rattle.nor_base.specs.Script.{closed}
use Rattle.nor_base.proofs.DeviceLaws.{Writes-cut}
use Rattle.nor_base.specs.Spelling.{mode_by}
use Rattle.nor_decode.specs.Seen.{transaction_of}
use Rattle.nor_decode.proofs.DecodedLemmas.{decoded, not_decoded}
use Rattle.nor_listing.specs.Listing.{send_words}
use Rattle.nor_listing.proofs.SeenLemmas.{has_eight}
use Rattle.nor_listing.proofs.sent.put_sent.Goals as goal

pub put_seen-requires : goal.put_seen-requires
put_seen-requires g c = record { opcode = has_eight c.args.meaning.now c.args.mode4 c.args.clocks.now _ c.in-Some.ensures }

pub returns-in_err-put_seen-in-Some-clause-bytes : goal.returns-in_err-put_seen-in-Some-clause-bytes
returns-in_err-put_seen-in-Some-clause-bytes g c =
    let is = decoded c.args.meaning.now c.args.mode4 c.args.clocks.now (transaction_of c.in-Some.seen) c.in-Some.ensures in
    Writes-cut _ _ _ _ c.from_residual.ensures.0
    (subst (Cuts (g.W.ByteOut.held c.args.out.now) (g.W.ByteOut.held c.put_seen.new.out)) (ap (λ o. closed (send_words c.args.meaning.now c.args.clocks.now o)) (sym is)) c.in_err-put_seen-in-Some.ensures.bytes)

pub returns-in_ok-put_seen-in-Some-clause-bytes : goal.returns-in_ok-put_seen-in-Some-clause-bytes
returns-in_ok-put_seen-in-Some-clause-bytes g c =
    let is = decoded c.args.meaning.now c.args.mode4 c.args.clocks.now (transaction_of c.in-Some.seen) c.in-Some.ensures in
    subst (Appends (g.W.ByteOut.held c.args.out.now) (g.W.ByteOut.held c.put_seen.new.out)) (ap (λ o. closed (send_words c.args.meaning.now c.args.clocks.now o)) (sym is)) c.in_ok-put_seen-in-Some.ensures.bytes

pub returns-in_ok-put_seen-in-Some-clause-mode : goal.returns-in_ok-put_seen-in-Some-clause-mode
returns-in_ok-put_seen-in-Some-clause-mode g c = c.mode_after.ensures ∙ ap (mode_by c.args.mode4) (sym (decoded c.args.meaning.now c.args.mode4 c.args.clocks.now (transaction_of c.in-Some.seen) c.in-Some.ensures))

pub returns-in_err-put_line-in-None-clause-bytes : goal.returns-in_err-put_line-in-None-clause-bytes
returns-in_err-put_line-in-None-clause-bytes g c =
    let is = not_decoded c.args.meaning.now c.args.mode4 c.args.clocks.now c.in-None.ensures in
    Writes-cut _ _ _ _ c.from_residual-in_err-put_line-in-None.ensures.0
    (subst (Cuts (g.W.ByteOut.held c.args.out.now) (g.W.ByteOut.held c.put_line.new.out)) (ap (λ o. closed (send_words c.args.meaning.now c.args.clocks.now o)) (sym is)) c.in_err-put_line-in-None.ensures.bytes)

pub returns-in_ok-put_line-in-None-clause-bytes : goal.returns-in_ok-put_line-in-None-clause-bytes
returns-in_ok-put_line-in-None-clause-bytes g c =
    let is = not_decoded c.args.meaning.now c.args.mode4 c.args.clocks.now c.in-None.ensures in
    subst (Appends (g.W.ByteOut.held c.args.out.now) (g.W.ByteOut.held c.put_line.new.out)) (ap (λ o. closed (send_words c.args.meaning.now c.args.clocks.now o)) (sym is)) c.in_ok-put_line-in-None.ensures.bytes

pub returns-in_ok-put_line-in-None-clause-mode : goal.returns-in_ok-put_line-in-None-clause-mode
returns-in_ok-put_line-in-None-clause-mode g c = ap (mode_by c.args.mode4) (sym (not_decoded c.args.meaning.now c.args.mode4 c.args.clocks.now c.in-None.ensures))
