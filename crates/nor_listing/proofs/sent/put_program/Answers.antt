-- What stands before the bytes was put, the bytes, and LF.
use Rattle.std.proofs.Common.{◌++◌, subst}
use Rattle.std.specs.Prelude.{flat_map}
use Rattle.nor_base.specs.Decoding.{instruction}
use Rattle.nor_base.specs.Device.{Writes}
use Rattle.nor_base.specs.Script.{closed, hex_pair}
use Rattle.nor_base.proofs.DeviceLaws.{Writes-cut}
use Rattle.nor_decode.specs.Seen.{transaction_of}
use Rattle.nor_listing.specs.Listing.{in_eight, counted, spelled}
use Rattle.nor_listing.proofs.LineLemmas.{before_cut, data_cut, data_put}
use Rattle.nor_listing.proofs.sent.put_program.Goals as goal

pub returns-in_err-put_place-clause-bytes : goal.returns-in_err-put_place-clause-bytes
returns-in_err-put_place-clause-bytes g c =
    let i = instruction (transaction_of c.args.seen.now) in
    subst (λ n. Writes (g.W.ByteOut.held c.args.out.now) (g.W.ByteOut.held c.put_place.new.out) c.from_residual.result
    (closed (c.args.word.now ++ (hex_pair c.args.op ++ (in_eight c.args.seen.now.address ++ (counted n ++ spelled i.sent)))))) c.count_sent.ensures
    (Writes-cut _ _ _ _ c.from_residual.ensures.0 (before_cut c.args.word.now (hex_pair c.args.op) (in_eight c.args.seen.now.address) (counted c.count_sent.result) (flat_map hex_pair i.sent) _ _ c.in_err-put_place.ensures.bytes))

pub returns-in_err-put_bytes-clause-bytes : goal.returns-in_err-put_bytes-clause-bytes
returns-in_err-put_bytes-clause-bytes g c =
    let i = instruction (transaction_of c.args.seen.now) in
    subst (λ n. Writes (g.W.ByteOut.held c.args.out.now) (g.W.ByteOut.held c.put_bytes.new.out) c.from_residual-in_err-put_bytes.result
    (closed (c.args.word.now ++ (hex_pair c.args.op ++ (in_eight c.args.seen.now.address ++ (counted n ++ spelled i.sent)))))) c.count_sent.ensures
    (Writes-cut _ _ _ _ c.from_residual-in_err-put_bytes.ensures.0
    (data_cut c.args.word.now (hex_pair c.args.op) (in_eight c.args.seen.now.address) (counted c.count_sent.result) (flat_map hex_pair i.sent) _ _ _
    c.in_ok-put_place.ensures.bytes c.in_err-put_bytes.ensures.bytes))

pub returns-clause-bytes : goal.returns-clause-bytes
returns-clause-bytes g c =
    let i = instruction (transaction_of c.args.seen.now) in
    subst (λ n. Writes (g.W.ByteOut.held c.args.out.now) (g.W.ByteOut.held c.put_all.new.writer) c.put_all.result
    (closed (c.args.word.now ++ (hex_pair c.args.op ++ (in_eight c.args.seen.now.address ++ (counted n ++ spelled i.sent)))))) c.count_sent.ensures
    (data_put c.args.word.now (hex_pair c.args.op) (in_eight c.args.seen.now.address) (counted c.count_sent.result) (flat_map hex_pair i.sent) _ _ _ _ _
    c.in_ok-put_place.ensures.bytes c.in_ok-put_bytes.ensures.bytes c.put_all.ensures.bytes)
