-- What stands before the bytes was put, the bytes, and LF.
use Rattle.std.specs.Prelude.{flat_map}
use Rattle.nor_base.specs.Script.{hex_pair}
use Rattle.nor_base.proofs.DeviceLaws.{Writes-cut}
use Rattle.nor_listing.specs.Listing.{in_eight, counted}
use Rattle.nor_listing.proofs.LineLemmas.{before_cut, data_cut, data_put}
use Rattle.nor_listing.proofs.verified.put_read.Goals as goal

pub returns-in_err-put_place-clause-bytes : goal.returns-in_err-put_place-clause-bytes
returns-in_err-put_place-clause-bytes g c =
    Writes-cut _ _ _ _ c.from_residual.ensures.0
    (before_cut c.args.word.now (hex_pair c.args.op) (in_eight c.args.address) (counted c.args.count) (flat_map hex_pair c.args.expect.now) _ _ c.in_err-put_place.ensures.bytes)

pub returns-in_err-put_hexadecimal-clause-bytes : goal.returns-in_err-put_hexadecimal-clause-bytes
returns-in_err-put_hexadecimal-clause-bytes g c =
    Writes-cut _ _ _ _ c.from_residual-in_err-put_hexadecimal.ensures.0
    (data_cut c.args.word.now (hex_pair c.args.op) (in_eight c.args.address) (counted c.args.count) (flat_map hex_pair c.args.expect.now) _ _ _
    c.in_ok-put_place.ensures.bytes c.in_err-put_hexadecimal.ensures.bytes)

pub returns-clause-bytes : goal.returns-clause-bytes
returns-clause-bytes g c =
    data_put c.args.word.now (hex_pair c.args.op) (in_eight c.args.address) (counted c.args.count) (flat_map hex_pair c.args.expect.now) _ _ _ _ _
    c.in_ok-put_place.ensures.bytes c.in_ok-put_hexadecimal.ensures.bytes c.put_all.ensures.bytes
