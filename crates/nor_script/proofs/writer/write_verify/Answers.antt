-- The digits follow the clocks, and LF follows the digits.
use Rattle.std.proofs.Common.{[], ◌∷◌, subst}
use Rattle.std.specs.Prelude.{flat_map}
use Rattle.nor_base.specs.Device.{Cuts, Writes}
use Rattle.nor_base.specs.Script.{hex_pair}
use Rattle.nor_base.proofs.DeviceLaws.{Cuts-then, Cuts-more, Writes-then, Writes-cut}
use Rattle.nor_script.proofs.VerifyLemmas.{clocks_then_digits, front_of_verify, digits_of_verify}
use Rattle.nor_script.proofs.writer.write_verify.Goals as goal

pub returns-in_err-put_parts-clause-bytes : goal.returns-in_err-put_parts-clause-bytes
returns-in_err-put_parts-clause-bytes g c =
    Writes-cut _ _ _ _ c.from_residual.ensures.0
    (subst (Cuts (g.W.ByteOut.held c.args.writer.now) (g.W.ByteOut.held c.put_parts.new.writer)) (clocks_then_digits c.args.clocks.now c.args.expect.now)
    (Cuts-more _ _ (front_of_verify c.args.clocks.now) (digits_of_verify c.args.expect.now) c.in_err-put_parts.ensures.bytes))

pub returns-in_err-put_hexadecimal-clause-bytes : goal.returns-in_err-put_hexadecimal-clause-bytes
returns-in_err-put_hexadecimal-clause-bytes g c =
    Writes-cut _ _ _ _ c.from_residual-in_err-put_hexadecimal.ensures.0
    (subst (Cuts (g.W.ByteOut.held c.args.writer.now) (g.W.ByteOut.held c.put_hexadecimal.new.out)) (clocks_then_digits c.args.clocks.now c.args.expect.now)
    (Cuts-then _ _ _ (front_of_verify c.args.clocks.now) (digits_of_verify c.args.expect.now) c.in_ok-put_parts.ensures.bytes
    (Cuts-more _ _ (flat_map hex_pair c.args.expect.now) (10 ∷ []) c.in_err-put_hexadecimal.ensures.bytes)))

pub returns-clause-bytes : goal.returns-clause-bytes
returns-clause-bytes g c =
    subst (Writes (g.W.ByteOut.held c.args.writer.now) (g.W.ByteOut.held c.put_all.new.writer) c.put_all.result) (clocks_then_digits c.args.clocks.now c.args.expect.now)
    (Writes-then _ _ _ _ (front_of_verify c.args.clocks.now) (digits_of_verify c.args.expect.now) c.in_ok-put_parts.ensures.bytes
    (Writes-then _ _ _ _ (flat_map hex_pair c.args.expect.now) (10 ∷ []) c.in_ok-put_hexadecimal.ensures.bytes c.put_all.ensures.bytes))
