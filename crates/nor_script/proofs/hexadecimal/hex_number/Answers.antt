use Rattle.std.proofs.Common.{ℕ, zero, suc, ◌∙◌, ap, Fits, w8, get_or, arith}
use Rattle.std.specs.Prelude.{flat_map}
use Rattle.std.specs.Int.{w32, to_be_bytes}
use Rattle.nor_base.specs.Script.{hex_pair}
use Rattle.nor_script.specs.Hexadecimal.{hex_number}
use Rattle.nor_script.proofs.HexLemmas.{written}
use Rattle.nor_script.proofs.hexadecimal.hex_number.Goals as goal

each_fits : (n k : ℕ) → Fits w8 (get_or (to_be_bytes w32 n) k 0)
each_fits n zero = omega arith
each_fits n (suc zero) = omega arith
each_fits n (suc (suc zero)) = omega arith
each_fits n (suc (suc (suc zero))) = omega arith
each_fits n (suc (suc (suc (suc k)))) = omega arith

pub returns : goal.returns
unfolding hex_number
returns c =
    written c.encode_to_slice.result c.encode_to_slice.new.output c.to_be_bytes.result (c.encode_to_slice.ensures.fits.1 (omega arith)) c.encode_to_slice.ensures.written
    (λ k. rw c.to_be_bytes.ensures (each_fits c.args.number k))
    ∙ ap (flat_map hex_pair) c.to_be_bytes.ensures
