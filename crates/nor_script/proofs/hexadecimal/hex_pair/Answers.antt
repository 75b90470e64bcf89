use Rattle.std.proofs.Common.{ℕ, zero, suc, [], ◌∷◌, Fits, w8, get_or, refl, arith}
use Rattle.nor_script.proofs.HexLemmas.{written}
use Rattle.nor_script.proofs.hexadecimal.hex_pair.Goals as goal

one_fits : (byte : ℕ) → Fits w8 byte → (k : ℕ) → Fits w8 (get_or (byte ∷ []) k 0)
one_fits byte small zero = small
one_fits byte small (suc k) = omega arith

pub returns : goal.returns
returns c = written c.encode_to_slice.result c.encode_to_slice.new.output _ (c.encode_to_slice.ensures.fits.1 refl) c.encode_to_slice.ensures.written
    (one_fits c.args.byte c.ranges.byte)
