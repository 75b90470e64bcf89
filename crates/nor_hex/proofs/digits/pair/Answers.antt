use Rattle.std.proofs.Common.{◌≡◌, ℕ, ◌+◌, ◌*◌, ◌/◌, ◌%◌, ◌<◌, length, slice_index, true, sym, arith, rules}
use Rattle.hex.specs.Hex.{is_hex_digit}
use Rattle.nor_hex.specs.Record.{digit}
use Rattle.nor_hex.proofs.PairLemmas.{pair_bytes-at, passes_at}
use Rattle.nor_hex.proofs.digits.pair.Goals as goal

digit_is : (byte : ℕ) → is_hex_digit byte ≡ true → byte % 16 + byte / 64 * 9 ≡ digit byte
digit_is byte e = search rules

pub returns : goal.returns
returns c =
    let high : 2 * c.args.i < length c.args.digits.now = omega (arith, c.requires.in_range) in
    let low : 2 * c.args.i + 1 < length c.args.digits.now = omega (arith, c.requires.in_range) in
    let first = passes_at is_hex_digit c.args.digits.now (2 * c.args.i) c.requires.digits high in
    let second = passes_at is_hex_digit c.args.digits.now (2 * c.args.i + 1) c.requires.digits low in
    rw (digit_is (slice_index c.args.digits.now (2 * c.args.i)) first, digit_is (slice_index c.args.digits.now (2 * c.args.i + 1)) second)
    (sym (pair_bytes-at c.args.digits.now c.args.i c.requires.in_range))
