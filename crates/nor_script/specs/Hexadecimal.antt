-- Numbers in hexadecimal digits (this project's).
use Rattle.std.specs.Prelude.{ℕ, List, flat_map}
use Rattle.std.specs.Int.{w32, to_be_bytes}
use Rattle.nor_base.specs.Script.{hex_pair}

-- a number below 2^32 in eight lower-case hexadecimal digits, those of its highest byte first
unfoldable pub hex_number : ℕ → List ℕ
hex_number n = flat_map hex_pair (to_be_bytes w32 n)
