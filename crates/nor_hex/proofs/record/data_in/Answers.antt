use Rattle.std.proofs.Common.{length, ◌-◌, drop, refl}
use Rattle.hex.specs.Hex.{is_hex_digit}
use Rattle.nor_hex.proofs.RecordLemmas.{all-drop, all-take, data_bytes}
use Rattle.nor_hex.proofs.record.data_in.Goals as goal

pub returns-clause-digits : goal.returns-clause-digits
returns-clause-digits c = all-take is_hex_digit (length c.args.digits.now - 2 - 8) (drop 8 c.args.digits.now) (all-drop is_hex_digit 8 c.args.digits.now c.requires.digits)

pub returns-clause-bytes : goal.returns-clause-bytes
returns-clause-bytes c = data_bytes c.args.digits.now (length c.args.digits.now - 2 - 8) c.requires.length refl
