-- The page is a power of two.
use Rattle.std.proofs.Common.{refl, arith}
use Rattle.nor_sfdp.proofs.basic.page_in.Goals as goal

pub returns-then-dwords-lt16-clause-power : goal.returns-then-dwords-lt16-clause-power
returns-then-dwords-lt16-clause-power c = record { exponent = 6; at_least = omega arith; at_most = omega arith; value = refl }
