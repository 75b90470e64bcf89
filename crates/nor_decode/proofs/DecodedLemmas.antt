-- Clocks are decoded just where a transaction is seen in them.
use Rattle.std.proofs.Common.{◌≡◌, ℕ, Bool, List, Some, None, sym, ap}
use Rattle.std.specs.Prelude.{option_map}
use Rattle.nor_base.specs.Parameters.{Parameters}
use Rattle.nor_base.specs.Decoding.{Transaction, instruction, transaction, decode}

pub decoded : (m : Parameters) (mode4 : Bool) (clocks : List ℕ) (t : Transaction) → Some t ≡ transaction m mode4 clocks → decode m mode4 clocks ≡ Some (instruction t)
unfolding decode
decoded m mode4 clocks t is = ap (option_map instruction) (sym is)

pub not_decoded : (m : Parameters) (mode4 : Bool) (clocks : List ℕ) → None ≡ transaction m mode4 clocks → decode m mode4 clocks ≡ None
unfolding decode
not_decoded m mode4 clocks is = ap (option_map instruction) (sym is)
