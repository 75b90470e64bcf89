use Rattle.std.proofs.Common.{◌≡◌, ◌++◌}
use Rattle.nor_hex.proofs.UnionLemmas.{AreAlikeIn}
use Rattle.nor_hex.proofs.union.clash.Given as goal

abbrev pub invariant-loop-address : goal.invariant-loop-address
invariant-loop-address l = record {
  split : l.yielded ++ l.address-iterator ≡ l.one;
  alike : AreAlikeIn l.yielded l.other;
}
