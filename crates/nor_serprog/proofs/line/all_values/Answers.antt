-- One more value.
use Rattle.std.proofs.Common.{refl, arith, length-set}
use Rattle.nor_serprog.proofs.LineLemmas.{values_more, values_all}
use Rattle.nor_serprog.proofs.line.all_values.Goals as goal

pub loop-place-init : goal.loop-place-init
loop-place-init c = record { same = refl; long = refl }

pub loop-place-preserved : goal.loop-place-preserved
loop-place-preserved c = record {
  same = values_more c.loop-place.values c.loop-place.place c.loop-place.place (omega arith) c.loop-place.invariant.long refl c.loop-place.invariant.same;
  long = omega (arith, length-set c.loop-place.values c.loop-place.place c.loop-place.place);
}

pub returns : goal.returns
returns c = values_all c.loop-place.values c.loop-place.place (omega arith) c.loop-place.invariant.long c.loop-place.invariant.same
