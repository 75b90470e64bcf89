use Rattle.std.proofs.Common.{◌-◌}
use Rattle.nor_erase.proofs.PlanLemmas.{IsPlannedTo}
use Rattle.nor_erase.proofs.planner.plan.Given as goal

-- whatever the bytes of the chip outside the window are
abbrev pub invariant-loop-address : goal.invariant-loop-address
invariant-loop-address l = IsPlannedTo l.meaning l.strategy l.at l.have l.want l.low l.high l.units.items

abbrev pub decreases-loop-address : goal.decreases-loop-address
decreases-loop-address l = l.end - l.high
