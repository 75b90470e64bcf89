use Rattle.std.proofs.Common.{◌≡◌, ◌++◌, map, flat_map, take}
use Rattle.nor_base.specs.Operations.{instructions}
use Rattle.nor_select.specs.Coded.{coded}
use Rattle.nor_select.specs.View.{op_of, coded_of}
use Rattle.nor_select.proofs.select.append_ops.Given as goal

-- the instructions of the operations so far are there
abbrev pub invariant-loop-op : goal.invariant-loop-op
invariant-loop-op g l =
    map coded_of l.instrs.items ≡ map coded_of l.fn.instrs.items ++ map coded (flat_map (instructions l.meaning l.start l.strategy) (map op_of (take l.op-index l.ops)))
