-- None of the kinds before this one is named.
use Rattle.std.proofs.Common.{◌≡◌, ◌-◌, find}
use Rattle.std.specs.List.{range_with_len}
use Rattle.nor_base.specs.Blocks.{kinds}
use Rattle.nor_times.specs.Busy.{is_named}
use Rattle.nor_times.proofs.busy.named_kind.Given as goal

abbrev pub invariant-loop-kind : goal.invariant-loop-kind
invariant-loop-kind l = find (is_named l.meaning l.opcode) kinds ≡ find (is_named l.meaning l.opcode) (range_with_len l.kind (5 - l.kind))
