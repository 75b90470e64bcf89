-- The steps so far, and those that are still to be unpacked, are those that were.
use Rattle.std.proofs.Common.{◌≡◌, ◌++◌, drop, length}
use Rattle.nor_flasher.specs.Packed.{unpacked, AreKept}
use Rattle.nor_flasher.proofs.packed.Unpacker.next.Given as goal

abbrev pub invariant-loop-mark : goal.invariant-loop-mark
invariant-loop-mark l = record {
  all : unpacked l.self-inside.marks.now l.self-inside.bytes.now ≡ l.steps.items ++ unpacked (drop l.mark-index l.marks ++ l.later) l.rest;
  count : length l.steps.items ≡ l.mark-index;
  kept : AreKept (drop l.mark-index l.marks ++ l.later) l.rest;
}
