-- The lines of these steps were read.
use Rattle.std.proofs.Common.{◌≡◌, length}
use Rattle.nor_listing.specs.Read.{mode_through}
use Rattle.nor_listing.specs.Told.{AreRead}
use Rattle.nor_listing.proofs.reader.read_lines.Given as goal

abbrev pub invariant-loop-line : goal.invariant-loop-line
invariant-loop-line l = record {
  read : AreRead l.meaning l.first l.text l.steps.items l.rest;
  mode : l.mode4 ≡ mode_through l.meaning l.first l.steps.items;
}

abbrev pub decreases-loop-line : goal.decreases-loop-line
decreases-loop-line l = length l.rest
