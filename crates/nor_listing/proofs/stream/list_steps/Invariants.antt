-- The lines of the steps that came are put.
use Rattle.std.proofs.Common.{◌≡◌, ◌-◌, ◌^◌, [], List, length}
use Rattle.std.specs.Io.KnownBytes.{Appends}
use Rattle.nor_base.specs.declared.step.Step.{Step}
use Rattle.nor_listing.specs.Listing.{unended_listing}
use Rattle.nor_script.specs.Stream.{reading, HasRead}
use Rattle.nor_listing.proofs.StreamLemmas.{mode_upto}
use Rattle.nor_listing.proofs.stream.list_steps.Given as goal

abbrev pub invariant-loop-reader : goal.invariant-loop-reader
invariant-loop-reader g l = record {
  above : List Step;
  read : HasRead (reading (g.R.ByteIn.ahead l.fn.script) []) (reading (g.R.ByteIn.ahead l.script) l.reader.held) above;
  number : l.reader.steps ≡ length above;
  put : Appends (g.W.ByteOut.held l.fn.out) (g.W.ByteOut.held l.out) (unended_listing l.meaning l.first above);
  mode : l.mode4 ≡ mode_upto l.meaning l.first above;
  source : g.R.ByteIn.count l.script ≡ g.R.ByteIn.count l.fn.script;
  count : g.W.ByteOut.count l.out ≡ g.W.ByteOut.count l.fn.out;
}

abbrev pub decreases-loop-reader : goal.decreases-loop-reader
decreases-loop-reader g l = 2 ^ 62 - l.reader.steps
