-- What was put so far is what comes before this one, joined.
use Rattle.std.proofs.Common.{◌≡◌, [], Some, take}
use Rattle.std.specs.Prelude.{flat_map}
use Rattle.std.specs.Io.KnownBytes.{Appends}
use Rattle.norprog_flash.specs.State.{valued}
use Rattle.norprog_flash.proofs.options.write_each.Given as goal

abbrev pub invariant-loop-value : goal.invariant-loop-value
invariant-loop-value g l = record {
  put : Appends (g.W.ByteOut.held l.fn.writer) (g.W.ByteOut.held l.writer)
      (flat_map (λ value. valued l.name (Some value.now) []) (take l.value-index l.values));
  count : g.W.ByteOut.count l.writer ≡ g.W.ByteOut.count l.fn.writer;
}
