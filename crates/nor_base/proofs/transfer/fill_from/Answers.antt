-- What the reader gave now follows what it gave before.
use Rattle.std.proofs.Common.{◌∙◌}
use Rattle.nor_base.proofs.TransferLemmas.{gives_more, within_buffer}
use Rattle.nor_base.proofs.transfer.fill_from.Goals as goal

pub loop-done-preserved : goal.loop-done-preserved
loop-done-preserved g c =
    let given = c.in_ok-given.ensures in record {
      within = within_buffer c.loop-done.buffer c.take.new.out c.loop-done.done _ c.in_ok-given.given c.loop-done.invariant.within given.bytes.0;
      given = gives_more _ _ _ c.loop-done.buffer c.take.new.out c.loop-done.done _ c.in_ok-given.given c.loop-done.invariant.within given.bytes.0 c.loop-done.invariant.given given.bytes.1;
      count = given.count ∙ c.loop-done.invariant.count;
    }
