-- What the writer took now follows what it took before.
use Rattle.std.proofs.Common.{◌∙◌}
use Rattle.nor_base.proofs.TransferLemmas.{appends_more, within_bytes}
use Rattle.nor_base.proofs.transfer.put_all.Goals as goal

pub loop-done-preserved : goal.loop-done-preserved
loop-done-preserved g c =
    let taken = c.in_ok-done.ensures in record {
      within = within_bytes c.args.bytes.now c.loop-done.done _ c.in_ok-done.field-0 c.loop-done.invariant.within taken.bytes.1;
      put = appends_more _ _ _ c.args.bytes.now c.loop-done.done _ c.in_ok-done.field-0 taken.bytes.1 c.loop-done.invariant.put taken.bytes.2;
      count = taken.count ∙ c.loop-done.invariant.count;
    }
