-- What the device took now follows what it took before.
use Rattle.std.proofs.Common.{◌∙◌}
use Rattle.norprog_cli.proofs.GatheredLemmas.{appends_more, within_bytes}
use Rattle.norprog_cli.proofs.gathered.put_front.Goals as goal

pub loop-done-preserved : goal.loop-done-preserved
loop-done-preserved g c =
    let taken = c.in-Ok.ensures in record {
      within = within_bytes c.args.bytes.now c.loop-done.done _ c.in-Ok.taken c.loop-done.invariant.within taken.bytes.1;
      put = appends_more _ _ _ c.args.bytes.now c.loop-done.done _ c.in-Ok.taken taken.bytes.1 c.loop-done.invariant.put taken.bytes.2;
      count = taken.count ∙ c.loop-done.invariant.count;
    }
