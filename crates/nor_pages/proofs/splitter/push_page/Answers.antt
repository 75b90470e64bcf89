-- Byte by byte.
use Rattle.std.proofs.Common.{◌≡◌, ◌+◌, ◌++◌, ◌∙◌, ap, subst, arith, length}
use Rattle.nor_pages.specs.Runs.{ended, onward, closed_at, differs_at, reaches_back}
use Rattle.nor_pages.proofs.RunLemmas.{at_byte, same_closed, same_differs}
use Rattle.nor_pages.proofs.splitter.push_page.Goals as goal

pub loop-i-preserved : goal.loop-i-preserved
loop-i-preserved g c =
    let at = c.args.at in
    let i = c.loop-i.i in
    let closed = same_closed c.args.blank c.args.erased_only c.args.have.now at i c.old_over-old.result c.is_closed-closed.result c.old_over-old.ensures c.is_closed-closed.ensures in
    let apart = same_differs c.args.blank c.args.have.now c.args.want.now at i c.old_over-old.result c.differs.result c.old_over-old.ensures c.differs.ensures in
    let place : at + i + 1 ≡ at + (i + 1) = omega arith in
    record {
      back = subst (reaches_back c.in_ok-run.run') place c.in_ok-run.ensures.back;
      whole =
          at_byte (closed_at c.args.blank c.args.erased_only c.args.have.now at) (differs_at c.args.blank c.args.have.now c.args.want.now at) c.loop-i.run c.in_ok-run.run' at i
          (length c.args.want.now) _ _ _ c.loop-i-test.true (c.in_ok-run.ensures.runs ∙ ap (λ b. c.loop-i.runs.items ++ ended b c.loop-i.run) closed)
          (c.in_ok-run.ensures.onward ∙ ap (λ b. onward b c.differs.result c.loop-i.run (at + i)) closed
          ∙ ap (λ b. onward (closed_at c.args.blank c.args.erased_only c.args.have.now at (at + i)) b c.loop-i.run (at + i)) apart) c.loop-i.invariant.whole;
    }
