-- All that was asked for makes the meaning an accepted one.
use Rattle.std.proofs.Common.{◌≡◌, ◌∙◌, sym, ap, subst, true, false, List, ℕ}
use Rattle.std.specs.Prelude.{◌==◌, IfSome}
use Rattle.std.specs.List.{list_any}
use Rattle.nor_base.specs.Accepted.{are_distinct}
use Rattle.nor_sfdp.specs.Opcodes.{taken_opcodes}
use Rattle.nor_sfdp.proofs.AcceptedLemmas.{accepted}
use Rattle.nor_sfdp.proofs.reader.completed.Goals as goal

pub invariant_of-result : goal.invariant_of-result
invariant_of-result c =
    let taken : c.own_opcodes-taken.result.items ≡ taken_opcodes c.args.kinds c.args.regions.items = c.own_opcodes-taken.ensures ∙ ap (taken_opcodes c.args.kinds) c.deref.ensures.0 in
    let opcodes : c.deref-2.result.now ≡ taken_opcodes c.args.kinds c.args.regions.items = c.deref-2.ensures.0 ∙ taken in
    let others : c.deref-3.result.now ≡ taken_opcodes c.args.kinds c.args.regions.items = c.deref-3.ensures.0 ∙ taken in
    let distinct : are_distinct (taken_opcodes c.args.kinds c.args.regions.items) ≡ true = sym (c.if-not-are_distinct.ensures ∙ ap are_distinct opcodes) in
    let free : IfSome c.free_read-quad_read.result (λ q. list_any (λ other. q.op == other) (taken_opcodes c.args.kinds c.args.regions.items) ≡ false) =
    subst (λ (l : List ℕ). IfSome c.free_read-quad_read.result (λ q. list_any (λ other. q.op == other) l ≡ false)) others c.free_read-quad_read.ensures.free in
    accepted _ (record {
      low = c.requires.size.0;
      high = c.requires.size.1;
      whole = c.requires.size.2;
      power = c.requires.kinds.0;
      four = c.requires.kinds.2;
      kinds = c.requires.kinds.1;
      few = c.requires.regions.0;
      form = c.requires.regions.1;
      fill = c.requires.regions.2;
      enter = c.switch.ensures.both;
      leave = c.switch-2.ensures.both;
      quad_read4 = c.is_with_quad_read.ensures.some;
      op = c.free_read-quad_read.ensures.op;
      dummies = c.free_read-quad_read.ensures.dummies;
      distinct = distinct;
      free = free;
    })
