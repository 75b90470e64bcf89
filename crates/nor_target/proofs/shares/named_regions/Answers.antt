-- One name more.
use Rattle.std.proofs.Common.{◌∙◌, ap, rules}
use Rattle.nor_target.specs.Shares.{region_named}
use Rattle.nor_target.proofs.ShareLemmas.{one_named, none_named}
use Rattle.nor_target.proofs.shares.named_regions.Goals as goal
use Rattle.nor_target.proofs.shares.named_regions.Goals.{in-Some+in_ok-push, in_default}

pub loop-name-preserved : goal.loop-name-preserved
loop-name-preserved c = elim c.match-region_named.branch [
  | in-Some+in_ok-push w ↦ ap (λ v. v.items) w.chosen-is ∙ w.in_ok-push.ensures.items
      ∙ one_named (region_named c.args.regions.now) c.args.names.now c.loop-name.name-index c.as_slice.result.now w.in-Some.region c.loop-name.chosen.items c.loop-name-test.true (search rules) c.loop-name.invariant (search rules)
  | in_default w ↦ ap (λ v. v.items) w.chosen-is
      ∙ none_named (region_named c.args.regions.now) c.args.names.now c.loop-name.name-index c.as_slice.result.now c.loop-name.chosen.items c.loop-name-test.true (search rules) c.loop-name.invariant (search rules)
]
