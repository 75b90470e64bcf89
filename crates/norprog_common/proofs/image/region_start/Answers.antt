-- The layout's region, or why it has none.
use Rattle.std.proofs.Common.{[], ap, option_map, refl}
use Rattle.norprog_common.specs.Image.{InLayout, NoLayout, NoRegion}
use Rattle.norprog_common.proofs.ImageLemmas.{misses_in, starts_in}
use Rattle.norprog_common.proofs.image.region_start.Goals as goal

pub returns-in_default-clause-refused : goal.returns-in_default-clause-refused
returns-in_default-clause-refused c = rw c.in_default.is (InLayout c.args.name.now [] _ refl (NoRegion refl))

pub returns-in-Ok-clause-start : goal.returns-in-Ok-clause-start
returns-in-Ok-clause-start c =
    starts_in _ c.in-Some.text.now c.in-Ok.layout c.regions.result.now c.args.name.now c.args.len (ap (option_map (λ t. t.now)) c.in-Some.is) c.in-Ok.ensures.accepted
    c.regions.ensures c.sized_start.result c.sized_start.ensures

pub returns-in-Ok-clause-refused : goal.returns-in-Ok-clause-refused
returns-in-Ok-clause-refused c =
    misses_in _ c.in-Some.text.now c.in-Ok.layout c.regions.result.now c.args.name.now c.args.len (ap (option_map (λ t. t.now)) c.in-Some.is) c.in-Ok.ensures.accepted
    c.regions.ensures c.sized_start.result c.sized_start.ensures

pub returns-in-Err-clause-refused : goal.returns-in-Err-clause-refused
returns-in-Err-clause-refused c =
    rw c.from.ensures (NoLayout c.args.name.now c.in-Some.text.now c.in-Err.fault (ap (option_map (λ t. t.now)) c.in-Some.is) c.in-Err.ensures.refused)
