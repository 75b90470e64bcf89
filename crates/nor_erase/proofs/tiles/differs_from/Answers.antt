-- Two ranges are equal where no byte differs.
use Rattle.std.proofs.Common.{◌≡◌, ◌+◌, ◌-◌, ◌∙◌, ap, arith, not, take, drop}
use Rattle.nor_erase.proofs.TileLemmas.{ranges_differ}
use Rattle.nor_erase.proofs.tiles.differs_from.Goals as goal
use lib.Pointwise.{pointwise}
use lib.Dec.{eqb}

pub returns : goal.returns
returns c =
    let count : (c.args.from + c.args.count) - c.args.from ≡ c.args.count = omega arith in
    c.ne.ensures
    ∙ ap (λ n. not (pointwise eqb (take n (drop c.args.from c.args.have.now)) (take n (drop c.args.from c.args.want.now)))) count
    ∙ ranges_differ c.args.have.now c.args.want.now c.args.count c.args.from c.requires.inside c.requires.lengths
