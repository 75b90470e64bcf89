-- The page lies on the chip.
use Rattle.std.proofs.Common.{◌≡◌, ◌<◌, ap, arith, length}
use Rattle.nor_base.specs.Port.{Shown}
use Rattle.nor_chip.proofs.RangeLemmas.{page_inside, page_is_power, page_not_empty}
use Rattle.nor_chip.proofs.chip.Chip.program.Goals as goal

pub program-requires-clause-some : goal.program-requires-clause-some
program-requires-clause-some c = page_not_empty c.self.inside.page (page_is_power c.self.inside.meaning.now c.self.inside.page c.acceptance.ensures c.self.invariant.1.1)

pub program-requires-clause-inside : goal.program-requires-clause-inside
program-requires-clause-inside c =
    let whole : length c.self.inside.array.items ≡ length c.args.self.now.chip.array = ap (λ (v : Shown). length v.chip.array) c.self.view_is in
    let inside : c.args.seen.now.address < c.self.inside.meaning.now.size = omega (arith, c.requires.inside, c.self.invariant.0, whole) in
    let power = page_is_power c.self.inside.meaning.now c.self.inside.page c.acceptance.ensures c.self.invariant.1.1 in
    let fits = page_inside c.self.inside.meaning.now c.self.inside.page c.args.seen.now.address c.acceptance.ensures power inside in
    omega (arith, fits, c.self.invariant.0, c.as_mut_slice.ensures.len)
