-- At most 2^32 pages of 4096 bytes.
use Rattle.std.proofs.Common.{◌≤◌, ◌^◌, arith}
use Rattle.std.proofs.Math.Nat.{div-le_self}
use Rattle.std.proofs.lemmas.Nat.{mul-le}
use Rattle.nor_times.proofs.bus.Job.block_clocks.Goals as goal

pub returns-clause-small : goal.returns-clause-small
returns-clause-small c =
    let pages : c.from.result ≤ 2 ^ 32 = omega (arith, c.from.ensures, div-le_self c.args.size c.page-page.result, c.ranges.size.fits) in
    let read : c.read_clocks.result ≤ 33063 = omega (arith, c.read_clocks.ensures.small, c.page-page.ensures.small) in
    omega (arith, mul-le c.from.result c.read_clocks.result (2 ^ 32) 33063 pages read, c.change_clocks-erase.ensures, c.head_clocks.ensures.small)
