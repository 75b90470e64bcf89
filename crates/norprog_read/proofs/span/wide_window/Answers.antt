-- The largest block has at most 16 MiB.
use Rattle.std.proofs.Common.{◌≤◌, ◌^◌, arith}
use Rattle.std.proofs.Math.Pow.{pow_mono}
use Rattle.norprog_read.proofs.span.wide_window.Goals as goal

pub returns-clause-most : goal.returns-clause-most
returns-clause-most c =
    let power = c.window_size.ensures.power in
    let most : 2 ^ power.exponent ≤ 2 ^ 24 = pow_mono power.at_most in
    omega (arith, c.max.ensures, power.value, most)
