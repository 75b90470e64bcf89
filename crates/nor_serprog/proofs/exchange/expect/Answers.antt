-- Byte by byte.
use Rattle.std.proofs.Common.{◌≡◌, ◌≢◌, get_or, length, arith}
use Rattle.nor_serprog.proofs.ExchangeLemmas.{another_met}
use Rattle.nor_serprog.proofs.exchange.expect.Goals as goal

pub returns-then-got-byte-clause-meets : goal.returns-then-got-byte-clause-meets
returns-then-got-byte-clause-meets g c =
    let one : length c.filled.new.got ≡ 1 = omega (arith, c.loop-place.invariant.one) in
    let other : get_or c.filled.new.got 0 0 ≢ get_or c.args.want.now c.loop-place.place 0 = c.if-got-byte.true in
    another_met _ _ _ c.args.want.now c.filled.new.got c.loop-place.place c.other_byte.result c.loop-place-test.true one other c.other_byte.ensures c.loop-place.invariant.given
    c.in_ok-filled.ensures.fills
