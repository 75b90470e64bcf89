-- One more byte, and all of them.
use Rattle.std.proofs.Common.{◌≡◌, ℕ, ◌<◌, ◌≤◌, ◌-◌, ◌+◌, length, set, get_or, sym, subst, arith}
use Rattle.std.specs.Prelude.{bit_and}
use Rattle.nor_base.specs.Effect.{place}
use Rattle.nor_chip.specs.Sent.{sent}
use Rattle.nor_chip.proofs.PlaceLemmas.{place_by}
use Rattle.nor_chip.proofs.KernelLemmas.{IsWrittenUpTo, written_more, is_programmed}
use Rattle.nor_chip.proofs.program.program.Goals as goal

pub loop-index-preserved : goal.loop-index-preserved
loop-index-preserved c =
    let is : c.place_in-at.result ≡ place c.args.page c.args.seen.now.address c.loop-index.index =
    place_by c.args.page c.args.seen.now.address c.loop-index.index _ c.place_in-at.ensures.value in
    let first : length (sent c.args.seen.now) - c.args.page ≤ c.loop-index.index = omega arith in
    let sent_too : c.loop-index.index < length (sent c.args.seen.now) = omega (arith, c.loop-index-test.true, c.count_sent-count.ensures) in
    let inside : place c.args.page c.args.seen.now.address c.loop-index.index < length c.loop-index.array =
    omega (arith, is, c.place_in-at.ensures.upto, c.loop-index.auto.array, c.requires.inside) in
    let more = written_more c.args.page c.args.seen.now.address (sent c.args.seen.now) c.args.array.now c.loop-index.array c.loop-index.index first sent_too inside c.loop-index.invariant in
    subst (λ (at : ℕ). IsWrittenUpTo c.args.page c.args.seen.now.address (sent c.args.seen.now) c.args.array.now
    (set c.loop-index.array at (bit_and (get_or c.loop-index.array at 0) c.byte.result)) (c.loop-index.index + 1)) (sym is)
    (subst (λ (byte : ℕ). IsWrittenUpTo c.args.page c.args.seen.now.address (sent c.args.seen.now) c.args.array.now
    (set c.loop-index.array (place c.args.page c.args.seen.now.address c.loop-index.index)
    (bit_and (get_or c.loop-index.array (place c.args.page c.args.seen.now.address c.loop-index.index) 0) byte)) (c.loop-index.index + 1))
    (sym c.byte.ensures) more)

pub returns : goal.returns
returns c =
    let all : c.loop-index.index ≡ length (sent c.args.seen.now) = omega (arith, c.loop-index.auto.index-end, c.first_kept-index.ensures) in
    is_programmed c.args.page c.args.seen.now.address (sent c.args.seen.now) c.args.array.now c.loop-index.array c.requires.some
    (subst (IsWrittenUpTo c.args.page c.args.seen.now.address (sent c.args.seen.now) c.args.array.now c.loop-index.array) all c.loop-index.invariant)
