-- A byte that may not be programmed, and none.
use Rattle.std.proofs.Common.{◌≡◌, ℕ, ◌<◌, ◌≤◌, ◌-◌, ◌∙◌, false, true, length, get_or, sym, subst, arith}
use Rattle.nor_base.specs.Effect.{place, may_program}
use Rattle.nor_chip.specs.Sent.{sent}
use Rattle.nor_chip.proofs.PlaceLemmas.{place_by}
use Rattle.nor_chip.proofs.KernelLemmas.{MayAllUpTo, bar_told, may_more, none_barred}
use Rattle.nor_chip.proofs.program.is_barred.Goals as goal

pub returns-then-not-may_send : goal.returns-then-not-may_send
returns-then-not-may_send c =
    let is : c.place_in.result ≡ place c.args.page c.args.seen.now.address c.loop-index.index =
    place_by c.args.page c.args.seen.now.address c.loop-index.index _ c.place_in.ensures.value in
    let first : length (sent c.args.seen.now) - c.args.page ≤ c.loop-index.index = omega arith in
    let sent_too : c.loop-index.index < length (sent c.args.seen.now) = omega (arith, c.loop-index-test.true, c.count_sent-count.ensures) in
    let inside : place c.args.page c.args.seen.now.address c.loop-index.index < length c.args.array.now =
    omega (arith, is, c.place_in.ensures.upto, c.requires.inside) in
    sym (bar_told c.args.meaning.now c.args.page c.args.seen.now.address (sent c.args.seen.now) c.args.array.now c.loop-index.index sent_too first inside
    (subst (λ (at : ℕ). may_program c.args.meaning.now (get_or c.args.array.now at 0) (get_or (sent c.args.seen.now) c.loop-index.index 0) ≡ false) is
    (sym c.may_send.ensures ∙ c.if-not-may_send.true)))

pub loop-index-preserved : goal.loop-index-preserved
loop-index-preserved c =
    let is : c.place_in.result ≡ place c.args.page c.args.seen.now.address c.loop-index.index =
    place_by c.args.page c.args.seen.now.address c.loop-index.index _ c.place_in.ensures.value in
    may_more c.args.meaning.now c.args.page c.args.seen.now.address (sent c.args.seen.now) c.args.array.now c.loop-index.index c.loop-index.invariant
    (subst (λ (at : ℕ). may_program c.args.meaning.now (get_or c.args.array.now at 0) (get_or (sent c.args.seen.now) c.loop-index.index 0) ≡ true) is
    (sym c.may_send.ensures ∙ c.if-not-may_send.false))

pub returns : goal.returns
returns c =
    let all : c.loop-index.index ≡ length (sent c.args.seen.now) = omega (arith, c.loop-index.auto.index-end, c.first_kept-index.ensures) in
    sym (none_barred c.args.meaning.now c.args.page c.args.seen.now.address (sent c.args.seen.now) c.args.array.now c.requires.some
    (subst (MayAllUpTo c.args.meaning.now c.args.page c.args.seen.now.address (sent c.args.seen.now) c.args.array.now) all c.loop-index.invariant))
