-- The symbols of the bytes, and samples behind them.
use Rattle.std.proofs.Common.{◌≡◌, ◌+◌, ◌*◌, ◌++◌, length, drop, ◌∙◌, ap, arith, rules, length-append}
use Rattle.std.specs.Prelude.{replicate, flat_map}
use Rattle.nor_base.specs.Clocks.{bits}
use Rattle.nor_flasher.proofs.OperationLemmas.{filled, samples_left}
use Rattle.nor_flasher.proofs.kept.operation.Goals as goal

pub returns : goal.returns
returns c =
    let put = c.spread1.new.clocks in
    let back = c.split_at_mut-front.result.1.now in
    let sum : c.in_ok-all.all ≡ c.in_ok-bits.bits + 8 * c.args.asked = search rules in
    let items : c.resize.new.self.items ≡ replicate c.in_ok-all.all 0x2E = search rules in
    let left : back ≡ drop c.in_ok-bits.bits c.resize.new.self.items = search rules in
    let samples = samples_left c.resize.new.self.items back c.in_ok-all.all c.in_ok-bits.bits (8 * c.args.asked) items left sum in
    let long : c.resize.new.self.len ≡ length (put ++ back) = omega (arith, length-append put back, c.in_ok-resize.ensures.len, c.spread1.auto.clocks, c.split_at_mut-front.ensures.front_len, c.split_at_mut-front.ensures.back_len, c.deref_mut.ensures.len) in
    c.new.ensures ∙ filled (put ++ back) _ c.resize.new.self.len long ∙ ap (λ xs. xs ++ back) c.spread1.ensures ∙ ap (λ xs. flat_map bits c.args.sent.now ++ xs) samples
