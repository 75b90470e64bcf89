-- FFh over the part.
use Rattle.std.proofs.Common.{◌≡◌, ◌-◌, ◌+◌, ◌≤◌, ℕ, ap, arith, drop, replicate, sym, take, ◌∙◌, length}
use Rattle.std.proofs.Math.ListN.{length-replicate}
use Rattle.std.proofs.lemmas.List.{length-drop, length-take-le}
use Rattle.std.proofs.lemmas.Slice.{put_mid-paste}
use Rattle.nor_chip.proofs.EraseLemmas.{filled_is_erased}
use Rattle.nor_chip.proofs.erase.fill_block.Goals as goal

pub returns : goal.returns
returns c =
    let size : (c.args.from + c.args.size) - c.args.from ≡ c.args.size = omega arith in
    let enough : (c.args.from + c.args.size) - c.args.from ≤ length (drop c.args.from c.args.array.now) = omega (arith, length-drop c.args.from c.args.array.now, c.requires) in
    let part : length (take ((c.args.from + c.args.size) - c.args.from) (drop c.args.from c.args.array.now)) ≡ c.args.size =
    length-take-le ((c.args.from + c.args.size) - c.args.from) (drop c.args.from c.args.array.now) enough ∙ size in
    put_mid-paste c.args.from _ c.args.array.now c.fill_erased.new.bytes (replicate c.args.size 255) c.args.size
    (c.fill_erased.ensures ∙ ap (λ (n : ℕ). replicate n 255) part) (sym size) (sym (length-replicate c.args.size 255))
    ∙ filled_is_erased c.args.from c.args.size c.args.array.now c.requires
