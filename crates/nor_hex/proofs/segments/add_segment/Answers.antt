use Rattle.std.proofs.Common.{◌≡◌, ◌+◌, ◌^◌, ◌<◌, ◌≤◌, length, [], slice_get, refl, sym, ap, ◌∙◌, arith}
use Rattle.std.proofs.lemmas.List.{append-nil}
use Rattle.std.proofs.lemmas.Grind.{common_steps}
use Rattle.nor_hex.proofs.ListLemmas.{get-below}
use Rattle.nor_hex.proofs.PutLemmas.{get-append_here}
use Rattle.nor_hex.proofs.SegmentLemmas.{appended, lengthened, gap_before}
use Rattle.nor_hex.proofs.segments.add_segment.Goals as goal

pub returns-in_ok-push-in-Some : goal.returns-in_ok-push-in-Some
returns-in_ok-push-in-Some g c = λ bytes run right place last.
    let rises = c.requires.rises in
    let few = c.ranges.last.fits in
    rw c.in_ok-push-in-Some.ensures.items
    (lengthened c.args.list.now.items bytes run c.args.first (omega arith) (omega arith) right c.pop.new.self.items c.in-Some.before _ c.in-Some.ensures.items c.if-before-first.true (c.requires.place c.pop.new.self.items c.in-Some.before c.in-Some.ensures.items ∙ sym place) refl refl (omega arith))

pub returns-in_ok-push-in-Some-2-2 : goal.returns-in_ok-push-in-Some-2-2
returns-in_ok-push-in-Some-2-2 g c = λ bytes run right place last.
    let rises = c.requires.rises in
    let few = c.ranges.last.fits in
    let some : 0 < length run = omega arith in
    let fits : c.args.first + length run ≤ 2 ^ 32 = omega arith in
    let below = c.requires.below (length c.pop.new.self.items) c.in-Some.before (ap (λ xs. slice_get xs (length c.pop.new.self.items)) c.in-Some.ensures.items ∙ get-append_here c.pop.new.self.items [] c.in-Some.before) in
    rw (c.in_ok-push-in-Some-2-2.ensures.items, c.in_ok-push-in-Some-2.ensures.items, ← c.in-Some.ensures.items)
    (appended c.args.list.now.items bytes run c.args.first some fits right _ refl (sym place) (sym last)
    (gap_before c.args.list.now.items bytes run c.args.first some fits right c.pop.new.self.items c.in-Some.before c.in-Some.ensures.items below c.if-before-first.false))

pub returns-in_ok-push-in-None : goal.returns-in_ok-push-in-None
returns-in_ok-push-in-None g c = λ bytes run right place last.
    let rises = c.requires.rises in
    let few = c.ranges.last.fits in
    let empty : c.args.list.now.items ≡ c.pop.new.self.items = c.in-None.ensures.items ∙ append-nil c.pop.new.self.items in
    rw (c.in_ok-push-in-None.ensures.items, ← empty)
    (appended c.args.list.now.items bytes run c.args.first (omega arith) (omega arith) right _ refl (sym place) (sym last) (λ i s e. let below = get-below c.args.list.now.items i s e in let ok = c.args.list.now.ok in absurd (grind (arith, common_steps, c.in-None.ensures.cases))))
