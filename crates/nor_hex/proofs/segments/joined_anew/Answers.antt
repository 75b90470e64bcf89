use Rattle.std.proofs.Common.{◌≡◌, ◌+◌, ◌-◌, ◌++◌, ℕ, List, length, take, drop, sym, ap, ◌∙◌, subst, arith}
use Rattle.std.proofs.lemmas.Grind.{common_steps}
use Rattle.std.specs.BTreeMap.{get}
use Rattle.std.specs.Ordering.{nat_cmp}
use Rattle.nor_hex.proofs.ListLemmas.{length-part}
use Rattle.nor_hex.proofs.SegmentLemmas.{IsMade, made_more, made_all}
use Rattle.nor_hex.proofs.segments.joined_anew.Goals as goal

pub loop-last-preserved : goal.loop-last-preserved
loop-last-preserved g c =
    let piece = c.in-Some.piece in
    let given = c.args.pieces.now.bytes.items in
    let last = c.in-Some.last in
    let n = piece.place + (last - piece.first) + 1 - piece.place in
    let run = take n (drop piece.place given) in
    let rises = c.requires.rises last piece c.in-Some.ensures.found in
    let inside = c.requires.inside last piece c.in-Some.ensures.found in
    let len : length run ≡ n = length-part given n piece.place (omega arith) in
    let items : c.extend_from_slice.new.self.items ≡ c.loop-last.bytes.items ++ run = c.in_ok-extend_from_slice.ensures.items ∙ ap (λ xs. c.loop-last.bytes.items ++ take n (drop piece.place xs)) c.deref.ensures.value in
    let place : length c.loop-last.bytes.items ≡ c.len-in-Some.result = let ok = c.loop-last.bytes.ok in grind (arith, common_steps, c.len-in-Some.ensures) in
    rw c.from-from.ensures
    (subst (λ (xs : List ℕ). IsMade (get nat_cmp c.args.pieces.now.by_last) given c.add_segment.new.list.items xs (last + 1)) (sym items)
    (made_more _ given c.loop-last.list.items c.add_segment.new.list.items c.loop-last.bytes.items c.loop-last.from last n piece c.requires c.in-Some.ensures (omega arith) c.loop-last.invariant
    (c.in_ok-add_segment.ensures c.loop-last.bytes.items run c.loop-last.invariant.right place (omega arith))))

pub returns : goal.returns
returns g c =
    made_all _ c.args.pieces.now.bytes.items c.loop-last.list.items c.loop-last.bytes.items c.loop-last.from c.in_default.ensures c.loop-last.invariant
