use Rattle.std.proofs.Common.{arith}
use Rattle.nor_hex.proofs.NextLemmas.{rising_last, none_from, run_there}
use Rattle.nor_hex.proofs.ViewLemmas.{has_none, run_from}
use Rattle.nor_hex.proofs.image.Image.run_from.Goals as goal

pub next_segment-requires : goal.next_segment-requires
next_segment-requires c =
    let segments = c.self.inside.segments in
    rw c.deref.ensures.value (rising_last segments.list.items segments.bytes.items segments.right)

pub returns-in_err-segment : goal.returns-in_err-segment
returns-in_err-segment c =
    let segments = c.self.inside.segments in
    rw (c.from_residual.ensures, ← c.self.view_is)
    (has_none segments.list.items segments.bytes.items segments.right c.args.from
    (none_from segments.list.items segments.bytes.items c.args.from (rw c.deref.ensures.value at c.in_err-segment.ensures)))

pub overflow_add-place : goal.overflow_add-place
overflow_add-place c =
    let right = c.self.inside.segments.right in
    let next = rw c.deref.ensures.value at c.in_ok-segment.ensures in
    let inside = right.inside next.index c.in_ok-segment.segment next.here in
    let rises = right.rises next.index c.in_ok-segment.segment next.here in
    let past = next.past in
    omega arith

pub overflow_add-result : goal.overflow_add-result
overflow_add-result c =
    let right = c.self.inside.segments.right in
    let next = rw c.deref.ensures.value at c.in_ok-segment.ensures in
    let inside = right.inside next.index c.in_ok-segment.segment next.here in
    let rises = right.rises next.index c.in_ok-segment.segment next.here in
    let past = next.past in
    omega arith

pub overflow_add-result-2 : goal.overflow_add-result-2
overflow_add-result-2 c =
    let right = c.self.inside.segments.right in
    let next = rw c.deref.ensures.value at c.in_ok-segment.ensures in
    let inside = right.inside next.index c.in_ok-segment.segment next.here in
    let rises = right.rises next.index c.in_ok-segment.segment next.here in
    let past = next.past in
    omega arith

pub slice_bounds-result-end : goal.slice_bounds-result-end
slice_bounds-result-end c =
    let right = c.self.inside.segments.right in
    let next = rw c.deref.ensures.value at c.in_ok-segment.ensures in
    let inside = right.inside next.index c.in_ok-segment.segment next.here in
    let rises = right.rises next.index c.in_ok-segment.segment next.here in
    let past = next.past in
    let len = c.deref-2.ensures.len in
    omega arith

pub returns : goal.returns
returns c =
    let segments = c.self.inside.segments in
    let next = rw c.deref.ensures.value at c.in_ok-segment.ensures in
    rw (c.deref-2.ensures.value, ← c.self.view_is)
    (run_from segments.list.items segments.bytes.items segments.right c.args.from c.max-at.result _
    (run_there segments.list.items segments.bytes.items c.args.from c.max-at.result _ c.in_ok-segment.segment segments.right next c.max-at.ensures (let past = next.past in omega arith)))
