use Rattle.nor_hex.proofs.SegmentLemmas.{only_same}
use Rattle.nor_hex.proofs.segments.joined.Goals as goal

pub returns-in-Some : goal.returns-in-Some
returns-in-Some g c =
    rw (c.in_ok-push.ensures.items, c.new-list.ensures.items) (only_same _ c.args.pieces.bytes.items c.in-Some.segment c.requires c.in-Some.ensures)
