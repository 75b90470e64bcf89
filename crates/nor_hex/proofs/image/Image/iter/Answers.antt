use Rattle.std.proofs.Common.{◌≡◌, length, sym, ap, ◌∙◌, ◌^◌, arith}
use Rattle.nor_hex.specs.Segments.{pairs_of}
use Rattle.nor_hex.proofs.ImageLemmas.{contains_from_byte}
use Rattle.nor_hex.proofs.ViewLemmas.{rising, increasing, byte_from_contains, whole_length, has_none}
use Rattle.nor_hex.proofs.image.Image.iter.Goals as goal

pub returns-clause-rising : goal.returns-clause-rising
returns-clause-rising c =
    let segments = c.self.inside.segments in
    rw (← c.self.view_is) (increasing 0 (pairs_of segments.list.items segments.bytes.items) (rising 0 segments.list.items segments.bytes.items segments.right (λ s e. omega arith)))

pub returns-clause-below : goal.returns-clause-below
returns-clause-below c =
    let segments = c.self.inside.segments in
    rw (← c.self.view_is)
    (has_none segments.list.items segments.bytes.items segments.right (2 ^ 32)
    (λ address byte past held. let to = held.to in let fits = segments.right.fits held.index held.segment held.here in absurd (omega arith)))

pub returns-clause-given : goal.returns-clause-given
returns-clause-given c =
    let segments = c.self.inside.segments in
    λ address byte. (contains_from_byte c.args.self.now address byte, λ found. rw (← c.self.view_is) (byte_from_contains segments.list.items segments.bytes.items address byte segments.right (rw (← c.self.view_is) at found)))

pub returns-clause-few : goal.returns-clause-few
returns-clause-few c =
    let segments = c.self.inside.segments in
    let ok = segments.bytes.ok in
    let small = segments.bytes.small in
    let len : length c.args.self.now ≡ length segments.bytes.items = sym (ap length c.self.view_is) ∙ whole_length segments.list.items segments.bytes.items segments.right ∙ segments.whole in
    rw len (omega arith)
