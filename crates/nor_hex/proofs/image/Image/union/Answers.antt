use Rattle.nor_hex.proofs.UnionLemmas.{union_made}
use Rattle.nor_hex.proofs.image.Image.union.Goals as goal

pub returns-clause-union : goal.returns-clause-union
returns-clause-union c =
    let made = c.in_ok-joined.field-0 in
    union_made made.list.items made.bytes.items made.right _ _ _ c.args.self.now c.args.other.now c.no_pieces-pieces.ensures.none c.in_ok-add_image.ensures.added c.in_ok-add_image-2.ensures.added c.in_ok-joined.ensures
