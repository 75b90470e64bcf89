use Rattle.nor_hex.proofs.UnionLemmas.{just_made}
use Rattle.nor_hex.proofs.image.Image.of_bytes.Goals as goal

pub returns : goal.returns
returns c =
    let made = c.in_ok-joined.field-0 in
    record { just = just_made made.list.items made.bytes.items made.right _ _ c.args.at c.args.bytes.now c.no_pieces-pieces.ensures.none c.in_ok-add_run.ensures.added c.in_ok-joined.ensures }
