use Rattle.std.proofs.Common.{◌≡◌, length, ap, ◌∙◌, sym, arith}
use Rattle.std.proofs.lemmas.Grind.{common_steps}
use Rattle.nor_hex.proofs.ViewLemmas.{whole_length}
use Rattle.nor_hex.proofs.image.Image.count.Goals as goal

pub returns : goal.returns
returns c =
    let segments = c.self.inside.segments in
    let ok = segments.bytes.ok in
    let len : c.len.result ≡ length segments.bytes.items = grind (arith, common_steps, c.len.ensures) in
    len ∙ sym segments.whole ∙ sym (whole_length segments.list.items segments.bytes.items segments.right) ∙ ap length c.self.view_is
