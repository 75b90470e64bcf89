use Rattle.std.proofs.Common.{◌≡◌, ◌<◌, ℕ, rules, sym, subst, slice_index, List}
use Rattle.nor_hex.proofs.ViewLemmas.{gives_bytes}
use Rattle.nor_hex.proofs.image.Image.copied.Goals as goal

pub returns-clause-bytes : goal.returns-clause-bytes
returns-clause-bytes c =
    let segments = c.self.inside.segments in
    let list : c.extend_from_slice.new.self.items ≡ segments.list.items = search rules in
    let bytes : c.extend_from_slice-2.new.self.items ≡ segments.bytes.items = search rules in
    let taken : c.as_slice-3.result.now ≡ segments.bytes.items = search rules in
    let small = subst (λ (xs : List ℕ). (k : ℕ) → slice_index xs k < 256) taken c.are_bytes.ensures in
    rw (list, bytes) (gives_bytes segments.list.items segments.bytes.items segments.right small)
