-- As many as there are marks, so that none is left.
use Rattle.std.proofs.Common.{◌∙◌, ap, sym, length}
use Rattle.nor_flasher.proofs.PackedLemmas.{all_of, unpacked_count}
use Rattle.nor_flasher.proofs.packed.Unpacker.rest.Goals as goal

pub returns : goal.returns
returns c =
    let inside = c.steps.inside in
    all_of _ c.args.self _ c.next.result (sym (unpacked_count inside.marks.now inside.bytes.now) ∙ ap length c.steps.view_is) c.next.ensures.next c.next.ensures.count
