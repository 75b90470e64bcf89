-- An erased byte takes any byte.
use Rattle.std.proofs.Common.{sym}
use Rattle.std.specs.List.{slice_index}
use Rattle.nor_base.specs.Instructions.{form_of}
use Rattle.nor_chip.specs.Sent.{sent}
use Rattle.nor_chip.proofs.KernelLemmas.{may_over_erased}
use Rattle.nor_decode.proofs.SmallLemmas.{sent_below}
use Rattle.nor_chip.proofs.program.may_send.Goals as goal

pub returns-then-old-eq255 : goal.returns-then-old-eq255
returns-then-old-eq255 c =
    let small = sent_below (form_of c.args.seen.now.what) c.args.seen.now.body.now c.args.index in
    rw (c.if-old-eq255.true) (sym (may_over_erased c.args.meaning.now (slice_index (sent c.args.seen.now) c.args.index) small))
