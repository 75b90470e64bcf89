-- The play is on a ready chip with that content, and the check by what it leaves.
use Rattle.std.proofs.Common.{◌≡◌, [], false, refl, ◌∙◌}
use Rattle.nor_base.specs.Chip.{chip_of}
use Rattle.nor_chip.specs.Ready.{ready_chip}
use Rattle.norprog_player.proofs.TakenLemmas.{well, other, wrong_at}
use Rattle.norprog_player.proofs.rehearsal.rehearse_whole.Goals as goal

pub returns-in-Ok-Yes : goal.returns-in-Ok-Yes
returns-in-Ok-Yes c =
    let is : c.new-chip.result ≡ ready_chip (chip_of c.args.meaning.now c.args.start [] false) c.args.content.now =
    c.new-chip.ensures ∙ rw (c.new.ensures.items, c.in_ok-array.ensures.items) refl in
    well _ _ _ c.args.content.now c.in_ok-left-in-Ok-Yes.left c.args.steps.now _ is c.in-Ok.ensures.played (c.in_ok-left-in-Ok-Yes.ensures.items ∙ c.content-in-Ok-Yes.ensures)
    (rw c.content.ensures at (c.in-Ok-Yes.ensures.yes.0 c.in-Ok-Yes.field-0-is))

pub returns-in-Ok-No : goal.returns-in-Ok-No
returns-in-Ok-No c =
    let is : c.new-chip.result ≡ ready_chip (chip_of c.args.meaning.now c.args.start [] false) c.args.content.now =
    c.new-chip.ensures ∙ rw (c.new.ensures.items, c.in_ok-array.ensures.items) refl in
    other _ _ _ c.args.content.now c.content.result.now c.args.steps.now _ c.in-Ok-No.step c.in-Ok-No.why is c.in-Ok.ensures.played c.content.ensures
    (rw c.in-Ok-No.field-0-is at c.in-Ok-No.ensures.worst)

pub returns-in-Err-Wrong : goal.returns-in-Err-Wrong
returns-in-Err-Wrong c =
    let is : c.new-chip.result ≡ ready_chip (chip_of c.args.meaning.now c.args.start [] false) c.args.content.now =
    c.new-chip.ensures ∙ rw (c.new.ensures.items, c.in_ok-array.ensures.items) refl in
    rw (c.in-Err-Wrong.step-is, c.in-Err-Wrong.why-is)
    (wrong_at _ _ _ c.args.content.now c.args.steps.now c.in-Err-Wrong.step c.in-Err-Wrong.why c.in-Err-Wrong.field-0 is c.in-Err-Wrong.field-0-is c.in-Err-Wrong.ensures.played)
