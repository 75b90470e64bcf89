-- One after the other.
use Rattle.std.proofs.Common.{◌∙◌, ap, refl}
use Rattle.nor_base.proofs.FaultLaws.{handed_on}
use Rattle.nor_base.specs.Wire.{wire}
use Rattle.norprog_read.specs.Came.{HidesLine, ShowsLine}
use Rattle.norprog_read.specs.Size.{asked_register, noted_size}
use Rattle.norprog_read.specs.Stops.{AtContent, AtEnd, AtFile, AtId, AtLine, AtMeaning, AtMode, AtPast, AtRegister, AtSize, AtStatus, AtTables, OtherId, StopsChip, Unexpected}
use Rattle.norprog_read.proofs.CameLemmas.{read_as}
use Rattle.norprog_read.proofs.PartLemmas.{reaches}
use Rattle.norprog_read.specs.Way.{way}
use Rattle.norprog_read.proofs.ChipLemmas.{end_is, ended, held, identified, known, made, ops_are, ready, way_is}
use Rattle.norprog_read.proofs.chip.ask_chip.Goals as goal

pub returns-in_err-check_file-clause-stops : goal.returns-in_err-check_file-clause-stops
returns-in_err-check_file-clause-stops g c =
    handed_on (StopsChip _ _ _ _) _ _ c.from_residual.ensures.1 (AtFile _ refl c.in_err-check_file.ensures.stops)

pub returns-in_err-first-clause-stops : goal.returns-in_err-first-clause-stops
returns-in_err-first-clause-stops g c =
    handed_on (StopsChip _ _ _ _) _ _ c.from_residual-in_err-first.ensures.1 (AtStatus _ c.in_err-first.ensures.stops)

pub returns-in_err-id-clause-stops : goal.returns-in_err-id-clause-stops
returns-in_err-id-clause-stops g c =
    let u1 = wire (g.W.ByteOut.held c.ask_status.new.to) (g.R.ByteIn.ahead c.ask_status.new.from) in
    handed_on (StopsChip _ _ _ _) _ _ c.from_residual-in_err-id.ensures.1
    (AtId u1 c.in_ok-first.first _ c.in_ok-first.ensures.status c.in_err-id.ensures.stops)

pub returns-in_err-see_id-clause-stops : goal.returns-in_err-see_id-clause-stops
returns-in_err-see_id-clause-stops g c =
    let u1 = wire (g.W.ByteOut.held c.ask_status.new.to) (g.R.ByteIn.ahead c.ask_status.new.from) in
    let other = c.in_err-see_id.ensures.other in
    handed_on (StopsChip _ _ _ _) _ c.in_err-see_id.field-0.0 c.from_residual-in_err-see_id.ensures.1
    (rw other.0 (Unexpected u1 c.in_ok-first.first c.in_ok-id.id c.in_ok-first.ensures.status c.in_ok-id.ensures.id other.1))

pub returns-in_err-tables-clause-stops : goal.returns-in_err-tables-clause-stops
returns-in_err-tables-clause-stops g c =
    let u1 = wire (g.W.ByteOut.held c.ask_status.new.to) (g.R.ByteIn.ahead c.ask_status.new.from) in
    let u2 = wire (g.W.ByteOut.held c.ask_id.new.to) (g.R.ByteIn.ahead c.ask_id.new.from) in
    handed_on (StopsChip _ _ _ _) _ _ c.from_residual-in_err-tables.ensures.1
    (AtTables u2 (identified {w = u2} u1 _ c.in_ok-id.id c.in_ok-first.ensures.status c.in_ok-id.ensures.id c.in_ok-id.ensures.driven
    c.in_ok-see_id.ensures.expected) _ c.in_err-tables.ensures.stops)

pub returns-in_err-meaning-clause-stops : goal.returns-in_err-meaning-clause-stops
returns-in_err-meaning-clause-stops g c =
    let u1 = wire (g.W.ByteOut.held c.ask_status.new.to) (g.R.ByteIn.ahead c.ask_status.new.from) in
    let u2 = wire (g.W.ByteOut.held c.ask_id.new.to) (g.R.ByteIn.ahead c.ask_id.new.from) in
    let refused = c.in_err-meaning.ensures.refused in
    handed_on (StopsChip _ _ _ _) _ _ c.from_residual-in_err-meaning.ensures.1
    (AtMeaning (known u2 (identified {w = u2} u1 _ c.in_ok-id.id c.in_ok-first.ensures.status c.in_ok-id.ensures.id c.in_ok-id.ensures.driven
    c.in_ok-see_id.ensures.expected) c.in_ok-tables.ensures.tables c.in_ok-tables.ensures.alike) _ refused.0 (rw c.as_slice.ensures.value at refused.1) refused.2)

pub returns-in_err-see_size-clause-stops : goal.returns-in_err-see_size-clause-stops
returns-in_err-see_size-clause-stops g c =
    let u1 = wire (g.W.ByteOut.held c.ask_status.new.to) (g.R.ByteIn.ahead c.ask_status.new.from) in
    let u2 = wire (g.W.ByteOut.held c.ask_id.new.to) (g.R.ByteIn.ahead c.ask_id.new.from) in
    let means = rw c.as_slice.ensures.value at c.in_ok-meaning.ensures.means in
    handed_on (StopsChip _ _ _ _) _ c.in_err-see_size.field-0.0 c.from_residual-in_err-see_size.ensures.1
    (AtSize (known u2 (identified {w = u2} u1 _ c.in_ok-id.id c.in_ok-first.ensures.status c.in_ok-id.ensures.id c.in_ok-id.ensures.driven
    c.in_ok-see_id.ensures.expected) c.in_ok-tables.ensures.tables c.in_ok-tables.ensures.alike) c.in_ok-meaning.meaning _ means
    (rw c.as_slice-2.ensures.value at c.in_err-see_size.ensures.other))

pub returns-in_err-status-clause-stops : goal.returns-in_err-status-clause-stops
returns-in_err-status-clause-stops g c =
    let ask = c.args.ask.now in
    let m = c.in_ok-meaning.meaning in
    let u1 = wire (g.W.ByteOut.held c.ask_status.new.to) (g.R.ByteIn.ahead c.ask_status.new.from) in
    let u2 = wire (g.W.ByteOut.held c.ask_id.new.to) (g.R.ByteIn.ahead c.ask_id.new.from) in
    let u3 = wire (g.W.ByteOut.held c.ask_tables.new.to) (g.R.ByteIn.ahead c.ask_tables.new.from) in
    let means = rw c.as_slice.ensures.value at c.in_ok-meaning.ensures.means in
    let ops = ops_are ask m c.begins4-said.ensures c.in_ok-meaning.ensures.start c.modes_of-modes.ensures c.as_slice-3.ensures.value in
    handed_on (StopsChip _ _ _ _) _ _ c.from_residual-in_err-status.ensures.1
    (AtMode u3 (known u2 (identified {w = u2} u1 _ c.in_ok-id.id c.in_ok-first.ensures.status c.in_ok-id.ensures.id c.in_ok-id.ensures.driven
    c.in_ok-see_id.ensures.expected) c.in_ok-tables.ensures.tables c.in_ok-tables.ensures.alike) m _ means (rw ops at c.in_err-status.ensures.stops))

pub returns-in_err-see_register-clause-stops : goal.returns-in_err-see_register-clause-stops
returns-in_err-see_register-clause-stops g c =
    let ask = c.args.ask.now in
    let m = c.in_ok-meaning.meaning in
    let u1 = wire (g.W.ByteOut.held c.ask_status.new.to) (g.R.ByteIn.ahead c.ask_status.new.from) in
    let u2 = wire (g.W.ByteOut.held c.ask_id.new.to) (g.R.ByteIn.ahead c.ask_id.new.from) in
    let u3 = wire (g.W.ByteOut.held c.ask_tables.new.to) (g.R.ByteIn.ahead c.ask_tables.new.from) in
    let ur = wire (g.W.ByteOut.held c.make_mode.new.to) (g.R.ByteIn.ahead c.make_mode.new.from) in
    let means = rw c.as_slice.ensures.value at c.in_ok-meaning.ensures.means in
    let ops = ops_are ask m c.begins4-said.ensures c.in_ok-meaning.ensures.start c.modes_of-modes.ensures c.as_slice-3.ensures.value in
    let mode = rw ops at c.in_ok-status.ensures.made in
    let register = c.asked_register.ensures ∙ ap (asked_register ask.content) c.as_slice-4.ensures.value in
    handed_on (StopsChip _ _ _ _) _ _ c.from_residual-in_err-see_register.ensures.1
    (AtRegister ur (made u3 (known u2 (identified {w = u2} u1 _ c.in_ok-id.id c.in_ok-first.ensures.status c.in_ok-id.ensures.id c.in_ok-id.ensures.driven
    c.in_ok-see_id.ensures.expected) c.in_ok-tables.ensures.tables c.in_ok-tables.ensures.alike) means mode) _ (rw register at c.in_err-see_register.ensures.stops))

pub returns-in_err-content-clause-stops : goal.returns-in_err-content-clause-stops
returns-in_err-content-clause-stops g c =
    let most = c.args.limits.now.asked in
    let ask = c.args.ask.now in
    let m = c.in_ok-meaning.meaning in
    let u1 = wire (g.W.ByteOut.held c.ask_status.new.to) (g.R.ByteIn.ahead c.ask_status.new.from) in
    let u2 = wire (g.W.ByteOut.held c.ask_id.new.to) (g.R.ByteIn.ahead c.ask_id.new.from) in
    let u3 = wire (g.W.ByteOut.held c.ask_tables.new.to) (g.R.ByteIn.ahead c.ask_tables.new.from) in
    let ur = wire (g.W.ByteOut.held c.make_mode.new.to) (g.R.ByteIn.ahead c.make_mode.new.from) in
    let u4 = wire (g.W.ByteOut.held c.see_register.new.to) (g.R.ByteIn.ahead c.see_register.new.from) in
    let means = rw c.as_slice.ensures.value at c.in_ok-meaning.ensures.means in
    let ops = ops_are ask m c.begins4-said.ensures c.in_ok-meaning.ensures.start c.modes_of-modes.ensures c.as_slice-3.ensures.value in
    let mode = rw ops at c.in_ok-status.ensures.made in
    let register = c.asked_register.ensures ∙ ap (asked_register ask.content) c.as_slice-4.ensures.value in
    let unmoved = rw register at c.in_ok-see_register.ensures.unmoved in
    let by = way_is most ask m {part = c.part_of-span.result} c.begins4-said.ensures c.in_ok-meaning.ensures.start c.modes_of-modes.ensures c.as_slice-3.ensures.value
    c.is_sure-sure.ensures in
    handed_on (StopsChip _ _ _ _) _ _ c.from_residual-in_err-content.ensures.1
    (AtContent u4 (ready ur (made u3 (known u2 (identified {w = u2} u1 _ c.in_ok-id.id c.in_ok-first.ensures.status c.in_ok-id.ensures.id c.in_ok-id.ensures.driven
    c.in_ok-see_id.ensures.expected) c.in_ok-tables.ensures.tables c.in_ok-tables.ensures.alike) means mode) unmoved) _ _ c.in_err-content.ensures.wanted c.part_of-span.ensures.part
    (rw by at c.in_err-content.ensures.stops))

pub returns-in_err-see_end-clause-stops : goal.returns-in_err-see_end-clause-stops
returns-in_err-see_end-clause-stops g c =
    let most = c.args.limits.now.asked in
    let ask = c.args.ask.now in
    let m = c.in_ok-meaning.meaning in
    let u1 = wire (g.W.ByteOut.held c.ask_status.new.to) (g.R.ByteIn.ahead c.ask_status.new.from) in
    let u2 = wire (g.W.ByteOut.held c.ask_id.new.to) (g.R.ByteIn.ahead c.ask_id.new.from) in
    let u3 = wire (g.W.ByteOut.held c.ask_tables.new.to) (g.R.ByteIn.ahead c.ask_tables.new.from) in
    let ur = wire (g.W.ByteOut.held c.make_mode.new.to) (g.R.ByteIn.ahead c.make_mode.new.from) in
    let u4 = wire (g.W.ByteOut.held c.see_register.new.to) (g.R.ByteIn.ahead c.see_register.new.from) in
    let u5 = wire (g.W.ByteOut.held c.ask_content.new.to) (g.R.ByteIn.ahead c.ask_content.new.from) in
    let means = rw c.as_slice.ensures.value at c.in_ok-meaning.ensures.means in
    let ops = ops_are ask m c.begins4-said.ensures c.in_ok-meaning.ensures.start c.modes_of-modes.ensures c.as_slice-3.ensures.value in
    let mode = rw ops at c.in_ok-status.ensures.made in
    let register = c.asked_register.ensures ∙ ap (asked_register ask.content) c.as_slice-4.ensures.value in
    let unmoved = rw register at c.in_ok-see_register.ensures.unmoved in
    let by = way_is most ask m {part = c.part_of-span.result} c.begins4-said.ensures c.in_ok-meaning.ensures.start c.modes_of-modes.ensures c.as_slice-3.ensures.value
    c.is_sure-sure.ensures in
    let gives = rw by at c.in_ok-content.ensures.content in
    let same = end_is most ask m c.in_ok-meaning.ensures.start c.past_by-by.ensures c.as_slice-5.ensures.value in
    handed_on (StopsChip _ _ _ _) _ _ c.from_residual-in_err-see_end.ensures.1
    (AtPast u5 (held u4 (ready ur (made u3 (known u2 (identified {w = u2} u1 _ c.in_ok-id.id c.in_ok-first.ensures.status c.in_ok-id.ensures.id c.in_ok-id.ensures.driven
    c.in_ok-see_id.ensures.expected) c.in_ok-tables.ensures.tables c.in_ok-tables.ensures.alike) means mode) unmoved) _ c.part_of-span.ensures.part gives) _ (rw same at c.in_err-see_end.ensures.stops))

pub returns-in_err-again-clause-stops : goal.returns-in_err-again-clause-stops
returns-in_err-again-clause-stops g c =
    let most = c.args.limits.now.asked in
    let ask = c.args.ask.now in
    let m = c.in_ok-meaning.meaning in
    let u1 = wire (g.W.ByteOut.held c.ask_status.new.to) (g.R.ByteIn.ahead c.ask_status.new.from) in
    let u2 = wire (g.W.ByteOut.held c.ask_id.new.to) (g.R.ByteIn.ahead c.ask_id.new.from) in
    let u3 = wire (g.W.ByteOut.held c.ask_tables.new.to) (g.R.ByteIn.ahead c.ask_tables.new.from) in
    let ur = wire (g.W.ByteOut.held c.make_mode.new.to) (g.R.ByteIn.ahead c.make_mode.new.from) in
    let u4 = wire (g.W.ByteOut.held c.see_register.new.to) (g.R.ByteIn.ahead c.see_register.new.from) in
    let u5 = wire (g.W.ByteOut.held c.ask_content.new.to) (g.R.ByteIn.ahead c.ask_content.new.from) in
    let ue = wire (g.W.ByteOut.held c.see_end.new.to) (g.R.ByteIn.ahead c.see_end.new.from) in
    let means = rw c.as_slice.ensures.value at c.in_ok-meaning.ensures.means in
    let ops = ops_are ask m c.begins4-said.ensures c.in_ok-meaning.ensures.start c.modes_of-modes.ensures c.as_slice-3.ensures.value in
    let mode = rw ops at c.in_ok-status.ensures.made in
    let register = c.asked_register.ensures ∙ ap (asked_register ask.content) c.as_slice-4.ensures.value in
    let unmoved = rw register at c.in_ok-see_register.ensures.unmoved in
    let by = way_is most ask m {part = c.part_of-span.result} c.begins4-said.ensures c.in_ok-meaning.ensures.start c.modes_of-modes.ensures c.as_slice-3.ensures.value
    c.is_sure-sure.ensures in
    let gives = rw by at c.in_ok-content.ensures.content in
    let same = end_is most ask m c.in_ok-meaning.ensures.start c.past_by-by.ensures c.as_slice-5.ensures.value in
    let end = rw same at c.in_ok-see_end.ensures.end in
    handed_on (StopsChip _ _ _ _) _ _ c.from_residual-in_err-again.ensures.1
    (AtEnd ue (ended u5 (held u4 (ready ur (made u3 (known u2 (identified {w = u2} u1 _ c.in_ok-id.id c.in_ok-first.ensures.status c.in_ok-id.ensures.id c.in_ok-id.ensures.driven
    c.in_ok-see_id.ensures.expected) c.in_ok-tables.ensures.tables c.in_ok-tables.ensures.alike) means mode) unmoved) _ c.part_of-span.ensures.part gives) end) _ c.in_err-again.ensures.stops)

pub returns-then-not-is_same-clause-stops : goal.returns-then-not-is_same-clause-stops
returns-then-not-is_same-clause-stops g c =
    let most = c.args.limits.now.asked in
    let ask = c.args.ask.now in
    let m = c.in_ok-meaning.meaning in
    let u1 = wire (g.W.ByteOut.held c.ask_status.new.to) (g.R.ByteIn.ahead c.ask_status.new.from) in
    let u2 = wire (g.W.ByteOut.held c.ask_id.new.to) (g.R.ByteIn.ahead c.ask_id.new.from) in
    let u3 = wire (g.W.ByteOut.held c.ask_tables.new.to) (g.R.ByteIn.ahead c.ask_tables.new.from) in
    let ur = wire (g.W.ByteOut.held c.make_mode.new.to) (g.R.ByteIn.ahead c.make_mode.new.from) in
    let u4 = wire (g.W.ByteOut.held c.see_register.new.to) (g.R.ByteIn.ahead c.see_register.new.from) in
    let u5 = wire (g.W.ByteOut.held c.ask_content.new.to) (g.R.ByteIn.ahead c.ask_content.new.from) in
    let ue = wire (g.W.ByteOut.held c.see_end.new.to) (g.R.ByteIn.ahead c.see_end.new.from) in
    let means = rw c.as_slice.ensures.value at c.in_ok-meaning.ensures.means in
    let ops = ops_are ask m c.begins4-said.ensures c.in_ok-meaning.ensures.start c.modes_of-modes.ensures c.as_slice-3.ensures.value in
    let mode = rw ops at c.in_ok-status.ensures.made in
    let register = c.asked_register.ensures ∙ ap (asked_register ask.content) c.as_slice-4.ensures.value in
    let unmoved = rw register at c.in_ok-see_register.ensures.unmoved in
    let by = way_is most ask m {part = c.part_of-span.result} c.begins4-said.ensures c.in_ok-meaning.ensures.start c.modes_of-modes.ensures c.as_slice-3.ensures.value
    c.is_sure-sure.ensures in
    let gives = rw by at c.in_ok-content.ensures.content in
    let same = end_is most ask m c.in_ok-meaning.ensures.start c.past_by-by.ensures c.as_slice-5.ensures.value in
    let end = rw same at c.in_ok-see_end.ensures.end in
    OtherId ue (ended u5 (held u4 (ready ur (made u3 (known u2 (identified {w = u2} u1 _ c.in_ok-id.id c.in_ok-first.ensures.status c.in_ok-id.ensures.id c.in_ok-id.ensures.driven
    c.in_ok-see_id.ensures.expected) c.in_ok-tables.ensures.tables c.in_ok-tables.ensures.alike) means mode) unmoved) _ c.part_of-span.ensures.part gives) end)
    c.in_ok-again.again c.in_ok-again.ensures.id (c.is_same.ensures.other c.if-not-is_same.true)

pub returns-then-hides_line-clause-stops : goal.returns-then-hides_line-clause-stops
returns-then-hides_line-clause-stops g c =
    let most = c.args.limits.now.asked in
    let ask = c.args.ask.now in
    let m = c.in_ok-meaning.meaning in
    let u1 = wire (g.W.ByteOut.held c.ask_status.new.to) (g.R.ByteIn.ahead c.ask_status.new.from) in
    let u2 = wire (g.W.ByteOut.held c.ask_id.new.to) (g.R.ByteIn.ahead c.ask_id.new.from) in
    let u3 = wire (g.W.ByteOut.held c.ask_tables.new.to) (g.R.ByteIn.ahead c.ask_tables.new.from) in
    let ur = wire (g.W.ByteOut.held c.make_mode.new.to) (g.R.ByteIn.ahead c.make_mode.new.from) in
    let u4 = wire (g.W.ByteOut.held c.see_register.new.to) (g.R.ByteIn.ahead c.see_register.new.from) in
    let u5 = wire (g.W.ByteOut.held c.ask_content.new.to) (g.R.ByteIn.ahead c.ask_content.new.from) in
    let ue = wire (g.W.ByteOut.held c.see_end.new.to) (g.R.ByteIn.ahead c.see_end.new.from) in
    let means = rw c.as_slice.ensures.value at c.in_ok-meaning.ensures.means in
    let ops = ops_are ask m c.begins4-said.ensures c.in_ok-meaning.ensures.start c.modes_of-modes.ensures c.as_slice-3.ensures.value in
    let mode = rw ops at c.in_ok-status.ensures.made in
    let register = c.asked_register.ensures ∙ ap (asked_register ask.content) c.as_slice-4.ensures.value in
    let unmoved = rw register at c.in_ok-see_register.ensures.unmoved in
    let by = way_is most ask m {part = c.part_of-span.result} c.begins4-said.ensures c.in_ok-meaning.ensures.start c.modes_of-modes.ensures c.as_slice-3.ensures.value
    c.is_sure-sure.ensures in
    let gives = rw by at c.in_ok-content.ensures.content in
    let same = end_is most ask m c.in_ok-meaning.ensures.start c.past_by-by.ensures c.as_slice-5.ensures.value in
    let end = rw same at c.in_ok-see_end.ensures.end in
    AtLine ue (ended u5 (held u4 (ready ur (made u3 (known u2 (identified {w = u2} u1 _ c.in_ok-id.id c.in_ok-first.ensures.status c.in_ok-id.ensures.id c.in_ok-id.ensures.driven
    c.in_ok-see_id.ensures.expected) c.in_ok-tables.ensures.tables c.in_ok-tables.ensures.alike) means mode) unmoved) _ c.part_of-span.ensures.part gives) end)
    (rw (c.is_same.ensures.same c.if-not-is_same.false) at c.in_ok-again.ensures.id)
    (read_as (HidesLine ask c.in_ok-id.id) c.part_of-span.result c.as_slice-6.ensures.value c.as_slice-7.ensures.value (c.hides_line.ensures.hidden c.if-hides_line.true))

pub returns-clause-read : goal.returns-clause-read
returns-clause-read g c =
    let most = c.args.limits.now.asked in
    let ask = c.args.ask.now in
    let m = c.in_ok-meaning.meaning in
    let u1 = wire (g.W.ByteOut.held c.ask_status.new.to) (g.R.ByteIn.ahead c.ask_status.new.from) in
    let u2 = wire (g.W.ByteOut.held c.ask_id.new.to) (g.R.ByteIn.ahead c.ask_id.new.from) in
    let u3 = wire (g.W.ByteOut.held c.ask_tables.new.to) (g.R.ByteIn.ahead c.ask_tables.new.from) in
    let ur = wire (g.W.ByteOut.held c.make_mode.new.to) (g.R.ByteIn.ahead c.make_mode.new.from) in
    let u4 = wire (g.W.ByteOut.held c.see_register.new.to) (g.R.ByteIn.ahead c.see_register.new.from) in
    let u5 = wire (g.W.ByteOut.held c.ask_content.new.to) (g.R.ByteIn.ahead c.ask_content.new.from) in
    let ue = wire (g.W.ByteOut.held c.see_end.new.to) (g.R.ByteIn.ahead c.see_end.new.from) in
    let means = rw c.as_slice.ensures.value at c.in_ok-meaning.ensures.means in
    let ops = ops_are ask m c.begins4-said.ensures c.in_ok-meaning.ensures.start c.modes_of-modes.ensures c.as_slice-3.ensures.value in
    let mode = rw ops at c.in_ok-status.ensures.made in
    let register = c.asked_register.ensures ∙ ap (asked_register ask.content) c.as_slice-4.ensures.value in
    let unmoved = rw register at c.in_ok-see_register.ensures.unmoved in
    let by = way_is most ask m {part = c.part_of-span.result} c.begins4-said.ensures c.in_ok-meaning.ensures.start c.modes_of-modes.ensures c.as_slice-3.ensures.value
    c.is_sure-sure.ensures in
    let gives = rw by at c.in_ok-content.ensures.content in
    let same = end_is most ask m c.in_ok-meaning.ensures.start c.past_by-by.ensures c.as_slice-5.ensures.value in
    let end = rw same at c.in_ok-see_end.ensures.end in
    record {
      part = refl;
      wanted = refl;
      asked = u1;
      identified = u2;
      known = u3;
      made = ur;
      ready = u4;
      held = u5;
      ended = ue;
      first = c.in_ok-first.first;
      idle = c.in_ok-first.ensures.status;
      id = c.in_ok-id.ensures.id;
      note = c.noted_size.ensures ∙ ap (λ said. noted_size said c.in_ok-id.id) c.said_size.ensures;
      driven = c.in_ok-id.ensures.driven;
      expected = c.in_ok-see_id.ensures.expected;
      tables = c.in_ok-tables.ensures.tables;
      file = c.in_ok-check_file.ensures.file;
      alike = c.in_ok-tables.ensures.alike;
      means = means;
      sized = rw c.as_slice-2.ensures.value at c.in_ok-see_size.ensures.same;
      mode = mode;
      unmoved = unmoved;
      asked_for = c.part_of-span.ensures.part;
      content = gives;
      end = end;
      again = rw (c.is_same.ensures.same c.if-not-is_same.false) at c.in_ok-again.ensures.id;
      shown = read_as (ShowsLine ask c.in_ok-id.id) c.part_of-span.result c.as_slice-6.ensures.value c.as_slice-7.ensures.value
          (c.hides_line.ensures.shown c.if-hides_line.false);
    }

pub see_end-requires-clause-part : goal.see_end-requires-clause-part
see_end-requires-clause-part g c =
    let most = c.args.limits.now.asked in
    let ask = c.args.ask.now in
    let m = c.in_ok-meaning.meaning in
    let span = c.part_of-span.result in
    let within = c.part_of-span.ensures.within in
    let here = reaches ask (way most m c.in_ok-meaning.start c.is_sure-sure.result span) _ _ span _ c.part_of-span.ensures.part within.1 c.in_ok-content.ensures.content in
    (within.0, rw c.as_slice-5.ensures.value here)

pub hides_line-requires : goal.hides_line-requires
hides_line-requires g c =
    let most = c.args.limits.now.asked in
    let ask = c.args.ask.now in
    let m = c.in_ok-meaning.meaning in
    let span = c.part_of-span.result in
    let within = c.part_of-span.ensures.within in
    let here = reaches ask (way most m c.in_ok-meaning.start c.is_sure-sure.result span) _ _ span _ c.part_of-span.ensures.part within.1 c.in_ok-content.ensures.content in
    record { part = (within.0, rw c.as_slice-7.ensures.value here) }
