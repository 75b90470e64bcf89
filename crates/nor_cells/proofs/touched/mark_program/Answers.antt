-- One byte more.
use Rattle.std.proofs.Common.{◌≡◌, ◌∙◌, ap, arith}
use Rattle.nor_base.specs.Effect.{place}
use Rattle.nor_base.specs.Parameters.{Parameters}
use Rattle.nor_chip.specs.Sent.{instruction_of}
use Rattle.nor_cells.proofs.TouchedLemmas.{programs_none, programs_more, programs_all}
use Rattle.nor_cells.proofs.touched.mark_program.Goals as goal

pub loop-index-init : goal.loop-index-init
loop-index-init c = programs_none c.args.meaning.now (instruction_of c.args.seen.now) c.args.marks.now

pub loop-index-preserved : goal.loop-index-preserved
loop-index-preserved c =
    let at = c.place-at.ensures.value ∙ ap (λ (m : Parameters). place m.page c.args.seen.now.address c.loop-index.index) c.meaning.view_is in
    programs_more c.args.meaning.now (instruction_of c.args.seen.now) c.loop-index.index c.place-at.result c.args.marks.now c.loop-index.marks c.mark.new.marks
    at c.loop-index.invariant c.mark.ensures

pub returns : goal.returns
returns c =
    let all : c.loop-index.index ≡ c.count_sent-index-end.result = omega (arith, c.loop-index-test.false, c.loop-index.auto.index-end) in
    programs_all c.args.meaning.now (instruction_of c.args.seen.now) c.loop-index.index c.args.marks.now c.loop-index.marks (all ∙ c.count_sent-index-end.ensures)
    c.loop-index.invariant
