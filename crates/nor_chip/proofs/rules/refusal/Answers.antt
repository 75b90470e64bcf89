-- The page of a program that is in range lies on the chip.
use Rattle.std.proofs.Common.{arith, sym, ◌∙◌}
use Rattle.nor_chip.specs.Sent.{instruction_of}
use Rattle.nor_chip.proofs.RangeLemmas.{page_inside, page_is_power, page_not_empty, program_in_range}
use Rattle.nor_chip.proofs.rules.refusal.Goals as goal

pub is_barred-requires-clause-some : goal.is_barred-requires-clause-some
is_barred-requires-clause-some c = page_not_empty c.args.state.now.page (page_is_power c.args.state.now.meaning.now c.args.state.now.page c.acceptance.ensures c.requires.page)

pub is_barred-requires-clause-inside : goal.is_barred-requires-clause-inside
is_barred-requires-clause-inside c =
    let inside = program_in_range c.args.state.now.meaning.now (instruction_of c.args.seen.now)
    (sym c.is_program.ensures ∙ c.if-is_program.true) (sym c.is_out_of_range.ensures ∙ c.if-is_out_of_range.false) in
    let power = page_is_power c.args.state.now.meaning.now c.args.state.now.page c.acceptance.ensures c.requires.page in
    let fits = page_inside c.args.state.now.meaning.now c.args.state.now.page c.args.seen.now.address c.acceptance.ensures power inside in
    omega (arith, fits, c.requires.size)
