-- By what the clocks are.
use Rattle.std.proofs.Common.{ap, sym, ◌∙◌}
use Rattle.nor_base.specs.Parameters.{Parameters}
use Rattle.nor_chip.specs.Sent.{instruction_of}
use Rattle.nor_check.specs.Chips.{Together}
use Rattle.nor_check.proofs.Seeing.{seen_none, seen_some, leaves_none, leaves_by, leaves_not}
use Rattle.nor_check.proofs.chips.AllChips.leaves_page.Goals as goal

pub returns-in-None : goal.returns-in-None
returns-in-None c =
    leaves_none c.args.self.now.kind.meaning c.args.self.now.chips.mode4 c.args.clocks.now
    (seen_none c.self.inside.meaning.now c.self.inside.mode4 c.args.self.now.kind c.args.self.now.chips c.args.clocks.now c.decode.result
    (ap (λ (v : Together). v.kind.meaning) c.self.view_is) (ap (λ (v : Together). v.chips.mode4) c.self.view_is) c.decode.ensures c.in-None.is)

pub returns-then-is_program : goal.returns-then-is_program
returns-then-is_program c =
    leaves_by c.args.self.now.kind.meaning c.args.self.now.chips.mode4 c.args.clocks.now (instruction_of c.in-Some.seen) c.meaning.inside.page c.lies_in_page.result
    (seen_some c.self.inside.meaning.now c.self.inside.mode4 c.args.self.now.kind c.args.self.now.chips c.args.clocks.now c.decode.result c.in-Some.seen
    (ap (λ (v : Together). v.kind.meaning) c.self.view_is) (ap (λ (v : Together). v.chips.mode4) c.self.view_is) c.decode.ensures c.in-Some.is)
    (sym c.is_program.ensures ∙ c.if-is_program.true)
    (ap (λ (m : Parameters). m.page) c.meaning.view_is ∙ ap (λ (v : Together). v.kind.meaning.page) c.self.view_is) c.lies_in_page.ensures

pub returns-else-is_program : goal.returns-else-is_program
returns-else-is_program c =
    leaves_not c.args.self.now.kind.meaning c.args.self.now.chips.mode4 c.args.clocks.now (instruction_of c.in-Some.seen) c.is_program.result
    (seen_some c.self.inside.meaning.now c.self.inside.mode4 c.args.self.now.kind c.args.self.now.chips c.args.clocks.now c.decode.result c.in-Some.seen
    (ap (λ (v : Together). v.kind.meaning) c.self.view_is) (ap (λ (v : Together). v.chips.mode4) c.self.view_is) c.decode.ensures c.in-Some.is)
    c.is_program.ensures c.if-is_program.false
