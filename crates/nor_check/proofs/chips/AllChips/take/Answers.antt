-- Each instruction does what its kind says.
use Rattle.std.proofs.Common.{◌≡◌, [], false, true, sym, ◌∙◌, ap, arith, length, inl, inr}
use Rattle.nor_base.specs.declared.instruction.What.{What}
use Rattle.nor_base.specs.Effect.{after, is_program}
use Rattle.nor_chip.specs.Sent.{instruction_of}
use Rattle.nor_chip.proofs.RangeLemmas.{erase_in_range, program_in_range}
use Rattle.nor_chip.proofs.TakeLemmas.{taken}
use Rattle.nor_check.specs.Chips.{Together, one_like, least_able}
use Rattle.nor_check.specs.Judged.{all_does}
use Rattle.nor_check.proofs.chips.AllChips.take.Goals as goal

pub erase-requires : goal.erase-requires
erase-requires c =
    erase_in_range c.args.self.now.kind.meaning (instruction_of c.args.seen.now) c.in-Erase.kind c.in-Erase.is
    (taken (one_like c.args.self.now.kind [] false) (least_able c.args.self.now.chips) (instruction_of c.args.seen.now) c.requires.taken).in_range

pub program-requires-clause-inside : goal.program-requires-clause-inside
program-requires-clause-inside c =
    let whole : length c.args.self.now.chips.array ≡ c.args.self.now.kind.meaning.size =
    sym (ap (λ (v : Together). length v.chips.array) c.self.view_is) ∙ c.self.invariant.0 ∙ ap (λ (v : Together). v.kind.meaning.size) c.self.view_is in
    let range = (taken (one_like c.args.self.now.kind [] false) (least_able c.args.self.now.chips) (instruction_of c.args.seen.now) c.requires.taken).in_range in
    let programs : is_program c.args.seen.now.what ≡ true = elim c.in-Program.is [ inl one ↦ ap is_program one | inr four ↦ ap is_program four ] in
    omega (arith, whole, program_in_range c.args.self.now.kind.meaning (instruction_of c.args.seen.now) programs range)

pub returns-in-Enable-clause-chips : goal.returns-in-Enable-clause-chips
unfolding after
returns-in-Enable-clause-chips c =
    c.set_latches.ensures.chips ∙ ap (λ (w : What). all_does c.args.self.now.kind c.args.self.now.chips (instruction_of c.args.seen.now) w) (sym c.in-Enable.is)

pub returns-in-Disable-clause-chips : goal.returns-in-Disable-clause-chips
unfolding after
returns-in-Disable-clause-chips c =
    c.set_latches-in-Disable.ensures.chips ∙ ap (λ (w : What). all_does c.args.self.now.kind c.args.self.now.chips (instruction_of c.args.seen.now) w) (sym c.in-Disable.is)

pub returns-in-Enter-clause-chips : goal.returns-in-Enter-clause-chips
unfolding after
returns-in-Enter-clause-chips c =
    c.switch_mode.ensures.chips ∙ ap (λ (w : What). all_does c.args.self.now.kind c.args.self.now.chips (instruction_of c.args.seen.now) w) (sym c.in-Enter.is)

pub returns-in-Leave-clause-chips : goal.returns-in-Leave-clause-chips
unfolding after
returns-in-Leave-clause-chips c =
    c.switch_mode-in-Leave.ensures.chips ∙ ap (λ (w : What). all_does c.args.self.now.kind c.args.self.now.chips (instruction_of c.args.seen.now) w) (sym c.in-Leave.is)

pub returns-in-Erase-clause-chips : goal.returns-in-Erase-clause-chips
unfolding after
returns-in-Erase-clause-chips c =
    c.erase.ensures.chips ∙ ap (λ (w : What). all_does c.args.self.now.kind c.args.self.now.chips (instruction_of c.args.seen.now) w) (sym c.in-Erase.is)

pub returns-in-Program-clause-chips : goal.returns-in-Program-clause-chips
unfolding after
returns-in-Program-clause-chips c = elim c.in-Program.is [
  | inl is ↦ c.program.ensures.chips ∙ ap (λ (w : What). all_does c.args.self.now.kind c.args.self.now.chips (instruction_of c.args.seen.now) w) (sym is)
  | inr is ↦ c.program.ensures.chips ∙ ap (λ (w : What). all_does c.args.self.now.kind c.args.self.now.chips (instruction_of c.args.seen.now) w) (sym is)
]

pub returns-in-Status-clause-chips : goal.returns-in-Status-clause-chips
unfolding after
returns-in-Status-clause-chips c = ap (λ (w : What). all_does c.args.self.now.kind c.args.self.now.chips (instruction_of c.args.seen.now) w) (sym c.in-Status.is)

pub returns-in-Read-clause-chips : goal.returns-in-Read-clause-chips
unfolding after
returns-in-Read-clause-chips c = ap (λ (w : What). all_does c.args.self.now.kind c.args.self.now.chips (instruction_of c.args.seen.now) w) (sym c.in-Read.is)

pub returns-in-QuadRead-clause-chips : goal.returns-in-QuadRead-clause-chips
unfolding after
returns-in-QuadRead-clause-chips c = ap (λ (w : What). all_does c.args.self.now.kind c.args.self.now.chips (instruction_of c.args.seen.now) w) (sym c.in-QuadRead.is)

pub returns-in-Broken-clause-chips : goal.returns-in-Broken-clause-chips
unfolding after
returns-in-Broken-clause-chips c = ap (λ (w : What). all_does c.args.self.now.kind c.args.self.now.chips (instruction_of c.args.seen.now) w) (sym c.in-Broken.is)
