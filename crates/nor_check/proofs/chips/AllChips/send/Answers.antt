-- By what the clocks are.
use Rattle.std.proofs.Common.{Ok, ap, refl, sym, ◌∙◌}
use Rattle.nor_chip.specs.Sent.{instruction_of}
use Rattle.nor_check.specs.Chips.{Together}
use Rattle.nor_check.proofs.Seeing.{seen_none, seen_some, send_unknown, send_refused, send_taken}
use Rattle.nor_check.proofs.chips.AllChips.send.Goals as goal

pub returns-in-None : goal.returns-in-None
returns-in-None c = (
  send_unknown c.args.self.now.kind c.args.self.now.chips c.args.clocks.now
      (seen_none c.self.inside.meaning.now c.self.inside.mode4 c.args.self.now.kind c.args.self.now.chips c.args.clocks.now c.decode.result
      (ap (λ (v : Together). v.kind.meaning) c.self.view_is) (ap (λ (v : Together). v.chips.mode4) c.self.view_is) c.decode.ensures c.in-None.is),
  refl,
)

pub returns-in-Some-refusal : goal.returns-in-Some-refusal
returns-in-Some-refusal c = (
  send_refused c.args.self.now.kind c.args.self.now.chips c.args.clocks.now (instruction_of c.in-Some.seen) c.in-Some-refusal.why
      (seen_some c.self.inside.meaning.now c.self.inside.mode4 c.args.self.now.kind c.args.self.now.chips c.args.clocks.now c.decode.result c.in-Some.seen
      (ap (λ (v : Together). v.kind.meaning) c.self.view_is) (ap (λ (v : Together). v.chips.mode4) c.self.view_is) c.decode.ensures c.in-Some.is)
      (sym c.refusal.ensures ∙ c.in-Some-refusal.is),
  refl,
)

pub returns-in-None-refusal : goal.returns-in-None-refusal
returns-in-None-refusal c = (
  send_taken c.args.self.now.kind c.args.self.now.chips c.args.clocks.now (instruction_of c.in-Some.seen)
      (seen_some c.self.inside.meaning.now c.self.inside.mode4 c.args.self.now.kind c.args.self.now.chips c.args.clocks.now c.decode.result c.in-Some.seen
      (ap (λ (v : Together). v.kind.meaning) c.self.view_is) (ap (λ (v : Together). v.chips.mode4) c.self.view_is) c.decode.ensures c.in-Some.is)
      (sym c.refusal.ensures ∙ c.in-None-refusal.is)
      ∙ ap (λ w. Ok w) (sym c.take.ensures.chips),
  c.take.ensures.stays,
)
