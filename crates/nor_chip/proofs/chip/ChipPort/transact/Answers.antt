-- The effect of what the clocks are.
use Rattle.std.proofs.Common.{ap, refl, sym, ◌∙◌}
use Rattle.nor_base.specs.Effect.{effect_of}
use Rattle.nor_base.proofs.SampledLaws.{asks_sampled}
use Rattle.nor_chip.specs.Sent.{instruction_of}
use Rattle.nor_chip.proofs.TakeLemmas.{taken, unknown, decoded, known, refused}
use Rattle.nor_chip.proofs.chip.ChipPort.transact.Goals as goal

pub returns-in-None-clause-effect : goal.returns-in-None-clause-effect
returns-in-None-clause-effect c = (
  unknown c.args.self.now.setting c.args.self.now.chip c.self.inside.meaning.now c.self.inside.mode4 c.args.clocks.now c.decode.result
      (ap (λ v. v.setting.meaning) c.self.view_is) (ap (λ v. v.chip.mode4) c.self.view_is) c.decode.ensures c.in-None.is,
  refl,
)

pub take-requires-clause-room : goal.take-requires-clause-room
take-requires-clause-room c =
    let found = decoded c.self.inside.meaning.now c.self.inside.mode4 c.args.clocks.now c.decode.result c.in-Some.seen c.decode.ensures c.in-Some.is in
    let is = taken c.args.self.now.setting c.args.self.now.chip (instruction_of c.in-Some.seen) (sym c.refusal.ensures ∙ c.in-None-refusal.is) in
    c.requires ∙ sym (asks_sampled c.self.inside.meaning.now c.self.inside.mode4 c.args.clocks.now (instruction_of c.in-Some.seen) found is.known)

pub returns-in-Some-refusal-clause-effect : goal.returns-in-Some-refusal-clause-effect
returns-in-Some-refusal-clause-effect c = (
  known c.args.self.now.setting c.args.self.now.chip c.self.inside.meaning.now c.self.inside.mode4 c.args.clocks.now c.decode.result c.in-Some.seen
      (ap (λ v. v.setting.meaning) c.self.view_is) (ap (λ v. v.chip.mode4) c.self.view_is) c.decode.ensures c.in-Some.is
      ∙ refused (effect_of c.args.self.now.setting c.args.self.now.chip (instruction_of c.in-Some.seen)) c.in-Some-refusal.why (sym c.refusal.ensures ∙ c.in-Some-refusal.is),
  refl,
)

pub returns-in-None-refusal-clause-effect : goal.returns-in-None-refusal-clause-effect
returns-in-None-refusal-clause-effect c = (
  known c.args.self.now.setting c.args.self.now.chip c.self.inside.meaning.now c.self.inside.mode4 c.args.clocks.now c.decode.result c.in-Some.seen
      (ap (λ v. v.setting.meaning) c.self.view_is) (ap (λ v. v.chip.mode4) c.self.view_is) c.decode.ensures c.in-Some.is
      ∙ c.take.ensures.effect,
  c.take.ensures.stays,
)
