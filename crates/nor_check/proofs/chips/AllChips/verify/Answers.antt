-- By what the clocks are, and the bytes that they give.
use Rattle.std.proofs.Common.{◌≡◌, false, true, refl, rules, Ok, ap, sym, ◌∙◌}
use Rattle.nor_base.specs.Run.{is_verify}
use Rattle.nor_chip.specs.Sent.{instruction_of}
use Rattle.nor_check.specs.Chips.{Together}
use Rattle.nor_check.proofs.Steps.{no_status}
use Rattle.nor_check.proofs.Seeing.{seen_none, seen_some, verify_not, verify_unknown, verify_refused, verify_differs, verify_taken}
use Rattle.nor_check.proofs.chips.AllChips.verify.Goals as goal

pub returns-then-not-is_verify : goal.returns-then-not-is_verify
returns-then-not-is_verify c =
    let other : is_verify c.args.clocks.now ≡ false = search rules in (verify_not c.args.self.now.kind c.args.self.now.chips c.args.clocks.now c.args.expect.now other, refl)

pub returns-in-None : goal.returns-in-None
returns-in-None c =
    let verify : is_verify c.args.clocks.now ≡ true = search rules in (
      verify_unknown c.args.self.now.kind c.args.self.now.chips c.args.clocks.now c.args.expect.now verify
          (seen_none c.self.inside.meaning.now c.self.inside.mode4 c.args.self.now.kind c.args.self.now.chips c.args.clocks.now c.decode.result
          (ap (λ (v : Together). v.kind.meaning) c.self.view_is) (ap (λ (v : Together). v.chips.mode4) c.self.view_is) c.decode.ensures c.in-None.is),
      refl,
    )

pub returns-in-Some-refusal : goal.returns-in-Some-refusal
returns-in-Some-refusal c =
    let verify : is_verify c.args.clocks.now ≡ true = search rules in (
      verify_refused c.args.self.now.kind c.args.self.now.chips c.args.clocks.now c.args.expect.now (instruction_of c.in-Some.seen) c.in-Some-refusal.why verify
          (seen_some c.self.inside.meaning.now c.self.inside.mode4 c.args.self.now.kind c.args.self.now.chips c.args.clocks.now c.decode.result c.in-Some.seen
          (ap (λ (v : Together). v.kind.meaning) c.self.view_is) (ap (λ (v : Together). v.chips.mode4) c.self.view_is) c.decode.ensures c.in-Some.is)
          (sym c.refusal.ensures ∙ c.in-Some-refusal.is),
      refl,
    )

pub gives-requires-clause-quiet : goal.gives-requires-clause-quiet
gives-requires-clause-quiet c =
    let verify : is_verify c.args.clocks.now ≡ true = search rules in
    no_status c.args.self.now.kind.meaning c.args.self.now.kind.start c.args.self.now.chips.mode4 c.args.clocks.now (instruction_of c.in-Some.seen) c.verifying_reads.ensures verify
    (seen_some c.self.inside.meaning.now c.self.inside.mode4 c.args.self.now.kind c.args.self.now.chips c.args.clocks.now c.decode.result c.in-Some.seen
    (ap (λ (v : Together). v.kind.meaning) c.self.view_is) (ap (λ (v : Together). v.chips.mode4) c.self.view_is) c.decode.ensures c.in-Some.is)

pub returns-then-not-gives : goal.returns-then-not-gives
returns-then-not-gives c =
    let verify : is_verify c.args.clocks.now ≡ true = search rules in (
      verify_differs c.args.self.now.kind c.args.self.now.chips c.args.clocks.now c.args.expect.now (instruction_of c.in-Some.seen) verify
          (seen_some c.self.inside.meaning.now c.self.inside.mode4 c.args.self.now.kind c.args.self.now.chips c.args.clocks.now c.decode.result c.in-Some.seen
          (ap (λ (v : Together). v.kind.meaning) c.self.view_is) (ap (λ (v : Together). v.chips.mode4) c.self.view_is) c.decode.ensures c.in-Some.is)
          (sym c.refusal.ensures ∙ c.in_default.is) (sym c.gives.ensures ∙ c.if-not-gives.true),
      refl,
    )

pub returns : goal.returns
returns c =
    let verify : is_verify c.args.clocks.now ≡ true = search rules in (
      verify_taken c.args.self.now.kind c.args.self.now.chips c.args.clocks.now c.args.expect.now (instruction_of c.in-Some.seen) verify
          (seen_some c.self.inside.meaning.now c.self.inside.mode4 c.args.self.now.kind c.args.self.now.chips c.args.clocks.now c.decode.result c.in-Some.seen
          (ap (λ (v : Together). v.kind.meaning) c.self.view_is) (ap (λ (v : Together). v.chips.mode4) c.self.view_is) c.decode.ensures c.in-Some.is)
          (sym c.refusal.ensures ∙ c.in_default.is) (sym c.gives.ensures ∙ c.if-not-gives.false) ∙ ap (λ w. Ok w) (sym c.take.ensures.chips),
      c.take.ensures.stays,
    )
